-- What an import does to what is held, and what it tells.
use Rattle.std.specs.Prelude.{◌≡◌, ◌⊎◌, ◌≤◌, ◌+◌, ℕ, List, [], ◌∷◌, ◌++◌, length, take, Option, Some, IfSome, Result, Ok, Err}
use Rattle.std.specs.Io.KnownBytes.{Appends}
use Rattle.csv.specs.Reading.{default_config, strip_bom, Reached, AreRecords}
use Rattle.csv.specs.declared.parser.State.{State}
use Rattle.csv.specs.declared.parser.State.TheVariants.{StartRecord}
use Rattle.archive.specs.Store.{Store, StepResult}
use Rattle.archive.specs.Steps.{Refines, each}
use Rattle.ua_settings.specs.Settings.{SettingsValues}
use Rattle.historian.specs.UserSpaces.{space_for}
use Rattle.history_csv.specs.Rows.{value_names}
use Rattle.history_import.specs.declared.asked.Import.{Import}
use Rattle.history_import.specs.declared.counts.Counts.{Counts}
use Rattle.history_import.specs.declared.fault.ImportFault.{ImportFault}
use Rattle.history_import.specs.declared.fault.ImportFault.TheVariants.{Header, Read}
use Rattle.history_import.specs.declared.row_end.RowEnd.{RowEnd}
use Rattle.history_import.specs.Rows.{row_done}
use Rattle.history_import.specs.Telling.{lines_from, counts_of, summary_of}

-- ---- the rows of a text

-- a text of CSV begins by these records, as the kit's csv reads it, if the text is known
abbrev pub HasFirstRecords : Option (List ℕ) → List (List (List ℕ)) → Type 0
HasFirstRecords known records =
    IfSome known (λ text. (state : State) × (rest : List ℕ)
    × Reached default_config StartRecord (strip_bom text) records state rest)

-- it has just these
abbrev pub HasRecords : Option (List ℕ) → List (List (List ℕ)) → Type 0
HasRecords known records =
    IfSome known (λ text. AreRecords default_config StartRecord (strip_bom text) records)

-- it doesn't begin by the header
abbrev pub HasNoHeader : Option (List ℕ) → Type 0
HasNoHeader known = IfSome known (λ text. HasFirstRecords (Some text) (value_names ∷ []) → ⊥)

-- ---- what is done

-- each row was done over what those before it left, and came to this
abbrev pub DoesRows : SettingsValues → Import → (old new : Store) → List (List (List ℕ))
    → List RowEnd → Type 0
DoesRows settings asked old new rows ends =
    (used : List StepResult)
    × Refines old new used
    (each (row_done old.own (space_for settings asked.user.now) asked) rows) ends

-- what is told of rows: a line of each that was refused, and then the summary
abbrev pub import_text : List RowEnd → List ℕ
import_text ends = lines_from 1 ends ++ summary_of (counts_of ends)

-- a text that is told of rows: a line for each that was refused; or, where the input has just these
-- rows behind the header, these lines and the summary
abbrev pub IsToldSoFar : (input : Option (List ℕ)) → List (List (List ℕ)) → List RowEnd → List ℕ
    → Type 0
IsToldSoFar input rows ends text =
    (text ≡ lines_from 1 ends)
    ⊎ (HasRecords input (value_names ∷ rows) × (text ≡ import_text ends))

-- the lines of all rows but the last were told, and a first part of what is told behind them
abbrev pub TellsPart : (input : Option (List ℕ)) → List (List (List ℕ)) → List RowEnd
    → (before after : Option (List ℕ)) → Type 0
TellsPart input rows ends before after =
    (n : ℕ) × (length ends ≤ n + 1) × (sent : List ℕ) × (unsent : List ℕ)
    × IsToldSoFar input rows ends (lines_from 1 (take n ends) ++ sent ++ unsent)
    × Appends before after (lines_from 1 (take n ends) ++ sent)

-- what was told where this fault ended an import: before a read that failed, all lines
abbrev pub TellsBefore : ImportFault → (input : Option (List ℕ)) → List (List (List ℕ))
    → List RowEnd → (before after : Option (List ℕ)) → Type 0
TellsBefore why input rows ends before after =
    elim why [
      | Header ↦ Appends before after []
      | Read ↦ Appends before after (lines_from 1 ends)
      | _ ↦ TellsPart input rows ends before after
    ]

-- which rows were done where this fault ended an import: none where the text doesn't begin by the
-- header; else the first ones behind it, or none where the fault came before it was read
abbrev pub StopsAfter : ImportFault → (input : Option (List ℕ)) → List (List (List ℕ)) → Type 0
StopsAfter why input rows =
    elim why [
      | Header ↦ HasNoHeader input × (rows ≡ [])
      | _ ↦ HasFirstRecords input (value_names ∷ rows) ⊎ (rows ≡ [])
    ]

-- Rows were done, each over what those before it left: behind the header all rows of a text, and
-- all was told of them; or, where a fault ended it, a first part of both.
abbrev pub Imports : SettingsValues → Import → (old new : Store) → (input : Option (List ℕ))
    → (before after : Option (List ℕ)) → Result Counts ImportFault → Type 0
Imports settings asked old new input before after result =
    (rows : List (List (List ℕ))) × (ends : List RowEnd)
    × DoesRows settings asked old new rows ends × elim result [
      | Ok counts ↦ HasRecords input (value_names ∷ rows) × (counts ≡ counts_of ends)
          × Appends before after (import_text ends)
      | Err why ↦ StopsAfter why input rows × TellsBefore why input rows ends before after
    ]
