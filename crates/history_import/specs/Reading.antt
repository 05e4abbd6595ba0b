-- Where the reader of a text stands, and what one turn of an import does.
use Rattle.std.specs.Prelude.{◌≡◌, ◌⊎◌, ℕ, true, false, List, [], ◌∷◌, ◌++◌, Option, Some, None, IfSome, Result, Ok, Err, MatchResult}
use Rattle.std.specs.Io.KnownBytes.{Appends}
use Rattle.csv.specs.Reading.{Ready, default_config, strip_bom, source_of, has_failed, reader_config, reader_trim, reader_state, is_flexible, Reached}
use Rattle.csv.specs.Records.{Row, fields_of}
use Rattle.csv.specs.declared.reader.Reader.{Reader}
use Rattle.csv.specs.declared.reader.Trim.TheVariants as trim
use Rattle.csv.specs.declared.parser.State.TheVariants.{StartRecord}
use Rattle.counted_io.specs.Bytes.{AppendsPart}
use Rattle.archive.specs.Store.{Store, StepResult}
use Rattle.archive.specs.Steps.{Refines}
use Rattle.ua_settings.specs.Settings.{SettingsValues}
use Rattle.historian.specs.UserSpaces.{space_for}
use Rattle.history_csv.specs.Rows.{value_names}
use Rattle.history_import.specs.declared.asked.Import.{Import}
use Rattle.history_import.specs.declared.fault.ImportFault.{ImportFault}
use Rattle.history_import.specs.declared.fault.ImportFault.TheVariants.{Header, Read, Write, OutOfMemory}
use Rattle.history_import.specs.declared.row_end.RowEnd.{RowEnd}
use Rattle.history_import.specs.Rows.{row_done}
use Rattle.history_import.specs.Imports.{HasRecords, HasNoHeader, DoesRows}

-- a reader of an import, whose next read gives one record: it takes records of any number of
-- fields, and trims none
abbrev pub IsOurs : {R : Type 0} → Reader R → Type 0
IsOurs reader = Ready reader × (has_failed reader ≡ false) × (is_flexible reader ≡ true)
    × (reader_trim reader ≡ trim.None) × (reader_config reader ≡ default_config)

-- it stands behind these records of a text, if that is known
abbrev pub StandsBehind : {R : Type 0} → (R → Option (List ℕ)) → Reader R
    → (known : Option (List ℕ)) → List (List (List ℕ)) → Type 0
StandsBehind rem reader known records = IsOurs reader
    × IfSome known (λ text. (rest : List ℕ) × (source_of rem reader ≡ Some rest)
    × Reached default_config StartRecord (strip_bom text) records (reader_state reader) rest)

-- a reader that stood behind these records gave one more, or the end of the text
abbrev pub ReadsOne : {R : Type 0} → (R → Option (List ℕ)) → Reader R → (known : Option (List ℕ))
    → List (List (List ℕ)) → Result (Option Row) ImportFault → Type 0
ReadsOne rem reader known records result =
    elim result [
      | Ok (Some row) ↦ StandsBehind rem reader known (records ++ fields_of row ∷ [])
      | Ok None ↦ HasRecords known records
      | Err why ↦ (why ≡ Read) ⊎ (why ≡ OutOfMemory)
    ]

-- a reader that stood before a text stands behind its header, or why it doesn't
abbrev pub ReadsHeader : {R : Type 0} → (R → Option (List ℕ)) → Reader R
    → (known : Option (List ℕ)) → Result (Unit {0}) ImportFault → Type 0
ReadsHeader rem reader known result =
    elim result [
      | Ok done ↦ StandsBehind rem reader known (value_names ∷ [])
      | Err Header ↦ HasNoHeader known
      | Err why ↦ (why ≡ Read) ⊎ (why ≡ OutOfMemory)
    ]

-- a row was done over what is held, and came to this
abbrev pub DoesRow : SettingsValues → Import → (old new : Store) → List (List ℕ) → RowEnd → Type 0
DoesRow settings asked old new fields end =
    (used : List StepResult)
    × Refines old new used (row_done old.own (space_for settings asked.user.now) asked fields) end

-- the archive was asked for what a row behind these records comes to, or for nothing where there is
-- none
abbrev pub DoesOne : {R : Type 0} → (R → Option (List ℕ)) → Reader R → (known : Option (List ℕ))
    → List (List (List ℕ)) → SettingsValues → Import → (old new : Store)
    → Result (Option RowEnd) ImportFault → Type 0
DoesOne rem reader known records settings asked old new result =
    elim result [
      | Ok (Some end) ↦ (fields : List (List ℕ)) × DoesRow settings asked old new fields end
          × StandsBehind rem reader known (records ++ fields ∷ [])
      | Ok None ↦ HasRecords known records × DoesRows settings asked old new [] []
      | Err why ↦ DoesRows settings asked old new [] []
          × ((why ≡ Read) ⊎ (why ≡ OutOfMemory))
    ]

-- this was written, or a first part of it
abbrev pub TellsText : (before after : Option (List ℕ)) → List ℕ → Result (Unit {0}) ImportFault
    → Type 0
TellsText before after text result =
    MatchResult result (λ done. Appends before after text)
    (λ why. ((why ≡ Write) ⊎ (why ≡ OutOfMemory)) × AppendsPart before after text)
