-- What an import into a running server does, and what it tells.
use Rattle.std.specs.Prelude.{◌≡◌, ◌⊎◌, ℕ, List, [], ◌∷◌, ◌++◌, Option, Result, Ok, Err}
use Rattle.std.specs.Io.KnownBytes.{Appends}
use Rattle.ua_settings.specs.Settings.{SettingsValues}
use Rattle.historian.specs.UserSpaces.{space_for}
use Rattle.history_csv.specs.Rows.{value_names}
use Rattle.history_import.specs.declared.asked.Import.{Import}
use Rattle.history_import.specs.declared.counts.Counts.{Counts}
use Rattle.history_import.specs.declared.row_end.RowEnd.{RowEnd}
use Rattle.history_import.specs.Telling.{lines_from, counts_of}
use Rattle.history_import.specs.Imports.{HasRecords, HasFirstRecords, StopsAfter, TellsBefore, import_text}
use Rattle.ua_client.specs.Talking.{Flow}
use Rattle.ua_client.specs.declared.fault.ClientFault.{ClientFault}
use Rattle.remote_import.specs.Bringing.{SessionState, BringsRows, LeavesUnanswered}
use Rattle.remote_import.specs.Sessions.{claim_by, OpensSession, StopsOpening, EndsSession}
use Rattle.remote_import.specs.declared.fault.RemoteFault.{RemoteFault}
use Rattle.remote_import.specs.declared.fault.RemoteFault.TheVariants.{Rows, Server}

-- the row behind these of a text wasn't answered, and of those before it all was told
abbrev pub BreaksAt : SettingsValues → Import → (input : Option (List ℕ)) → List (List (List ℕ))
    → List RowEnd → (old new : SessionState) → (before after : Option (List ℕ)) → Type 0
BreaksAt settings asked input rows ends old new before after =
    (fields : List (List ℕ)) × HasFirstRecords input (value_names ∷ (rows ++ fields ∷ []))
    × LeavesUnanswered (space_for settings asked.user.now) asked fields old new
    × Appends before after (lines_from 1 ends)

-- how it ended behind these rows: behind the header all rows of a text were brought, and all was
-- told of them; or a fault of reading or telling ended it, or one of the server at the next row
abbrev pub EndsImport : SettingsValues → Import → (input : Option (List ℕ))
    → List (List (List ℕ)) → List RowEnd → (old new : SessionState)
    → (before after : Option (List ℕ)) → Result Counts RemoteFault → Type 0
EndsImport settings asked input rows ends old new before after result =
    elim result [
      | Ok counts ↦ (new ≡ old) × HasRecords input (value_names ∷ rows)
          × (counts ≡ counts_of ends) × Appends before after (import_text ends)
      | Err (Rows why) ↦ (new ≡ old) × StopsAfter why input rows
          × TellsBefore why input rows ends before after
      | Err (Server fault) ↦ BreaksAt settings asked input rows ends old new before after
    ]

-- rows were brought to a server one after the other, and it ended so
pub record BringsText (settings : SettingsValues) (asked : Import) (input : Option (List ℕ))
    (old new : SessionState) (before after : Option (List ℕ)) (result : Result Counts RemoteFault)
    : Type 0 where
  pub rows : List (List (List ℕ))
  pub ends : List RowEnd
  pub between : SessionState
  pub brings : BringsRows (space_for settings asked.user.now) asked rows ends old between
  pub ended : EndsImport settings asked input rows ends between new before after result

-- no session is known to be open as the import's user, and nothing was told
abbrev pub OpensNone : SettingsValues → Import → (old new : Flow) → (before after : Option (List ℕ))
    → Result Counts RemoteFault → Type 0
OpensNone settings asked old new before after result =
    (fault : ClientFault) × (result ≡ Err (Server fault)) × (after ≡ before)
    × StopsOpening (claim_by settings.users asked.user.now) asked.reading old new

-- a session was left: its end was asked for, but where a row wasn't answered in it
abbrev pub LeavesSession : Import → (last : SessionState) → (new : Flow)
    → Result Counts RemoteFault → Type 0
LeavesSession asked last new result =
    elim result [ Err (Server fault) ↦ new ≡ last.flow | _ ↦ EndsSession asked.reading last new ]

-- a session was opened as the import's user, rows were brought in it, and it was left
pub record ImportsInSession (settings : SettingsValues) (asked : Import)
    (input : Option (List ℕ)) (old new : Flow) (before after : Option (List ℕ))
    (result : Result Counts RemoteFault) : Type 0 where
  pub first : SessionState
  pub last : SessionState
  pub opens : OpensSession (claim_by settings.users asked.user.now) asked.reading old first
  pub imports : BringsText settings asked input first last before after result
  pub leaves : LeavesSession asked last new result

-- an import into the running server at the other end of a line
abbrev pub ImportsOver : SettingsValues → Import → (input : Option (List ℕ)) → (old new : Flow)
    → (before after : Option (List ℕ)) → Result Counts RemoteFault → Type 0
ImportsOver settings asked input old new before after result =
    OpensNone settings asked old new before after result
    ⊎ ImportsInSession settings asked input old new before after result
