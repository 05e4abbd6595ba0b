-- What rows of a CSV come to at a running server: each that asks for an update is sent to it, and
-- answered.
use Rattle.std.specs.Prelude.{◌≡◌, ◌⊎◌, ℕ, List, [], ◌∷◌, ◌++◌, Option, Some, None, Result, Ok, Err}
use Rattle.csv.specs.declared.reader.Reader.{Reader}
use Rattle.ua_binary.specs.declared.codes.Status.{Status}
use Rattle.ua_services.specs.Updates.{DataUpdate}
use Rattle.history_csv.specs.declared.fault.RowFault.TheVariants.{OutOfMemory}
use Rattle.historian.specs.UserSpaces.{UserSpace, space_for}
use Rattle.history_import.specs.declared.asked.Import.{Import}
use Rattle.history_import.specs.declared.update.Update.{Update}
use Rattle.history_import.specs.declared.row_end.RowEnd.{RowEnd}
use Rattle.history_import.specs.declared.row_end.RowEnd.TheVariants.{NoRow, Answered}
use Rattle.history_import.specs.declared.fault.ImportFault.TheVariants.{Read, OutOfMemory as NoMemory}
use Rattle.history_import.specs.Imports.{HasRecords}
use Rattle.history_import.specs.Reading.{StandsBehind}
use Rattle.history_import.specs.Rows.{perform_number, code_of, row_asked}
use Rattle.ua_client.specs.Talking.{CallerState, Flow, SendsPart, Updates, update_request, message_of, flow_of}
use Rattle.ua_settings.specs.Settings.{SettingsValues}
use Rattle.remote_import.specs.declared.session.Session.{Session}
use Rattle.remote_import.specs.declared.fault.RemoteFault.{RemoteFault}
use Rattle.remote_import.specs.declared.fault.RemoteFault.TheVariants.{Rows, Server}

-- a session with a running server: how its client stands, and what flows over its line
pub record SessionState : Type 0 where
  pub client : CallerState
  pub flow : Flow

-- how a session stands, where it is known what its ends read and wrote
abbrev pub state_of : {R W : Type 0} → (R → Option (List ℕ)) → (W → Option (List ℕ))
    → Session R W → SessionState
state_of unread written session =
    record { client = session.client; flow = flow_of unread written session.line }

-- the update of one value that a row asks for, as it is sent
abbrev pub sent_update : Import → Update → DataUpdate
sent_update asked update = (update.node, (perform_number asked.perform, update.value ∷ []))

-- the request that carries it
abbrev pub row_request : CallerState → Import → Update → List ℕ
row_request client asked update = update_request client asked.reading (sent_update asked update)

-- the status of an update of one value, by the result that tells it
abbrev pub told_code : Status × List Status → Status
told_code (status, codes) = code_of (record { status = status; operation_results = codes })

-- an update was sent to the server, and what it came to is what the server answered
abbrev pub IsAnswered : Import → Update → RowEnd → (old new : SessionState) → Type 0
IsAnswered asked update end old new =
    (told : Status × List Status)
    × Updates old.client new.client (row_request old.client asked update) told old.flow new.flow
    × (end ≡ Answered (told_code told))

-- a row came to this: what it asks for was sent and answered; or it asks for nothing, or memory was
-- wanting, and nothing was sent
abbrev pub BringsRow : UserSpace → Import → List (List ℕ) → RowEnd → (old new : SessionState)
    → Type 0
BringsRow seen asked fields end old new =
    ((new ≡ old) × (end ≡ NoRow OutOfMemory))
    ⊎ (elim (row_asked seen fields) [
      | Ok update ↦ IsAnswered asked update end old new
      | Err why ↦ (new ≡ old) × (end ≡ why)
    ])

-- each row came to this, one after the other
abbrev pub BringsRows : UserSpace → Import → List (List (List ℕ)) → List RowEnd
    → (old new : SessionState) → Type 0
BringsRows seen asked [] [] old new = new ≡ old
BringsRows seen asked (fields ∷ rows) (end ∷ ends) old new =
    (between : SessionState) × BringsRow seen asked fields end old between
    × BringsRows seen asked rows ends between new
BringsRows seen asked rows ends old new = ⊥

-- a row asks for an update, whose request was sent, or its first bytes
abbrev pub LeavesUnanswered : UserSpace → Import → List (List ℕ) → (old new : SessionState) → Type 0
LeavesUnanswered seen asked fields old new =
    (update : Update) × (row_asked seen fields ≡ Ok update)
    × SendsPart old.flow new.flow (message_of old.client (row_request old.client asked update))

-- a reader that stood behind these rows of a text gave one more, and that was brought, or wasn't
-- answered; or the text ended, or the reader failed, and nothing was sent
abbrev pub BringsNext : {F : Type 0} → (F → Option (List ℕ)) → Reader F → (known : Option (List ℕ))
    → List (List (List ℕ)) → SettingsValues → Import → (old new : SessionState)
    → Result (Option RowEnd) RemoteFault → Type 0
BringsNext rem reader known rows settings asked old new result =
    let seen = space_for settings asked.user.now in
    elim result [
      | Ok (Some end) ↦ (fields : List (List ℕ)) × BringsRow seen asked fields end old new
          × StandsBehind rem reader known (rows ++ fields ∷ [])
      | Ok None ↦ (new ≡ old) × HasRecords known rows
      | Err (Rows why) ↦ (new ≡ old) × ((why ≡ Read) ⊎ (why ≡ NoMemory))
      | Err (Server fault) ↦ (fields : List (List ℕ)) × LeavesUnanswered seen asked fields old new
          × StandsBehind rem reader known (rows ++ fields ∷ [])
    ]
