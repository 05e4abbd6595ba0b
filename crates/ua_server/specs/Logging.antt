-- What is told on standard error of what comes about on connections.
use Rattle.std.specs.Prelude.{◌≡◌, ◌≢◌, ◌⊎◌, slice_get, ℕ, ◌-◌, ◌==◌, ℤ, pos, ◌+ℤ◌, int_le, int_lt, nat_le, ◌&&◌, Bool, true, false, List, [], ◌∷◌, ◌++◌, Option, None, Some, Result, Ok, Err, codes, if◌then◌else◌}
use Rattle.std.specs.Fmt.{decimal}
use Rattle.std.specs.declared.net.socket_addr.SocketAddr.{SocketAddr}
use Rattle.ua_binary.specs.declared.codes.Status.{Status}
use Rattle.counted_io.specs.Bytes.{counted}
use Rattle.counted_io.specs.Fault.{serve_fault_number as connection_number}
use Rattle.counted_io.specs.declared.fault.ServeFault.{ServeFault}
use Rattle.multiplex.specs.declared.handler.SlotEnd.{SlotEnd}
use Rattle.multiplex.specs.declared.handler.SlotEnd.TheVariants.{Finished, EndOfInput, ReadFailed, WriteFailed, IdleTimeout, Displaced}
use Rattle.multiplex.specs.declared.stay.Stay.{Stay}
use Rattle.multiplex.specs.declared.stay.Party.TheVariants.{Accepted, Called}
use Rattle.ua_session.specs.declared.audit.AuditEvent.{AuditEvent}
use Rattle.ua_session.specs.declared.audit.AuditEvent.TheVariants.{Activation, Update}
use Rattle.ua_session.specs.declared.audit.UpdateAudit.{UpdateAudit}
use Rattle.ua_peers.specs.declared.calling.Synced.{Synced}
use Rattle.peer_check.specs.declared.comparing.Clash.{Clash}
use Rattle.ua_peers.specs.declared.calling.SyncFault.{SyncFault}
use Rattle.ua_peers.specs.declared.calling.SyncFault.TheVariants.{Exchange}
use Rattle.ua_peers.specs.declared.peers.PeerEnded.{PeerEnded}
use Rattle.ua_peers.specs.declared.peers.PeerEnded.TheVariants as peer
use Rattle.exchange.specs.Fault.{exchange_number}
use Rattle.exchange.specs.declared.fault.ExchangeFault.TheVariants.{GivenTwice}
use Rattle.ua_connection.specs.declared.outcome.Served.{Served}
use Rattle.ua_connection.specs.declared.outcome.Served.TheVariants as client
use Rattle.history_text.specs.Statuses.{status_text}
use Rattle.event_lines.specs.Lines.{IsEventLine, connected_text, login_text, denial_text, update_text, end_text, call_text}
use Rattle.event_lines.specs.declared.lines.Moved.{Moved}
use Rattle.conversation.specs.declared.door.Door.{Door}
use Rattle.conversation.specs.declared.door.Door.TheVariants.{Both, Clients, Peers, Browsers}
use Rattle.conversation.specs.declared.ended.Ended.{Ended}
use Rattle.conversation.specs.declared.ended.Ended.TheVariants as ended
use Rattle.conversation.specs.declared.log.Parting.{Parting}
use Rattle.conversation.specs.Closing.{connection_fault}
use Rattle.conversation.specs.Doors.{door_of_listener}
use Rattle.conversation.specs.Events.{LogEvent, Telling, Connected, Audited, Denied, Parted, AcceptFailed, CallEnded, ClashFound, TurnTook}
use Rattle.conversation.specs.OtherEnds.{ConversationEnding}
use Rattle.ua_server.specs.Calls.{PrintsClash}
use Rattle.ua_server.specs.declared.log.ErrorLog.{ErrorLog}
use Rattle.ua_server.specs.declared.log.ClashName.{ClashName}
use Rattle.ua_server.specs.declared.recent.Recent.{Recent}
use Rattle.ua_server.specs.Telling.{KeepsLast, Known, Readings, LogsLine, LogsFault, LogsFailed, LogsCall, LogsTurn, told_line, numbered, fault_text, sync_fault}

-- ---- how often

-- the time is less than a second after the first line of the second in which the last line of its
-- kind was told
abbrev pub is_same_second : Recent → (at : ℤ) → Bool
is_same_second recent at = int_le recent.since at && int_lt at (recent.since +ℤ pos 10000000)

-- how many lines of the kind were told in this second
abbrev pub lines_at : Recent → (at : ℤ) → ℕ
lines_at recent at = if is_same_second recent at then recent.lines else 0

-- no more of them are told in this second
abbrev pub is_second_full : Recent → (at : ℤ) → Bool
is_second_full recent at = nat_le 100 (lines_at recent at)

-- one more was told
abbrev pub with_told : Recent → (at : ℤ) → Recent
with_told recent at = record {
  since = if is_same_second recent at then recent.since else at;
  lines = counted (lines_at recent at);
  left_out = 0;
}

-- one more wasn't told
abbrev pub with_left_out : Recent → Recent
with_left_out recent = record recent { left_out = counted recent.left_out }

-- ---- what is said

-- that memory for the line of an event is wanting
abbrev pub starved_text : List ℕ
starved_text = codes "out of memory: something that happened isn't told"

-- how many events weren't told, if any, and the end of that line
abbrev pub left_out_text : ℕ → List ℕ
left_out_text n =
    if n == 0 then []
    else decimal n ++ (codes " events more weren't told" ++ 10 ∷ codes "uahist: ")

-- a line, and in front of it one that says how many before it weren't told, if any
abbrev pub behind_left_out : (left_out : ℕ) → List ℕ → List ℕ
behind_left_out left_out line = left_out_text left_out ++ line

-- this is told of an event at this time, after so many that weren't told
abbrev pub IsToldAs : (left_out : ℕ) → (event : List ℕ) → (at : ℤ) → List ℕ → Type 0
IsToldAs left_out event at text =
    ((line : List ℕ) × IsEventLine at event line × (text ≡ behind_left_out left_out line))
    ⊎ (text ≡ starved_text)

-- who is taken at an address of the server
abbrev pub door_text : Door → List ℕ
door_text door = elim door [
  | Both ↦ codes "clients and peers"
  | Clients ↦ codes "clients"
  | Peers ↦ codes "peers"
  | Browsers ↦ codes "browsers"
]

-- where the other end of a connection is, if it is known
abbrev pub address_of : Stay → Option SocketAddr
address_of stay =
    elim stay.party [ Accepted origin ↦ origin.address | Called callee ↦ None ]

-- why a client's connection ended
abbrev pub client_reason : Served → List ℕ
client_reason served = elim served [
  | client.EndOfInput ↦ codes "the client hung up"
  | client.Closed ↦ codes "the client closed it"
  | client.Refused status ↦ codes "refused by " ++ status_text status
]

-- why a peer's did
abbrev pub peer_reason : PeerEnded → List ℕ
peer_reason end = elim end [
  | peer.EndOfInput ↦ codes "the peer hung up"
  | peer.Done ↦ codes "all was exchanged"
  | peer.Refused number ↦ numbered (codes "the peer ended the exchange") number
  | peer.Failed fault ↦ numbered (codes "exchange ended") (exchange_number fault)
]

-- why a connection ended that met no fault
abbrev pub ended_reason : Ended → List ℕ
ended_reason end = elim end [
  | ended.Client served ↦ client_reason served
  | ended.Peer parted ↦ peer_reason parted
  | ended.Stranger ↦ codes "no peer is taken from there"
  | ended.Browser ↦ codes "the browser was answered"
]

-- why a connection ended
abbrev pub end_reason : SlotEnd ConversationEnding → List ℕ
end_reason ending = elim ending [
  | Finished (Ok end) ↦ ended_reason end
  | Finished (Err fault) ↦ numbered (codes "connection ended") (connection_number fault)
  | EndOfInput ↦ codes "the other end hung up"
  | ReadFailed ↦ codes "a read failed"
  | WriteFailed ↦ codes "a write failed"
  | IdleTimeout ↦ codes "silent for too long"
  | Displaced ↦ codes "it made place for the next one"
]

-- how many records an exchange moved, for a line
abbrev pub moved_of : Synced → Moved
moved_of synced = record { learned = synced.learned; sent = synced.sent }

-- no record was moved
abbrev pub is_still : Synced → Bool
is_still synced = synced.learned == 0 && synced.sent == 0

-- how many records an exchange moved, if it moved any
abbrev pub moved_if : Synced → Option Moved
moved_if synced = if is_still synced then None else Some (moved_of synced)

-- what is said of a connection that ended
abbrev pub parting_text : Parting → List ℕ
parting_text parting =
    end_text (address_of parting.stay) (parting.at - parting.stay.began) parting.stay.answered
    (end_reason parting.ending) (moved_if parting.moved)

-- ---- what a log does

-- the first claim where this is true, else the second
abbrev pub Whether : Bool → (so other : Type 0) → Type 0
Whether true so other = so
Whether false so other = other

-- a line was written of an event, at the time that the clock gave
abbrev pub LogsTimed : {E C : Type 0} → Known E → Readings C → (event : List ℕ)
    → (old new : ErrorLog E C) → Type 0
LogsTimed contents gave event old new =
    (at : ℤ) × (text : List ℕ) × gave old.clock (at ∷ []) new.clock × IsToldAs 0 event at text
    × (new ≡ record old { errors = new.errors; clock = new.clock })
    × LogsLine contents old.errors new.errors (told_line text)

-- a line was written of an event that anybody may bring about, at this time, after how many such
-- weren't told
abbrev pub LogsCounted : {E C : Type 0} → Known E → (event : List ℕ) → (at : ℤ)
    → (old new : ErrorLog E C) → Type 0
LogsCounted contents event at old new = (text : List ℕ) × IsToldAs old.recent.left_out event at text
    × (new ≡ record old { errors = new.errors; recent = with_told old.recent at })
    × LogsLine contents old.errors new.errors (told_line text)

-- the same, where fewer than a hundred of them were told in this second; else it was counted
abbrev pub LogsLimited : {E C : Type 0} → Known E → Readings C → (event : List ℕ)
    → (old new : ErrorLog E C) → Type 0
LogsLimited contents gave event old new =
    (at : ℤ) × gave old.clock (at ∷ []) new.clock × elim (is_second_full old.recent at) [
      | true ↦ new ≡ record old { clock = new.clock; recent = with_left_out old.recent }
      | false ↦ LogsCounted contents event at (record old { clock = new.clock }) new
    ]

-- the lines of the details of an update were written, one after the other
abbrev pub LogsUpdates : {E C : Type 0} → Known E → Readings C → Option SocketAddr
    → (user : List ℕ) → List UpdateAudit → (old new : ErrorLog E C) → Type 0
LogsUpdates contents gave from user [] old new = new ≡ old
LogsUpdates {E} {C} contents gave from user (update ∷ updates) old new =
    (between : ErrorLog E C) × LogsTimed contents gave (update_text from user update) old between
    × LogsUpdates contents gave from user updates between new

-- the line of a login was written, or of a refused one, which is one of what anybody may bring
-- about
abbrev pub LogsActivation : {E C : Type 0} → Known E → Readings C → Option SocketAddr
    → (name : List ℕ) → (refused : Option Status) → (old new : ErrorLog E C) → Type 0
LogsActivation contents gave from name None old new =
    LogsTimed contents gave (login_text from name None) old new
LogsActivation contents gave from name (Some status) old new =
    LogsLimited contents gave (login_text from name (Some status)) old new

-- the lines of what was done in a session were written
abbrev pub LogsAudited : {E C : Type 0} → Known E → Readings C → Option SocketAddr → AuditEvent
    → (old new : ErrorLog E C) → Type 0
LogsAudited contents gave from event old new = elim event [
  | Activation name refused ↦ LogsActivation contents gave from name refused old new
  | Update user updates ↦ LogsUpdates contents gave from user updates old new
]

-- the line of a connection that ended was written: of one that moved records always
abbrev pub LogsEnd : {E C : Type 0} → Known E → Readings C → Parting → (old new : ErrorLog E C)
    → Type 0
LogsEnd contents gave parting old new =
    Whether (is_still parting.moved) (LogsLimited contents gave (parting_text parting) old new)
    (LogsTimed contents gave (parting_text parting) old new)

-- where events are told, this was done to the log; else it stays
abbrev pub LogsWhere : {E C : Type 0} → (old new : ErrorLog E C) → (so : Type 0) → Type 0
LogsWhere old new so = Whether old.events so (new ≡ old)

-- the fault by which a connection ended was told, if it did
abbrev pub LogsFaultOf : {E C : Type 0} → Known E → Option ServeFault → (old new : ErrorLog E C)
    → Type 0
LogsFaultOf contents fault old new =
    elim fault [ None ↦ new ≡ old | Some fault ↦ LogsFault contents old fault new ]

-- it was told how a connection ended that was accepted: its fault, and where events are told, why
abbrev pub LogsParted : {E C : Type 0} → Known E → Readings C → Parting → (old new : ErrorLog E C)
    → Type 0
LogsParted {E} {C} contents gave parting old new =
    (between : ErrorLog E C) × LogsFaultOf contents (connection_fault parting.ending) old between
    × LogsWhere between new (LogsEnd contents gave parting between new)

-- why a call of a peer ended
abbrev pub call_reason : Result (Unit {0}) SyncFault → List ℕ
call_reason outcome = elim outcome [
  | Ok done ↦ codes "all was exchanged"
  | Err fault ↦ fault_text (sync_fault fault)
]

-- it was told how a call ended: its fault, where the last one ended otherwise, and where events are
-- told, what it moved
abbrev pub LogsCalled : {E C : Type 0} → Known E → Readings C → (callee : ℕ)
    → (address : List ℕ) → Result (Unit {0}) SyncFault → Synced → (old new : ErrorLog E C) → Type 0
LogsCalled {E} {C} contents gave callee address outcome moved old new =
    (between : ErrorLog E C) × LogsCall contents old callee address outcome between
    × LogsWhere between new
    (LogsTimed contents gave (call_text address (call_reason outcome) (moved_of moved)) between new)

-- of which records a clash is
abbrev pub clash_name : Clash → ClashName
clash_name clash = record { replica = clash.held.origin; number = clash.held.number }

-- the last call of a peer ended by a clash, and the last table that was told of it is of these
-- records
abbrev pub IsClashTold : {E C : Type 0} → ErrorLog E C → (callee : ℕ) → Option ClashName
    → Type 0
IsClashTold log callee name =
    (slice_get log.calls callee ≡ Some (Some (Exchange GivenTwice)))
    × (slice_get log.clashes callee ≡ Some name)

-- the table of two records of one number that a call found was told, and it is kept which they were
abbrev pub PrintsTable : {E C : Type 0} → Known E → (callee : ℕ) → Clash → (old new : ErrorLog E C)
    → Type 0
PrintsTable contents callee clash old new =
    (new ≡ record old { errors = new.errors; clashes = new.clashes })
    × KeepsLast old.clashes new.clashes callee (Some (clash_name clash))
    × PrintsClash clash (contents old.errors.inner) (contents new.errors.inner)

-- so it is; not where the last call of that peer ended by these records too
abbrev pub LogsTable : {E C : Type 0} → Known E → (callee : ℕ) → Clash → (old new : ErrorLog E C)
    → Type 0
LogsTable contents callee clash old new =
    let is_told = IsClashTold old callee (Some (clash_name clash)) in
    (is_told × (new ≡ old)) ⊎ ((is_told → ⊥) × PrintsTable contents callee clash old new)

-- what is told on standard error of what comes about on connections
abbrev pub logs_to : {E C : Type 0} → Known E → Readings C → Telling (ErrorLog E C)
logs_to contents gave old event new = elim event [
  | Connected origin ↦ LogsWhere old new (LogsLimited contents gave
      (connected_text origin.address (door_text (door_of_listener origin.listener))) old new)
  | Audited stay audit ↦ LogsWhere old new
      (LogsAudited contents gave (address_of stay) audit old new)
  | Denied stay ↦ LogsWhere old new
      (LogsLimited contents gave (denial_text (address_of stay)) old new)
  | Parted parting ↦ LogsParted contents gave parting old new
  | AcceptFailed now ↦ LogsFailed contents old now new
  | CallEnded callee address outcome moved ↦
      LogsCalled contents gave callee address outcome moved old new
  | ClashFound callee clash ↦ LogsTable contents callee clash old new
  | TurnTook longest ↦ LogsTurn contents old longest new
]
