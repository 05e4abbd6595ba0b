-- What is told of connections: how each ended, and that a turn of one took long.
use Rattle.std.specs.Prelude.{◌≡◌, ℕ, ℤ, ◌-◌, nat_le, Bool, true, false, List, [], ◌∷◌, Option, None, Some, Result, Ok, Err, slice_get}
use Rattle.std.specs.Option.{option_map_or}
use Rattle.multiplex.specs.declared.handler.SlotEnd.{SlotEnd}
use Rattle.multiplex.specs.declared.handler.SlotEnd.TheVariants.{Finished, EndOfInput, ReadFailed, WriteFailed, IdleTimeout, Displaced}
use Rattle.multiplex.specs.declared.stay.Stay.{Stay}
use Rattle.multiplex.specs.declared.stay.Party.{Party}
use Rattle.multiplex.specs.declared.stay.Party.TheVariants.{Accepted, Called}
use Rattle.exchange.specs.declared.fault.ExchangeFault.TheVariants.{Frame}
use Rattle.exchange.specs.Fault.{exchange_number}
use Rattle.counted_io.specs.Bytes.{counted}
use Rattle.counted_io.specs.Fault.{serve_fault_number}
use Rattle.counted_io.specs.declared.fault.ServeFault.{ServeFault}
use Rattle.counted_io.specs.declared.fault.ServeFault.TheVariants.{Read, Write}
use Rattle.ua_peers.specs.declared.peers.PeerEnded.{PeerEnded}
use Rattle.ua_peers.specs.declared.peers.PeerEnded.TheVariants as parted
use Rattle.ua_peers.specs.declared.calling.SyncFault.{SyncFault}
use Rattle.ua_peers.specs.declared.calling.SyncFault.TheVariants.{Connection, Exchange, Peer}
use Rattle.ua_peers.specs.declared.calling.Synced.{Synced}
use Rattle.ua_settings.specs.declared.peers.PeerCall.{PeerCall}
use Rattle.ua_settings.specs.Settings.{SettingsValues}
use Rattle.web_page.specs.Calls.{after_call}
use Rattle.web_page.specs.declared.calls.CallCause.{CallCause}
use Rattle.web_page.specs.declared.calls.CallCause.TheVariants as told
use Rattle.web_page.specs.declared.calls.CallEnd.{CallEnd}
use Rattle.conversation.specs.declared.ended.Ended.TheVariants as ended
use Rattle.conversation.specs.declared.other_end.OtherEnd.{OtherEnd}
use Rattle.conversation.specs.declared.world.World.{World}
use Rattle.conversation.specs.declared.log.Parting.{Parting}
use Rattle.conversation.specs.OtherEnds.{ConversationEnding, moved_by}
use Rattle.conversation.specs.Events.{Telling, Logs, CallEnded, Parted, TurnTook}

-- the fault by which a connection ended, if it did; one that was silent for too long, or made place
-- for another, ended as by a read that failed
abbrev pub connection_fault : SlotEnd ConversationEnding → Option ServeFault
connection_fault (Finished (Ok ended)) = None
connection_fault (Finished (Err fault)) = Some fault
connection_fault EndOfInput = None
connection_fault ReadFailed = Some Read
connection_fault WriteFailed = Some Write
connection_fault IdleTimeout = Some Read
connection_fault Displaced = Some Read

-- what the end of a dialog is to the one that called
abbrev pub parted_outcome : PeerEnded → Result (Unit {0}) SyncFault
parted_outcome parted.EndOfInput = Err (Exchange Frame)
parted_outcome parted.Done = Ok tt
parted_outcome (parted.Refused number) = Err (Peer number)
parted_outcome (parted.Failed fault) = Err (Exchange fault)

-- what a connection's end is to the one that called; where the peer hung up before the dialog's
-- end, that is a frame that can't be read
abbrev pub call_outcome : SlotEnd ConversationEnding → Result (Unit {0}) SyncFault
call_outcome (Finished (Ok (ended.Peer end))) = parted_outcome end
call_outcome (Finished (Ok (ended.Client end))) = Err (Exchange Frame)
call_outcome (Finished (Ok ended.Stranger)) = Err (Exchange Frame)
call_outcome (Finished (Ok ended.Browser)) = Err (Exchange Frame)
call_outcome (Finished (Err fault)) = Err (Connection fault)
call_outcome EndOfInput = Err (Exchange Frame)
call_outcome WriteFailed = Err (Connection Write)
call_outcome other = Err (Connection Read)

-- why a call didn't come to its end, as pages tell it: whether by its connection or by the
-- exchange, and the number of the fault
abbrev pub call_cause : SyncFault → CallCause
call_cause fault = elim fault [
  | Connection cause ↦ told.Connection (serve_fault_number cause)
  | Exchange cause ↦ told.Exchange (exchange_number cause)
  | Peer number ↦ told.Exchange number
]

-- how a call ended at this time, as pages tell it
abbrev pub call_end : (at : ℤ) → Result (Unit {0}) SyncFault → Synced → CallEnd
call_end at outcome moved = record {
  at = at;
  cause = elim outcome [ Ok done ↦ None | Err fault ↦ Some (call_cause fault) ];
  learned = moved.learned;
  sent = moved.sent;
}

-- a call of the peer of this number and this address ended so, at a time that the clock gave: it is
-- told, and kept as the last call of that peer; those of all others stay, and all else
pub record EndsCall {A C L : Type 0} (gave : C → List ℤ → C → Type 0) (told : Telling L)
    (v : World A C L) (callee : ℕ) (address : List ℕ) (outcome : Result (Unit {0}) SyncFault)
    (moved : Synced) (w : World A C L) : Type 0 where
  pub at : ℤ
  pub clock : gave v.clock (at ∷ []) w.clock
  pub log : told v.log (CallEnded callee address outcome moved) w.log
  pub calls : w.calls ≡ after_call callee (call_end at outcome moved) v.calls
  pub same : w ≡ record v { clock = w.clock; log = w.log; calls = w.calls }

-- the same of a peer that the settings have or lack: of none nothing is told, and all stays
abbrev pub TellsCallOf : {A C L : Type 0} → (C → List ℤ → C → Type 0) → Telling L → World A C L
    → (callee : ℕ) → Result (Unit {0}) SyncFault → Synced → World A C L → Option PeerCall → Type 0
TellsCallOf gave told v callee outcome moved w None = w ≡ v
TellsCallOf gave told v callee outcome moved w (Some peer) =
    EndsCall gave told v callee peer.address outcome moved w

-- it is told, and kept as the last call of that peer, that a call of the peer of this number ended
-- so; where the settings have no peer of this number nothing is told, and all stays
abbrev pub TellsCall : {A C L : Type 0} → (C → List ℤ → C → Type 0) → Telling L → World A C L
    → (callee : ℕ) → Result (Unit {0}) SyncFault → Synced → World A C L → Type 0
TellsCall gave told v callee outcome moved w =
    TellsCallOf gave told v callee outcome moved w (slice_get v.server.settings.peers callee)

-- how a connection that was accepted, of which this is known, ended at this time
abbrev pub parting_of : Stay → (at : ℕ) → SlotEnd ConversationEnding → Synced → Parting
parting_of stay at ending moved =
    record { stay = stay; at = at; ending = ending; moved = moved }

-- one connection more is counted
abbrev pub with_connection : {A C L : Type 0} → World A C L → World A C L
with_connection v = record v { connections = counted v.connections }

-- one less is
abbrev pub without_connection : {A C L : Type 0} → World A C L → World A C L
without_connection v = record v { connections = v.connections - 1 }

-- it was told how a connection of this party ended, and of a call how the call ended; one that was
-- accepted isn't counted any more
abbrev pub TellsEndOf : {A C L : Type 0} → (C → List ℤ → C → Type 0) → Telling L → Stay
    → World A C L → OtherEnd → SlotEnd ConversationEnding → World A C L → Party → Type 0
TellsEndOf gave told stay v other ending w (Called callee) =
    TellsCall gave told v callee (call_outcome ending) (moved_by other) w
TellsEndOf gave told stay v other ending w (Accepted origin) =
    Logs told (Parted (parting_of stay v.now ending (moved_by other))) (without_connection v)
    w

-- the same of a connection of which this is known
abbrev pub TellsEnd : {A C L : Type 0} → (C → List ℤ → C → Type 0) → Telling L → Stay
    → World A C L → OtherEnd → SlotEnd ConversationEnding → World A C L → Type 0
TellsEnd gave told stay v other ending w = TellsEndOf gave told stay v other ending w stay.party

-- it is this time for all connections
abbrev pub with_now : {A C L : Type 0} → World A C L → (now : ℕ) → World A C L
with_now v now = record v { now = now }

-- a turn of so many milliseconds is told by these settings: it takes as many as they say, or more
abbrev pub is_slow : SettingsValues → (turn : ℕ) → Bool
is_slow settings turn = option_map_or (λ least. nat_le least turn) settings.slow false

-- where the longest turn so far is slow, how long it took was told
abbrev pub TellsTurnOf : {A C L : Type 0} → Telling L → World A C L → (longest : ℕ)
    → World A C L → (slow : Bool) → Type 0
TellsTurnOf told v longest w true = Logs told (TurnTook longest) v w
TellsTurnOf told v longest w false = w ≡ v

-- the same, where the settings want a turn told that took so long
abbrev pub TellsTurn : {A C L : Type 0} → Telling L → World A C L → (longest : ℕ) → World A C L
    → Type 0
TellsTurn told v longest w =
    TellsTurnOf told v longest w (is_slow v.server.settings longest)
