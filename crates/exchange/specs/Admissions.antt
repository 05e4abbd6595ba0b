-- Which records are taken from a peer, beyond what a dialog asks of them.
use Rattle.std.specs.Prelude.{ℕ, ℤ, pos, ◌+ℤ◌, ◌*◌, nat_lt, int_lt, ◌==◌, ◌&&◌, ◌||◌, is_some, Bool, true, false, not, List, [], ◌∷◌, take, drop, Option, None, Some, option_map, Result, Ok, Err, if◌then◌else◌}
use Rattle.std.specs.Option.{option_map_or}
use Rattle.std.specs.List.{list_any}
use Rattle.ua_binary.specs.Format.{◌>>=◌}
use Rattle.records.specs.declared.record.Record.{Record}
use Rattle.exchange.specs.declared.admission.Admission.{Admission as Lent}
use Rattle.exchange.specs.declared.admission.Bound.{Bound}
use Rattle.exchange.specs.declared.fault.ExchangeFault.{ExchangeFault}
use Rattle.exchange.specs.declared.fault.ExchangeFault.TheVariants.{AheadOfClock, NotAdmitted}
use Rattle.exchange.specs.declared.message.Message.{Message}
use Rattle.exchange.specs.declared.message.Party.{Party}
use Rattle.exchange.specs.Dialogs.{records_in}
use Rattle.exchange.specs.Frames.{frame_header, message_at}
use Rattle.exchange.specs.Streams.{FrameContent}

-- which records are taken at a time: those of these replicas, or of all; of one of them up to this
-- number, where there is such a bound; with ticks that are so many seconds ahead of it, or any
pub record Admission : Type 0 where
  pub replicas : Option (List ℕ)
  pub bound : Option Bound
  pub ahead : Option ℕ
  pub time : ℤ

-- the one that is lent so
abbrev pub admission_of : Lent → Admission
admission_of lent = record {
  replicas = option_map (λ replicas. replicas.now) lent.replicas;
  bound = lent.bound;
  ahead = lent.ahead;
  time = lent.time;
}

-- all records are taken
abbrev pub is_open : Admission → Bool
is_open a = not (is_some a.replicas || is_some a.bound || is_some a.ahead)

-- the records of this replica are taken
abbrev pub is_admitted : Admission → (origin : ℕ) → Bool
is_admitted a origin =
    option_map_or (λ replicas. list_any (λ replica. replica == origin) replicas) a.replicas true

-- this record is beyond the bound
abbrev pub is_above : Admission → Record → Bool
is_above a r =
    option_map_or (λ bound. (bound.replica == r.origin) && nat_lt bound.number r.number) a.bound
    false

-- this tick is further ahead of the time than is taken; a second has 10,000,000 ticks
abbrev pub is_ahead : Admission → (tick : ℤ) → Bool
is_ahead a tick =
    option_map_or (λ seconds. int_lt (a.time +ℤ pos (seconds * 10000000)) tick) a.ahead false

-- a record is taken, or why it isn't
abbrev pub admitted : Admission → Record → Result (Unit {0}) ExchangeFault
admitted a r =
    if not (is_admitted a r.origin) then Err NotAdmitted
    else if is_above a r then Err NotAdmitted
    else if is_ahead a r.tick then Err AheadOfClock
    else Ok tt

-- all of these are taken, or why the first that isn't is not
abbrev pub all_admitted : Admission → List Record → Result (Unit {0}) ExchangeFault
all_admitted a [] = Ok tt
all_admitted a (r ∷ rs) = admitted a r >>= λ _. all_admitted a rs

-- the records of a message are; what is no message is left to the dialog
abbrev pub message_admitted : Admission → Result Message ExchangeFault
    → Result (Unit {0}) ExchangeFault
message_admitted a (Ok m) = all_admitted a (records_in m)
message_admitted a (Err fault) = Ok tt

-- the frame that stands first, if it is whole
abbrev pub first_frame : List ℕ → Option FrameContent
first_frame waiting = elim (frame_header waiting) [
  | Ok (Some header) ↦ Some (record {
    kind = header.kind;
    body = drop 8 (take header.size waiting);
  })
  | _ ↦ None
]

-- the records of the frame that stands first are taken by a party, if it is whole
abbrev pub first_admitted : Admission → Party → (waiting : List ℕ)
    → Result (Unit {0}) ExchangeFault
first_admitted a p waiting =
    option_map_or (λ frame. message_admitted a (message_at p frame.kind frame.body))
    (first_frame waiting) (Ok tt)
