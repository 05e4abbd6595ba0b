-- A frame of many records, of which some first ones are learned ahead of its turn.
use Rattle.std.specs.Prelude.{◌≡◌, ℕ, ◌+◌, ◌-◌, ◌<◌, ◌≤◌, nat_lt, count_by, false, List, [], take, length, Option, None, Some, Result, Ok, Err, option_to_list}
use Rattle.std.specs.Option.{option_map_or, option_and_then}
use Rattle.std.specs.Result.{result_err}
use Rattle.stamp.specs.Numbers.{number_of}
use Rattle.records.specs.Contents.{Content, merged}
use Rattle.records.specs.declared.record.Record.{Record}
use Rattle.archive.specs.Store.{Store, CountsFaults, KeepsContent}
use Rattle.exchange.specs.declared.fault.ExchangeFault.{ExchangeFault}
use Rattle.exchange.specs.declared.fault.ExchangeFault.TheVariants.{Learn, Store as StoreMet}
use Rattle.exchange.specs.declared.message.Party.{Party}
use Rattle.exchange.specs.Admissions.{first_frame}
use Rattle.exchange.specs.Dialogs.{DialogState, received, records_read, capped}
use Rattle.exchange.specs.Fault.{store_fault_of}
use Rattle.exchange.specs.Merging.{StopsAt, MayBeLeft}

-- the records that the frame which stands first brings to an end that stands so, if it is whole
abbrev pub first_records : Party → DialogState → (waiting : List ℕ) → List Record
first_records p s waiting =
    option_map_or (λ frame. records_read (received p s frame.kind frame.body))
    (first_frame waiting) []

-- how many of these are new where this is held, at most 2^32 - 1
abbrev pub new_among : List Record → Content → ℕ
new_among rs R = capped (length (merged rs R) - length R)

-- at most so many new records of a frame are learned in one step
abbrev pub piece : ℕ
piece = 100

-- how many of these records a vector lacks
abbrev pub lacking_of : (vector : List ℕ) → List Record → ℕ
lacking_of vector = count_by (λ r. nat_lt (number_of vector r.origin) r.number)

-- what is told where so many first ones of these were learned: how many were new, one at least, or
-- that none has to be learned ahead; or why the next one wasn't, or that the store met a fault
-- before any was
abbrev pub ReportsAhead : (old new : Store) → List Record → (learned : ℕ)
    → Result (Option ℕ) ExchangeFault → Type 0
ReportsAhead old new rs learned (Ok None) = KeepsContent old new
ReportsAhead old new rs learned (Ok (Some added)) =
    new.honest → (added ≡ new_among (take learned rs) old.content) × (0 < added)
ReportsAhead old new rs learned (Err (Learn at cause)) =
    new.honest → StopsAt old.content rs learned cause
ReportsAhead old new rs learned (Err (StoreMet fault)) = learned ≡ 0
ReportsAhead old new rs learned (Err other) = ⊥

-- the dialog counts those that were new
abbrev pub counting : DialogState → Result (Option ℕ) ExchangeFault → DialogState
counting s (Ok (Some added)) = record s { learned = capped (s.learned + added) }
counting s told = s

-- some first ones of these records, or none, were learned ahead of their frame's turn, in order
pub record LearnsAhead (old new : Store) (before after : DialogState) (rs : List Record)
    (result : Result (Option ℕ) ExchangeFault) : Type 0 where
  pub learned : ℕ
  pub tells : ReportsAhead old new rs learned result
  pub few : new.honest → new_among (take learned rs) old.content ≤ piece
  pub stands : after ≡ counting before result
  pub content : new.honest → new.broken ≡ false
      → new.content ≡ merged (take learned rs) old.content
  pub crash : new.honest → (left : Content) → new.may_hold left → MayBeLeft old rs learned left
  pub passes : CountsFaults old new
      (option_to_list (option_and_then store_fault_of (result_err result)))
