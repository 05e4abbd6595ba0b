-- Going over the times of a node in a direction.
use Rattle.std.specs.Prelude.{◌≡◌, ◌-◌, ◌^◌, true, false, not, ◌&&◌, Bool, ℕ, ℤ, pos, negsuc, ◌≤ℤ◌, ◌+ℤ◌, ◌*ℤ◌, List, [], ◌∷◌, ◌++◌, filter, reverse, Option, Some, None, IfSome}
use Rattle.std.specs.List.{cons_option, AllByRecursion}
use Rattle.std.specs.declared.cmp.Ordering.{Ordering}
use Rattle.std.specs.Ordering.{int_cmp, on, then_cmp}
use Rattle.ua_binary.specs.declared.values.NodeId.{NodeId}
use Rattle.records.specs.Lists.{Has, sort_by}
use Rattle.records.specs.Same.{same_node}
use Rattle.sql_tables.specs.declared.queries.RowTime.{RowTime}
use Rattle.sql_reading.specs.declared.lookahead.Ahead.{Ahead}
use Rattle.sql_reading.specs.declared.reads.Story.{Story}
use Rattle.records.specs.Contents.{Content, cut}
use Rattle.records.specs.Records.{versions, record_stamp_cmp, live_value, modifications_at}
use Rattle.records.specs.declared.record.Record.{Record}
use Rattle.records.specs.Moments.{moment}
use Rattle.records.specs.declared.shown.Held.{Held}
use Rattle.records.specs.declared.shown.Entry.{Entry}
use Rattle.archive.specs.Reading.{times, in_direction, is_past, is_between, follows}
use Rattle.archive.specs.declared.reading.Direction.{Direction}
use Rattle.archive.specs.declared.reading.Direction.TheVariants.{Forward, Backward}
use Rattle.archive.specs.declared.reading.LogPlace.{LogPlace}

-- the moment of a place, in steps of 10 picoseconds, of which a tick has 10,000; `pico` may be one
-- below or above those that a moment has
abbrev pub moment_at : ℤ → ℤ → ℤ
moment_at ticks pico = ticks *ℤ pos 10000 +ℤ pico

-- the moment of a place that a query starts at
abbrev pub moment_of : RowTime → ℤ
moment_of place = moment_at place.ticks place.pico

-- a place beyond which moments are told by ticks and picoseconds
abbrev pub IsStartPlace : Direction → ℤ → Type 0
IsStartPlace Forward pico = (negsuc 0 ≤ℤ pico) × (pico ≤ℤ pos 9999)
IsStartPlace Backward pico = (pos 0 ≤ℤ pico) × (pico ≤ℤ pos 10000)

-- of these times, the first in the direction that is strictly beyond a place
abbrev pub IsNextTime : Direction → ℤ → List ℤ → Option ℤ → Type 0
IsNextTime d place ts None = (t : ℤ) → Has ts t → is_past d place t ≡ false
IsNextTime d place ts (Some t) =
    Has ts t × (is_past d place t ≡ true)
    × ((s : ℤ) → Has ts s → is_past d place s ≡ true → is_past d s t ≡ false)

-- the times strictly beyond a place, in the direction, up to a far one
abbrev pub stretch : Direction → ℤ → ℤ → List ℤ → List ℤ
stretch d place far ts =
    filter (λ t. not (is_past d far t)) (filter (is_past d place) (in_direction d ts))

-- a range's ends, in the direction: the place right before the near one, and the far one
abbrev pub IsSpan : Direction → ℤ → ℤ → ℤ → ℤ → Type 0
IsSpan Forward from to near far = (near ≡ from +ℤ negsuc 0) × (far ≡ to)
IsSpan Backward from to near far = (near ≡ to +ℤ pos 1) × (far ≡ from)

-- behind a place a log between the one two times shows what it shows between the others
abbrev pub ShowSame : Direction → Option LogPlace → ℤ → ℤ → ℤ → ℤ → Type 0
ShowSame d after from to new_from new_to =
    (e : Entry)
    → (is_between from to e.time && follows d after e)
    ≡ (is_between new_from new_to e.time && follows d after e)

-- the last moment that a record may have, in the direction
abbrev pub end_of_time : Direction → ℤ
end_of_time Forward = moment (pos (2 ^ 63 - 1)) 9999
end_of_time Backward = moment (pos 0) 0

-- the time of the first of some records
abbrev pub first_time : List Record → Option ℤ
first_time [] = None
first_time (r ∷ rs) = Some r.time

-- ---- what is read ahead

-- by time, and within a time by stamp
abbrev pub time_order : Record → Record → Ordering
time_order = then_cmp (on (λ r. r.time) int_cmp) record_stamp_cmp

-- the same in the direction
abbrev pub walk_cmp : Direction → Record → Record → Ordering
walk_cmp Forward = time_order
walk_cmp Backward = λ a b. time_order b a

-- the node's records whose time is strictly beyond a place, in the direction
abbrev pub records_beyond : Content → NodeId → Direction → ℤ → List Record
records_beyond R node d place =
    sort_by (walk_cmp d) (filter (λ r. same_node r.node node && is_past d place r.time) R)

-- the first of these records are held; where they end, all of them
pub record AreHeld (all held : List Record) (ends : Bool) : Type 0 where
  pub behind : List Record
  pub next : all ≡ held ++ behind
  pub whole : ends ≡ true → behind ≡ []

-- held are the next records beyond a place
abbrev pub IsAhead : Content → NodeId → Direction → ℤ → List Record → Bool → Type 0
IsAhead R node d place = AreHeld (records_beyond R node d place)

-- held are the records of this time, in the direction, and behind them the next ones beyond it
abbrev pub StandsFirst : Content → NodeId → Direction → ℤ → List Record → Bool → Type 0
StandsFirst R node d time =
    AreHeld (in_direction d (versions R node time) ++ records_beyond R node d time)

-- nothing is held, and others may stand behind it
abbrev pub is_used_up : List Record → Bool → Bool
is_used_up [] ends = not ends
is_used_up (r ∷ rs) ends = false

-- what is held ahead are the next records beyond a place
abbrev pub HoldsNext : Content → NodeId → Direction → ℤ → Ahead → Type 0
HoldsNext R node d place ahead = IsAhead R node d place ahead.records.items ahead.ends

-- what is held ahead are the records of this time, and behind them the next ones beyond it
abbrev pub HoldsFirst : Content → NodeId → Direction → ℤ → Ahead → Type 0
HoldsFirst R node d time ahead = StandsFirst R node d time ahead.records.items ahead.ends

-- the first record is taken where it is of this time, and else nothing
abbrev pub IsTaken : ℤ → List Record → Option Record → List Record → Type 0
IsTaken time old None new = (new ≡ old) × (first_time old ≡ Some time → ⊥)
IsTaken time old (Some r) new = (old ≡ r ∷ new) × (r.time ≡ time)

-- the first records are taken, as long as they are of this time
pub record AreTaken (time : ℤ) (old taken left : List Record) : Type 0 where
  pub parts : old ≡ taken ++ left
  pub each : AllByRecursion (λ r. r.time ≡ time) taken
  pub no_more : first_time left ≡ Some time → ⊥

-- ---- what is shown of a time

abbrev pub values_at : Content → NodeId → ℤ → List Held
values_at C node t = cons_option (live_value C node t) []

abbrev pub entries_at : Content → NodeId → Option LogPlace → Direction → ℤ → List Entry
entries_at C node after d t =
    filter (follows d after) (in_direction d (reverse (modifications_at C node t)))

-- at the first of the times beyond a place and up to a far one stand these records; None where
-- there is no such time
pub record IsStoryAt (R : Content) (node : NodeId) (v : ℕ → ℕ) (d : Direction) (place far : ℤ)
    (time : ℤ) (records : List Record) : Type 0 where
  pub first : stretch d place far (times R node) ≡ time ∷ stretch d time far (times R node)
  pub there : records ≡ versions (cut R v) node time

abbrev pub IsNextStory : Content → NodeId → (ℕ → ℕ) → Direction → ℤ → ℤ → Option Story → Type 0
IsNextStory R node v d place far None = stretch d place far (times R node) ≡ []
IsNextStory R node v d place far (Some s) = IsStoryAt R node v d place far s.time s.records.items

-- the next story; behind one, held are the next records beyond its time
abbrev pub IsStoryRead : Content → NodeId → (ℕ → ℕ) → Direction → ℤ → ℤ → Option Story → List Record
    → Bool → Type 0
IsStoryRead R node v d place far told held ends =
    IsNextStory R node v d place far told × IfSome told (λ s. IsAhead R node d s.time held ends)
