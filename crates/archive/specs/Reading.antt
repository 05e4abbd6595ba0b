-- What a content shows of a node over time (Part 11: raw and modified history).
use Rattle.std.specs.Prelude.{ℤ, int_lt, int_le, Bool, true, ◌&&◌, List, filter, map, reverse, slice_get, Option, Some, None}
use Rattle.std.specs.List.{filter_map, flat_map, dedup}
use Rattle.std.specs.declared.cmp.Ordering.{Ordering}
use Rattle.std.specs.Ordering.{int_cmp, int_eq, on, then_cmp, is_lt}
use Rattle.stamp.specs.Stamp.{stamp_cmp}
use Rattle.ua_binary.specs.declared.values.NodeId.{NodeId}
use Rattle.records.specs.Lists.{sort_by}
use Rattle.records.specs.Contents.{Content}
use Rattle.records.specs.Records.{live_value, modifications_at}
use Rattle.records.specs.Same.{same_node}
use Rattle.records.specs.declared.record.Record.{Record}
use Rattle.records.specs.declared.shown.Held.{Held}
use Rattle.records.specs.declared.shown.Entry.{Entry}
use Rattle.archive.specs.declared.reading.Direction.{Direction}
use Rattle.archive.specs.declared.reading.Direction.TheVariants.{Forward, Backward}
use Rattle.archive.specs.declared.reading.LogPlace.{LogPlace}

-- ---- a node's history, forward

-- the record is of this node
abbrev pub is_of : NodeId → Record → Bool
is_of node r = same_node r.node node

-- the source times at which the node has records, in order, each once
abbrev pub times : Content → NodeId → List ℤ
times R node = dedup int_eq (sort_by int_cmp (map (λ r. r.time) (filter (is_of node) R)))

-- the node's live values, in the order of their times
abbrev pub lives : Content → NodeId → List Held
lives R node = filter_map (live_value R node) (times R node)

-- the node's modifications, one for each of its records, plain inserts too: times in order, within
-- a time the newest first
abbrev pub log : Content → NodeId → List Entry
log R node = flat_map (λ t. reverse (modifications_at R node t)) (times R node)

-- ---- directions

-- backward is the other way round: times descend, and within a time the oldest stands first
abbrev pub in_direction : {X : Type 0} → Direction → List X → List X
in_direction d xs = elim d [ Forward ↦ xs | Backward ↦ reverse xs ]

-- in the direction, the time is strictly beyond the limit
abbrev pub is_past : Direction → ℤ → ℤ → Bool
is_past d limit time = elim d [ Forward ↦ int_lt limit time | Backward ↦ int_lt time limit ]

-- both ends are in it
abbrev pub is_between : ℤ → ℤ → ℤ → Bool
is_between from to time = int_le from time && int_le time to

-- the order of modifications, forward: by time, and within a time the newest first
abbrev pub log_cmp : LogPlace → LogPlace → Ordering
log_cmp = then_cmp (on (λ p. p.time) int_cmp) (λ a b. stamp_cmp b.stamp a.stamp)

-- where an entry stands in the log of a node: its time, and then its stamp
abbrev pub place_of : Entry → LogPlace
place_of e = record { time = e.time; stamp = record { tick = e.tick; origin = e.origin } }

-- the entry stands behind a place, where one is given
abbrev pub follows : Direction → Option LogPlace → Entry → Bool
follows d None e = true
follows Forward (Some place) e = is_lt (log_cmp place (place_of e))
follows Backward (Some place) e = is_lt (log_cmp (place_of e) place)

-- ---- what the calls answer

-- the live values between two times
abbrev pub range_of : Content → NodeId → ℤ → ℤ → Direction → List Held
range_of R node from to d = in_direction d (filter (λ h. is_between from to h.time) (lives R node))

-- the modifications between two times that stand behind a place
abbrev pub log_of : Content → NodeId → ℤ → ℤ → Option LogPlace → Direction → List Entry
log_of R node from to after d =
    filter (follows d after) (in_direction d (filter (λ e. is_between from to e.time) (log R node)))

-- the nearest live value strictly beyond a time
abbrev pub outside_of : Content → NodeId → ℤ → Direction → Option Held
outside_of R node time d =
    slice_get (in_direction d (filter (λ h. is_past d time h.time) (lives R node))) 0
