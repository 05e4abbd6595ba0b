-- Records of writes and deletes, and what a list of them says of a node and a source time (Part 11:
-- raw and modified values, ModificationInfo). The list's order is free; no two of its records have
-- one name or one stamp.
use Rattle.std.specs.Prelude.{ℕ, nat_lt, ℤ, Bool, true, false, ◌&&◌, if◌then◌else◌, List, [], ◌∷◌, filter, take, length, Option, Some, None}
use Rattle.std.specs.declared.cmp.Ordering.{Ordering}
use Rattle.std.specs.Ordering.{nat_cmp, int_cmp, int_eq, on, then_cmp}
use Rattle.ua_binary.specs.declared.values.NodeId.{NodeId}
use Rattle.ua_variant.specs.declared.data.DataValue.{DataValue}
use Rattle.records.specs.declared.record.Record.{Record}
use Rattle.ua_variant.specs.declared.update_type.HistoryUpdateType.{HistoryUpdateType}
use Rattle.ua_variant.specs.declared.update_type.HistoryUpdateType.TheVariants.{Insert, Replace, Update, Delete}
use Rattle.records.specs.declared.shown.Held.{Held}
use Rattle.records.specs.declared.shown.Entry.{Entry}
use Rattle.records.specs.Lists.{sort_by, last}
use Rattle.records.specs.Same.{same_node}

-- by name: origin, then number
abbrev pub name_cmp : Record → Record → Ordering
name_cmp = then_cmp (on (λ r. r.origin) nat_cmp) (on (λ r. r.number) nat_cmp)

-- by stamp: tick, then origin
abbrev pub record_stamp_cmp : Record → Record → Ordering
record_stamp_cmp = then_cmp (on (λ r. r.tick) int_cmp) (on (λ r. r.origin) nat_cmp)

-- a delete was asked for
abbrev pub is_delete : HistoryUpdateType → Bool
is_delete asked = elim asked [ Delete ↦ true | _ ↦ false ]

-- the record is of this node and time
abbrev pub is_at : NodeId → ℤ → Record → Bool
is_at node time r = same_node r.node node && int_eq r.time time

-- the records of a node and source time, in the order of their stamps
abbrev pub versions : List Record → NodeId → ℤ → List Record
versions records node time = sort_by record_stamp_cmp (filter (is_at node time) records)

-- the record, where it is a write
abbrev pub write : Option Record → Option Record
write given = elim given [ None ↦ None | Some r ↦ if is_delete r.asked then None else Some r ]

-- ---- the live value

-- what a story leaves: the value of its last record, where that is a write; extra where it isn't
-- the only record
abbrev pub held : List Record → Option Held
held records =
    elim (write (last records)) [
      | None ↦ None
      | Some r ↦ Some (record { time = r.time; value = r.value; extra = nat_lt 1 (length records) })
    ]

-- the live value at a node and source time
abbrev pub live_value : List Record → NodeId → ℤ → Option Held
live_value records node time = held (versions records node time)

-- ---- the modifications

-- what a record did, behind the write right before it
abbrev pub kind : Option Record → HistoryUpdateType → HistoryUpdateType
kind before Delete = Delete
kind None asked = Insert
kind (Some w) Update = Update
kind (Some w) asked = Replace

-- the value that it shows: the one that it took the place of; else its own; a delete of nothing
-- shows none
abbrev pub value_shown : Option Record → Record → Option DataValue
value_shown given r =
    elim given [ Some w ↦ Some w.value | None ↦ if is_delete r.asked then None else Some r.value ]

-- a record as it is shown, behind the write right before it
abbrev pub entry : Option Record → Record → Entry
entry before r =
    record {
      time = r.time;
      value = value_shown before r;
      kind = kind before r.asked;
      tick = r.tick;
      origin = r.origin;
      user = r.user;
    }

-- each record of a story, behind the record before it
abbrev pub entries_after : Option Record → List Record → List Entry
entries_after before [] = []
entries_after before (r ∷ rs) = entry (write before) r ∷ entries_after (Some r) rs

-- the modifications at a node and source time, the oldest first
abbrev pub modifications_at : List Record → NodeId → ℤ → List Entry
modifications_at records node time = entries_after None (versions records node time)

-- ---- what a vector lacks

-- the record is beyond what the vector has of its origin
abbrev pub is_beyond : (ℕ → ℕ) → Record → Bool
is_beyond vector r = nat_lt (vector r.origin) r.number

-- the first records beyond a vector, by origin and number
abbrev pub missing : List Record → (ℕ → ℕ) → ℕ → List Record
missing records vector limit = take limit (sort_by name_cmp (filter (is_beyond vector) records))
