-- What currents2 and vectors hold, in the words of the records.
use Rattle.std.specs.Prelude.{◌≡◌, ◌↔◌, nat_lt, pos, if◌then◌else◌, List, [], ◌∷◌, map, length, Some, IsPermutation}
use Rattle.records.specs.Lists.{Has, IsPairwise, last}
use Rattle.records.specs.Records.{is_delete, versions}
use Rattle.records.specs.Moments.{ticks_of, pico_of}
use Rattle.records.specs.Contents.{Content, vec, last_tick}
use Rattle.records.specs.declared.record.Record.{Record}
use Rattle.ua_binary.specs.Binary.{node_id}
use Rattle.ua_variant.specs.DataValue.{data_value}
use Rattle.sqlite_value.specs.declared.value.Value.TheVariants.{Int, Blob as Bytes}
use Rattle.sqlite_value.specs.Order.{Row}

-- the row of a record that is the last of its node and moment: where it stands, its stamp, whether
-- it holds a value, whether others stand there, and the value
abbrev pub current_row : Content → Record → Row
current_row R r =
    Bytes (node_id.canon r.node) ∷ Int (ticks_of r.time) ∷ Int (pos (pico_of r.time)) ∷ Int r.tick
    ∷ Int (pos r.origin)
    ∷ Int (pos (if is_delete r.asked then 0 else 1))
    ∷ Int (pos (if nat_lt 1 (length (versions R r.node r.time)) then 1 else 0))
    ∷ Bytes (data_value.canon r.value) ∷ []

-- the row of an origin that has records: its last number, and that record's tick
abbrev pub last_row : Content → Record → Row
last_row R r = Int (pos r.origin) ∷ Int (pos (vec R r.origin)) ∷ Int (last_tick R r.origin) ∷ []

-- one row for each record of which IsOne holds, in any order, and none twice
pub record HasRowsOf (IsOne : Record → Type 0) (row : Record → Row) (rows : List Row) : Type 0 where
  pub records : List Record
  pub are : IsPermutation (map row records) rows
  pub each : (r : Record) → Has records r ↔ IsOne r
  pub once : IsPairwise (λ r s. r ≡ s → ⊥) records

-- per node and moment with records one row, that of the last of them by stamp
abbrev pub AreCurrents : Content → List Row → Type 0
AreCurrents R = HasRowsOf (λ r. last (versions R r.node r.time) ≡ Some r) (current_row R)

-- per origin with records one row
abbrev pub AreLasts : Content → List Row → Type 0
AreLasts R = HasRowsOf (λ r. Has R r × (r.number ≡ vec R r.origin)) (last_row R)
