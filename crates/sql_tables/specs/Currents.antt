-- What currents2 shows of a node: its live values.
use Rattle.std.specs.Prelude.{◌≡◌, ℕ, ℤ, pos, Bool, not, ◌&&◌, List, [], ◌∷◌, map, Option, Result, Ok, Err}
use Rattle.std.specs.declared.cmp.Ordering.{Ordering}
use Rattle.std.specs.Ordering.{int_eq, is_eq, ordering_then}
use Rattle.sqlite_value.specs.declared.value.Value.TheVariants.{Int, Blob as Bytes}
use Rattle.sqlite_value.specs.Order.{Row, column, value_cmp, bytes}
use Rattle.sqlite_value.specs.declared.keys.Collation.TheVariants.{Binary}
use Rattle.sqlite_sql.specs.Ops.{binary, is_true}
use Rattle.sqlite_sql.specs.declared.ops.BinaryOp.TheVariants.{Compare}
use Rattle.sqlite_sql.specs.declared.ops.CompareOp.TheVariants.{Gt, Ge, Lt, Le}
use Rattle.sqlite_trees.specs.Objects.{number_in}
use Rattle.ua_variant.specs.declared.data.DataValue.{DataValue}
use Rattle.ua_variant.specs.declared.fault.VariantFault.{VariantFault}
use Rattle.ua_variant.specs.DataValue.{data_value}
use Rattle.records.specs.Moments.{moment}
use Rattle.records.specs.declared.shown.Held.{Held}
use Rattle.archive.specs.declared.reading.Direction.{Direction}
use Rattle.archive.specs.declared.reading.Direction.TheVariants.{Forward, Backward}
use Rattle.sql_tables.specs.Words.{IsPage, holds_either}
use Rattle.sql_tables.specs.Derived.{int_in}

-- ---- what is asked

-- the row of currents2 is a write
abbrev pub is_live : Row → Bool
is_live c = is_eq (value_cmp (column c 5) (Int (pos 1)))

-- a live row of this node, after a place and up to a far one, as SQL compares
abbrev pub is_live_after : List ℕ → ℤ → ℤ → ℤ → ℤ → Row → Bool
is_live_after node time pico far far_pico c =
    is_eq (value_cmp (column c 0) (Bytes node))
    &&
    (is_true (binary (Compare Ge Binary) (column c 1) (Int time))
    &&
    (holds_either (binary (Compare Gt Binary) (column c 1) (Int time))
    (binary (Compare Gt Binary) (column c 2) (Int pico))
    &&
    (is_true (binary (Compare Le Binary) (column c 1) (Int far))
    &&
    (holds_either (binary (Compare Lt Binary) (column c 1) (Int far))
    (binary (Compare Le Binary) (column c 2) (Int far_pico)) && is_live c))))

-- the same before it, down to the far one
abbrev pub is_live_before : List ℕ → ℤ → ℤ → ℤ → ℤ → Row → Bool
is_live_before node time pico far far_pico c =
    is_eq (value_cmp (column c 0) (Bytes node))
    &&
    (is_true (binary (Compare Le Binary) (column c 1) (Int time))
    &&
    (holds_either (binary (Compare Lt Binary) (column c 1) (Int time))
    (binary (Compare Lt Binary) (column c 2) (Int pico))
    &&
    (is_true (binary (Compare Ge Binary) (column c 1) (Int far))
    &&
    (holds_either (binary (Compare Gt Binary) (column c 1) (Int far))
    (binary (Compare Ge Binary) (column c 2) (Int far_pico)) && is_live c))))

-- by time and picoseconds
abbrev pub current_order : Row → Row → Ordering
current_order a b =
    ordering_then (value_cmp (column a 1) (column b 1)) (value_cmp (column a 2) (column b 2))

-- of the rows of currents2 the first so many live ones of a node, in the direction, beyond a place
-- and up to a far one
abbrev pub AreNextCurrents : Direction → List ℕ → ℤ → ℤ → ℤ → ℤ → Option ℕ → List Row → List Row
    → Type 0
AreNextCurrents Forward node time pico far far_pico =
    IsPage (is_live_after node time pico far far_pico) current_order
AreNextCurrents Backward node time pico far far_pico =
    IsPage (is_live_before node time pico far far_pico) (λ a b. current_order b a)

-- ---- what a row shows

-- of a row of currents2: its time, its picoseconds, whether others stand there, and its value
abbrev pub value_columns : Row → Row
value_columns c = column c 1 ∷ column c 2 ∷ column c 6 ∷ column c 7 ∷ []

-- the rows show these columns of rows of currents2 that are so
pub record ShowValues (AreSo : List Row → Type 0) (rows : List Row) : Type 0 where
  pub whole : List Row
  pub are : AreSo whole
  pub shown : rows ≡ map value_columns whole

abbrev pub values_in : Result (DataValue × List ℕ) VariantFault → List DataValue
values_in (Ok v) = v.0 ∷ []
values_in (Err e) = []

-- the live value that these columns of a row of currents2 stand for, if there is one
abbrev pub helds_in : Row → List Held
helds_in c =
    map
    (λ v.
    record {
      time = moment (int_in (column c 0)) (number_in (column c 1));
      value = v;
      extra = not (int_eq (int_in (column c 2)) (pos 0));
    })
    (values_in (data_value.read (bytes (column c 3))))
