-- What the tables hold.
use Rattle.std.specs.Prelude.{◌≡◌, ℕ, ℤ, pos, if◌then◌else◌, List, [], ◌∷◌, map, filter, IsPermutation, IsSorted, Bool, ◌&&◌, Option}
use Rattle.std.specs.declared.cmp.Ordering.{Ordering}
use Rattle.std.specs.Ordering.{is_eq, ordering_then}
use Rattle.sqlite_value.specs.declared.value.Value.{Value}
use Rattle.sqlite_value.specs.declared.value.Value.TheVariants.{Int, Blob as Bytes}
use Rattle.sqlite_value.specs.Order.{Row, column, value_cmp}
use Rattle.sqlite_value.specs.declared.keys.Collation.TheVariants.{Binary}
use Rattle.sqlite_sql.specs.Ops.{binary, is_true}
use Rattle.sqlite_sql.specs.declared.ops.BinaryOp.TheVariants.{Compare}
use Rattle.sqlite_sql.specs.declared.ops.CompareOp.TheVariants.{Gt, Ge, Lt, Le}
use Rattle.sqlite_sql.specs.Query.{limited}
use Rattle.sql_tables.specs.declared.writes.Cells.{Cells}
use Rattle.archive.specs.declared.reading.Direction.{Direction}
use Rattle.archive.specs.declared.reading.Direction.TheVariants.{Forward, Backward}

-- the columns of a row of records, without its rowid
abbrev pub columns_of : Row → Row
columns_of r =
    column r 1 ∷ column r 2 ∷ column r 3 ∷ column r 4 ∷ column r 5 ∷ column r 6 ∷ column r 7
    ∷ column r 8 ∷ column r 9 ∷ []

-- the rows of records
abbrev pub cells : List Row → List Row
cells rows = map columns_of rows

-- the first nine columns of what a query shows
abbrev pub shown_of : Row → Row
shown_of c =
    column c 0 ∷ column c 1 ∷ column c 2 ∷ column c 3 ∷ column c 4 ∷ column c 5 ∷ column c 6
    ∷ column c 7 ∷ column c 8 ∷ []

-- a row of records
abbrev pub cells_of : ℤ → ℤ → ℤ → List ℕ → ℤ → ℤ → ℤ → List ℕ → List ℕ → Row
cells_of origin number tick node time pico asked who value =
    Int origin ∷ Int number ∷ Int tick ∷ Bytes node ∷ Int time ∷ Int pico ∷ Int asked ∷ Bytes who
    ∷ Bytes value ∷ []

-- the row of these cells
abbrev pub row_of_cells : Cells → Row
row_of_cells c =
    cells_of c.origin c.number c.tick c.node.items c.time c.pico c.asked c.who.items c.value.items

-- the row is of this node, time and picoseconds
abbrev pub is_at : List ℕ → ℤ → ℤ → Row → Bool
is_at node time pico c =
    is_eq (value_cmp (column c 3) (Bytes node))
    && (is_eq (value_cmp (column c 4) (Int time)) && is_eq (value_cmp (column c 5) (Int pico)))

-- by tick, then by origin
abbrev pub row_stamp_cmp : Row → Row → Ordering
row_stamp_cmp a b =
    ordering_then (value_cmp (column a 2) (column b 2)) (value_cmp (column a 0) (column b 0))

-- the row of records is of this name
abbrev pub is_named : ℤ → ℤ → Row → Bool
is_named origin number c =
    is_eq (value_cmp (column c 0) (Int origin)) && is_eq (value_cmp (column c 1) (Int number))

-- of all rows those that pass, in order, and of them the first so many, or all
pub record IsPage (pass : Row → Bool) (cmp : Row → Row → Ordering) (limit : Option ℕ)
    (all rows : List Row) : Type 0 where
  pub ordered : List Row
  pub same : IsPermutation (filter pass all) ordered
  pub sorted : IsSorted cmp ordered
  pub front : rows ≡ limited limit ordered

-- ---- behind a number

-- the row is of this origin, and its number is above this one, as SQL compares
abbrev pub is_behind : ℤ → ℤ → Row → Bool
is_behind origin number c =
    is_eq (value_cmp (column c 0) (Int origin))
    && is_true (binary (Compare Gt Binary) (column c 1) (Int number))

-- by name: origin, then number
abbrev pub name_order : Row → Row → Ordering
name_order a b =
    ordering_then (value_cmp (column a 0) (column b 0)) (value_cmp (column a 1) (column b 1))

-- ---- beyond a time

-- the first is true, or else the second is, which isn't asked for where the first one is
abbrev pub holds_either : Value → Value → Bool
holds_either a b = is_true (if is_true a then Int (pos 1) else b)

-- the row is of this node, and its time is after the place, as SQL compares
abbrev pub is_after : List ℕ → ℤ → ℤ → Row → Bool
is_after node time pico c =
    is_eq (value_cmp (column c 3) (Bytes node))
    &&
    (is_true (binary (Compare Ge Binary) (column c 4) (Int time))
    && holds_either (binary (Compare Gt Binary) (column c 4) (Int time))
    (binary (Compare Gt Binary) (column c 5) (Int pico)))

-- the same of a time before it
abbrev pub is_before : List ℕ → ℤ → ℤ → Row → Bool
is_before node time pico c =
    is_eq (value_cmp (column c 3) (Bytes node))
    &&
    (is_true (binary (Compare Le Binary) (column c 4) (Int time))
    && holds_either (binary (Compare Lt Binary) (column c 4) (Int time))
    (binary (Compare Lt Binary) (column c 5) (Int pico)))

-- by time, picoseconds, tick and origin
abbrev pub moment_order : Row → Row → Ordering
moment_order a b =
    ordering_then (value_cmp (column a 4) (column b 4))
    (ordering_then (value_cmp (column a 5) (column b 5)) (row_stamp_cmp a b))

-- of all rows of a node the first so many, in the direction, whose time is beyond the place
abbrev pub AreNextRows : Direction → List ℕ → ℤ → ℤ → Option ℕ → List Row → List Row → Type 0
AreNextRows Forward node time pico = IsPage (is_after node time pico) moment_order
AreNextRows Backward node time pico = IsPage (is_before node time pico) (λ a b. moment_order b a)
