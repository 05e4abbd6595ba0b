-- The rows of currents2 and of vectors, which follow from those of records2.
use Rattle.std.specs.Prelude.{◌≡◌, ℕ, ℤ, pos, true, false, not, Bool, if◌then◌else◌, ◌&&◌, List, [], ◌∷◌, map, filter, IsPermutation}
use Rattle.std.specs.List.{list_any, AllByRecursion}
use Rattle.std.specs.Ordering.{is_eq}
use Rattle.sqlite_value.specs.declared.value.Value.{Value}
use Rattle.sqlite_value.specs.declared.value.Value.TheVariants.{Null, Int, Real, Text, Blob as Bytes}
use Rattle.sqlite_value.specs.declared.keys.Collation.TheVariants.{Binary}
use Rattle.sqlite_value.specs.Order.{Row, column, value_cmp}
use Rattle.sqlite_sql.specs.Ops.{binary, is_true}
use Rattle.sqlite_sql.specs.declared.ops.BinaryOp.TheVariants.{Compare, Or}
use Rattle.sqlite_sql.specs.declared.ops.CompareOp.TheVariants.{Eq, Ne, Gt, Ge}
use Rattle.sqlite_trees.specs.Tree.{Trees, IsAscending, rowid}
use Rattle.sqlite_trees.specs.View.{is_int}
use Rattle.sql_tables.specs.Words.{cells, cells_of}

-- the number of a value, 0 where it is none
abbrev pub int_in : Value → ℤ
int_in Null = pos 0
int_in (Int n) = n
int_in (Real x) = pos 0
int_in (Text t) = pos 0
int_in (Bytes b) = pos 0

-- ---- as SQL compares

-- they are equal; NULL is equal to nothing
abbrev pub same : Value → Value → Bool
same a b = is_true (binary (Compare Eq Binary) a b)

-- the first is greater
abbrev pub above : Value → Value → Bool
above a b = is_true (binary (Compare Gt Binary) a b)

-- the second row of records2 is of the first one's node, time and picoseconds, and its stamp is
-- later
abbrev pub is_later : Row → Row → Bool
is_later r s =
    same (column s 3) (column r 3)
    && (same (column s 4) (column r 4) && (same (column s 5) (column r 5)
    &&
    (is_true (binary (Compare Ge Binary) (column s 2) (column r 2))
    && is_true
    (binary Or (binary (Compare Gt Binary) (column s 2) (column r 2))
    (binary (Compare Gt Binary) (column s 0) (column r 0))))))

-- it is of that node, time and picoseconds, and its stamp is another
abbrev pub is_other : Row → Row → Bool
is_other r s =
    same (column s 3) (column r 3)
    &&
    (same (column s 4) (column r 4)
    &&
    (same (column s 5) (column r 5)
    && is_true
    (binary Or (binary (Compare Ne Binary) (column s 2) (column r 2))
    (binary (Compare Ne Binary) (column s 0) (column r 0)))))

-- it is of the first one's origin, and its number is greater
abbrev pub is_newer : Row → Row → Bool
is_newer r s = same (column s 0) (column r 0) && above (column s 1) (column r 1)

-- ---- the rows

-- a truth as a number
abbrev pub flag : Bool → Value
flag b = Int (pos (if b then 1 else 0))

-- the row of currents2 for a row of records2: node, time, picoseconds, tick, origin; 0 where that
-- deletes, and else 1; 1 where others stand at its moment, and else 0; the value
abbrev pub current_of : List Row → Row → Row
current_of rows r =
    column r 3 ∷ column r 4 ∷ column r 5 ∷ column r 2 ∷ column r 0
    ∷ binary (Compare Ne Binary) (column r 6) (Int (pos 4)) ∷ flag (list_any (is_other r) rows)
    ∷ column r 8 ∷ []

-- the rows of currents2: one for each row of records2 with no later one at its node, time and
-- picoseconds
abbrev pub currents_of : List Row → List Row
currents_of rows = map (current_of rows) (filter (λ r. not (list_any (is_later r) rows)) rows)

-- the row of vectors for a row of records2: origin, number and tick
abbrev pub last_of : Row → Row
last_of r = column r 0 ∷ column r 1 ∷ column r 2 ∷ []

-- the rows of vectors: one for each row of records2 with no newer one of its origin
abbrev pub vectors_of : List Row → List Row
vectors_of rows = map last_of (filter (λ r. not (list_any (is_newer r) rows)) rows)

-- ---- the tables

-- a row of currents2 by its columns, without the rowid that stands first
abbrev pub current_columns : Row → Row
current_columns r =
    column r 1 ∷ column r 2 ∷ column r 3 ∷ column r 4 ∷ column r 5 ∷ column r 6 ∷ column r 7
    ∷ column r 8 ∷ []

-- a row of vectors by its columns, the rowid as the first of them
abbrev pub vector_columns : Row → Row
vector_columns r = column r 0 ∷ column r 2 ∷ column r 3 ∷ []

-- no rowid comes twice, and each is a whole number
pub record AreNumbered (rows : List Row) : Type 0 where
  pub apart : IsAscending (λ a b. is_eq (value_cmp (rowid a) (rowid b)) ≡ false) rows
  pub keyed : AllByRecursion (λ r. is_int (rowid r) ≡ true) rows

-- currents2 and vectors hold the rows that follow from those of records2
pub record AreKept (db : Trees) : Type 0 where
  pub currents : IsPermutation (currents_of (cells (db 1))) (map current_columns (db 4))
  pub vectors : IsPermutation (vectors_of (cells (db 1))) (map vector_columns (db 6))
  pub numbered : AreNumbered (db 4) × AreNumbered (db 6)

-- the row has the columns of a record's, each of its kind
pub record IsCells (c : Row) : Type 0 where
  pub origin : ℤ
  pub number : ℤ
  pub tick : ℤ
  pub node : List ℕ
  pub time : ℤ
  pub pico : ℤ
  pub asked : ℤ
  pub who : List ℕ
  pub value : List ℕ
  pub is : c ≡ cells_of origin number tick node time pico asked who value

-- the row of records2 is of this node, time and picoseconds
abbrev pub is_of : List ℕ → ℤ → ℤ → Row → Bool
is_of node time pico c =
    same (column c 3) (Bytes node) && (same (column c 4) (Int time) && same (column c 5) (Int pico))

-- the row of currents2 is
abbrev pub is_current_of : List ℕ → ℤ → ℤ → Row → Bool
is_current_of node time pico c =
    same (column c 0) (Bytes node) && (same (column c 1) (Int time) && same (column c 2) (Int pico))

-- no row is newer than this one, and it is newer than each of its origin
abbrev pub IsNewest : Row → List Row → Type 0
IsNewest n rows =
    (is_newer n n ≡ false)
    × AllByRecursion
    (λ r. (is_newer n r ≡ false)
    × (same (column r 0) (column n 0) ≡ true → is_newer r n ≡ true)) rows

-- the rows of records2 have columns of their kinds, and so has this one, which is the newest of its
-- origin
pub record IsNextRow (row : Row) (db : Trees) : Type 0 where
  pub each : AllByRecursion IsCells (cells (db 1))
  pub it : IsCells row
  pub newest : IsNewest row (cells (db 1))
