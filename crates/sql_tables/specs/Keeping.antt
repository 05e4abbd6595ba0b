-- The writes of one record in one transaction: its row, and the rows of currents2 and of vectors
-- that it changes.
use Rattle.std.specs.Prelude.{◌≡◌, ◌⊎◌, true, false, ℕ, ℤ, ◌<ℤ◌, not, ◌&&◌, Bool, List, [], ◌∷◌, ◌++◌, map, filter, IsPermutation}
use Rattle.std.specs.List.{list_any, AllByRecursion}
use Rattle.sqlite_value.specs.declared.value.Value.TheVariants.{Int}
use Rattle.sqlite_value.specs.Order.{Row, column}
use Rattle.sqlite_trees.specs.Tree.{Trees}
use Rattle.sqlite_trees.specs.Objects.{catalog_tree}
use Rattle.sqlite_catalog.specs.Listing.{Lists}
use Rattle.sql_schema.specs.Tables.{archive_schema, ListsArchive}
use Rattle.sql_tables.specs.Words.{cells}
use Rattle.sql_tables.specs.Derived.{AreNumbered, IsCells, is_of, is_current_of, is_later, current_of, currents_of, current_columns, same, vector_columns, last_of, int_in, vectors_of}

-- one row more in records2
pub record AddsRecord (row : Row) (old new : Trees) : Type 0 where
  pub records : IsPermutation (row ∷ cells (old 1)) (cells (new 1))
  pub meta : new 0 ≡ old 0
  pub currents : new 4 ≡ old 4
  pub vectors : new 6 ≡ old 6

-- only currents2 has changed
pub record KeepsBesideCurrents (old new : Trees) : Type 0 where
  pub meta : new 0 ≡ old 0
  pub records : new 1 ≡ old 1
  pub vectors : new 6 ≡ old 6

-- only vectors has changed
pub record KeepsBesideVectors (old new : Trees) : Type 0 where
  pub meta : new 0 ≡ old 0
  pub records : new 1 ≡ old 1
  pub currents : new 4 ≡ old 4

-- currents2 has no row of this node, time and picoseconds any more
pub record DropsCurrent (node : List ℕ) (time pico : ℤ) (old new : Trees) : Type 0 where
  pub rest : KeepsBesideCurrents old new
  pub left : AreNumbered (old 4)
      → new 4 ≡ filter (λ r. not (is_current_of node time pico (current_columns r))) (old 4)

-- the rows of currents2 that rows of records2 make, where these pass
abbrev pub currents_where : (Row → Bool) → List Row → List Row
currents_where q rows =
    map (current_of rows) (filter (λ r. q r && not (list_any (is_later r) rows)) rows)

-- currents2 has these rows more
pub record PutsCurrents (q : Row → Bool) (old new : Trees) : Type 0 where
  pub rest : KeepsBesideCurrents old new
  pub more : AllByRecursion IsCells (cells (old 1))
      → IsPermutation (currents_where q (cells (old 1)) ++ map current_columns (old 4))
      (map current_columns (new 4))
  pub numbered : AreNumbered (old 4) → AreNumbered (new 4)

-- the row of vectors is of this origin
abbrev pub is_vector_of : ℤ → Row → Bool
is_vector_of origin c = same (column c 0) (Int origin)

-- vectors has no row of this origin any more
pub record DropsVector (origin : ℤ) (old new : Trees) : Type 0 where
  pub rest : KeepsBesideVectors old new
  pub left : AreNumbered (old 6)
      → new 6 ≡ filter (λ r. not (is_vector_of origin (vector_columns r))) (old 6)

-- vectors has these rows more
pub record PutsVectors (rows : List Row → List Row) (old new : Trees) : Type 0 where
  pub rest : KeepsBesideVectors old new
  pub more : AllByRecursion IsCells (cells (old 1))
      → IsPermutation (rows (cells (old 1)) ++ map vector_columns (old 6))
      (map vector_columns (new 6))
  pub numbered : AreNumbered (old 6) → AreNumbered (new 6)

abbrev pub vector_cells : ℤ → ℤ → ℤ → Row
vector_cells origin number tick = Int origin ∷ Int number ∷ Int tick ∷ []

-- the rows of currents2 of this node, time and picoseconds are made anew
pub record ChangesCurrents (node : List ℕ) (time pico : ℤ) (old new : Trees) : Type 0 where
  pub between : Trees
  pub dropped : DropsCurrent node time pico old between
  pub put : PutsCurrents (is_of node time pico) between new

-- one row of records2 is this, and currents2 holds the rows that follow from the others
pub record AwaitsRow (row : Row) (db : Trees) : Type 0 where
  pub others : List Row
  pub records : IsPermutation (row ∷ others) (cells (db 1))
  pub typed : AllByRecursion IsCells others
  pub currents : IsPermutation (currents_of others) (map current_columns (db 4))
  pub numbered : AreNumbered (db 4)

-- where currents2 held the rows that follow but for this one of records2, it now holds all
pub record TakesIn (row : Row) (old new : Trees) : Type 0 where
  pub rest : KeepsBesideCurrents old new
  pub follow : AwaitsRow row old
      → IsPermutation (currents_of (cells (old 1))) (map current_columns (new 4))
      × AreNumbered (new 4)

-- no table has changed
pub record KeepsTables (old new : Trees) : Type 0 where
  pub rest : KeepsBesideCurrents old new
  pub currents : new 4 ≡ old 4

-- so many rows of currents2 were written: where none was, no table has changed, and where one was,
-- the row of records2 is taken in
pub record Renews (count : ℕ) (row : Row) (old new : Trees) : Type 0 where
  pub none : count ≡ 0 → KeepsTables old new
  pub one : count ≡ 1 → TakesIn row old new

-- ---- the row of currents2 that a row of records2 changes

-- the whole number in a column; 0 where there is none
abbrev pub int_at : Row → ℕ → ℤ
int_at c at = int_in (column c at)

-- the row of currents2 is of that row's node, time and picoseconds
abbrev pub is_beside : Row → Row → Bool
is_beside row c =
    same (column c 0) (column row 3)
    && (same (column c 1) (column row 4) && same (column c 2) (column row 5))

-- the stamp of this tick and origin is later than that of the other ones
abbrev pub IsLaterStamp : (tick origin other_tick other_origin : ℤ) → Type 0
IsLaterStamp tick origin other_tick other_origin =
    (other_tick <ℤ tick) ⊎ ((tick ≡ other_tick) × (other_origin <ℤ origin))

-- currents2 has one row of that row's node, time and picoseconds; so are its tick and its origin
pub record HasOneBeside (row : Row) (Are : ℤ → ℤ → Type 0) (db : Trees) : Type 0 where
  pub current : Row
  pub only : filter (is_beside row) (map current_columns (db 4)) ≡ current ∷ []
  pub tick : ℤ
  pub origin : ℤ
  pub stamp : (column current 3 ≡ Int tick) × (column current 4 ≡ Int origin)
  pub so : Are tick origin

-- that one's stamp is later than the row's
abbrev pub HasLaterBeside : Row → Trees → Type 0
HasLaterBeside row =
    HasOneBeside row (λ tick origin. IsLaterStamp tick origin (int_at row 2) (int_at row 0))

-- that one's stamp is another than the row's
abbrev pub HasOtherBeside : Row → Trees → Type 0
HasOtherBeside row =
    HasOneBeside row
    (λ tick origin.
    IsLaterStamp tick origin (int_at row 2) (int_at row 0)
    ⊎ IsLaterStamp (int_at row 2) (int_at row 0) tick origin)

-- so many rows of currents2 were written: the one of the row's moment, if its stamp is earlier
abbrev pub RaisesOne : (count : ℕ) → Row → Trees → Type 0
RaisesOne count row db = HasOtherBeside row db → (count ≡ 1) ⊎ ((count ≡ 0) × HasLaterBeside row db)

-- the row of vectors of this origin is another now, and the tables of an archive are listed
pub record ChangesVectors (row : Row) (origin : ℤ) (old new : Trees) : Type 0 where
  pub between : Trees
  pub dropped : DropsVector origin old between
  pub put : PutsVectors (λ _. row ∷ []) between new
  pub lists : ListsArchive (new catalog_tree)

-- so many rows of vectors were of this origin: where none was, none is gone, and where one was, it
-- is another now
pub record SetsVectors (count : ℕ) (row : Row) (origin : ℤ) (old new : Trees) : Type 0 where
  pub none : count ≡ 0 → DropsVector origin old new
  pub one : count ≡ 1 → ChangesVectors row origin old new

-- no row is of this node, time and picoseconds
abbrev pub HasNoneOf : List ℕ → ℤ → ℤ → List Row → Type 0
HasNoneOf node time pico = AllByRecursion (λ c. is_of node time pico c ≡ false)

-- no row of records2 is of this node, time and picoseconds, and none of currents2
pub record HasNoRowAt (node : List ℕ) (time pico : ℤ) (db : Trees) : Type 0 where
  pub records : HasNoneOf node time pico (cells (db 1))
  pub currents : AllByRecursion (λ c. is_current_of node time pico c ≡ false)
      (map current_columns (db 4))

-- of the rows of records2 this is the only one of its node, time and picoseconds, and currents2 has
-- none of them
pub record IsOnly (row : Row) (node : List ℕ) (time pico : ℤ) (db : Trees) : Type 0 where
  pub others : List Row
  pub records : IsPermutation (row ∷ others) (cells (db 1))
  pub apart : HasNoneOf node time pico others
  pub currents : AllByRecursion (λ c. is_current_of node time pico c ≡ false)
      (map current_columns (db 4))

-- a record's row is added, and the tables that follow take it in
pub record Keeps (row : Row) (old new : Trees) : Type 0 where
  pub added : Trees
  pub changed : Trees
  pub adds : AddsRecord row old added
  pub currents : TakesIn row added changed
  pub vectors : ChangesVectors (last_of row) (int_at row 0) changed new

-- currents2 and vectors are filled with the rows that follow from those of records2, and the tables
-- of an archive are listed
pub record Fills (old new : Trees) : Type 0 where
  pub between : Trees
  pub currents : PutsCurrents (λ _. true) old between
  pub vectors : PutsVectors vectors_of between new
  pub lists : Lists (new catalog_tree) (archive_schema false)
