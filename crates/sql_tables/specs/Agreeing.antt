-- Whether currents2 and vectors hold the rows that follow from those of records2, as an opening
-- finds out.
use Rattle.std.specs.Prelude.{◌≡◌, ◌⊎◌, ℕ, ◌-◌, ◌^◌, ◌≤◌, ℤ, pos, ◌<ℤ◌, ◌≤ℤ◌, Bool, true, ◌&&◌, ◌||◌, List, [], ◌∷◌, length, map, IsPermutation, None, IfSome, IsTrue, Result, Ok, Err}
use Rattle.std.specs.List.{list_any, AllByRecursion}
use Rattle.sqlite_value.specs.declared.value.Value.TheVariants.{Int}
use Rattle.sqlite_value.specs.Order.{Row, column}
use Rattle.sqlite_value.specs.declared.keys.Collation.TheVariants.{Binary}
use Rattle.sqlite_sql.specs.Ops.{binary, is_true}
use Rattle.sqlite_sql.specs.declared.ops.BinaryOp.TheVariants.{Compare}
use Rattle.sqlite_sql.specs.declared.ops.CompareOp.TheVariants.{Ne, Ge}
use Rattle.sqlite_schema.specs.declared.command.Command.{Command}
use Rattle.sqlite_schema.specs.declared.command.Command.TheVariants.{Nothing}
use Rattle.sqlite_resolve.specs.declared.compiled.Compiled.{Compiled}
use Rattle.sqlite_resolve.specs.declared.error.CompileError.{CompileError}
use Rattle.sqlite_rules.specs.Lists.{Has}
use Rattle.sqlite_trees.specs.Tree.{Trees, IsAscending}
use Rattle.sqlite.specs.Effect.{Database, Reads, ReadsFirst}
use Rattle.sqlite.specs.Listing.{understood}
use Rattle.sql_tables.specs.declared.integrity.Ids.{Ids}
use Rattle.sql_tables.specs.Words.{cells}
use Rattle.sql_tables.specs.Derived.{AreNumbered, currents_of, current_columns, same, above, last_of, vectors_of, vector_columns}

abbrev pub command_in : Result Compiled CompileError → Command
command_in (Ok c) = c.command
command_in (Err e) = Nothing

-- the text, which has no parameters, shows these rows of the tables
abbrev pub ShowsOf : List ℕ → Database → List Row → Type 0
ShowsOf sql db rows = Reads (command_in (understood db.schema sql)) db [] rows

-- the text shows some row
abbrev pub ShowsSome : List ℕ → Database → Type 0
ShowsSome sql db = (row : Row) × (rows : List Row) × ShowsOf sql db (row ∷ rows)

-- the first columns of these rows are whole numbers that rise
pub record AreRising (rows : List Row) (ids : List ℤ) : Type 0 where
  pub are : map (λ r. column r 0) rows ≡ map Int ids
  pub rising : IsAscending (λ a b. a <ℤ b) ids

-- these rows were gone over
pub record HasRisen (rows : List Row) (ids : Ids) : Type 0 where
  pub numbers : List ℤ
  pub rise : AreRising rows numbers
  pub below : IfSome ids.last (λ last. AllByRecursion (λ i. i ≤ℤ last) numbers)
  pub reached : IfSome ids.last (Has numbers)
  pub none : ids.last ≡ None → rows ≡ []
  pub many : ids.count ≡ length rows

-- the text shows so many rows, whose first columns rise
pub record HasCounted (sql : List ℕ) (db : Database) (count : ℕ) : Type 0 where
  pub rows : List Row
  pub shown : ShowsOf sql db rows
  pub numbers : List ℤ
  pub rise : AreRising rows numbers
  pub many : count ≡ length rows

-- the first columns aren't whole numbers that rise, or there are too many rows to be counted
abbrev pub AreUncountable : List Row → Type 0
AreUncountable rows = ((ids : List ℤ) → AreRising rows ids → ⊥) ⊎ (2 ^ 64 - 1 ≤ length rows)

-- the text begins with such rows
pub record BeginsUncountable (sql : List ℕ) (db : Database) : Type 0 where
  pub rows : List Row
  pub shown : ReadsFirst (command_in (understood db.schema sql)) db [] rows
  pub so : AreUncountable rows

-- the rows have each of these
abbrev pub HasEach : List Row → List Row → Type 0
HasEach rows = AllByRecursion (Has rows)

-- a row of currents2, by its columns, is of the node, time and picoseconds of a row of records2
abbrev pub IsAt : Row → Row → Type 0
IsAt c r = (column c 0 ≡ column r 3) × (column c 1 ≡ column r 4) × (column c 2 ≡ column r 5)

-- it has the tick and the origin of that
abbrev pub IsStamped : Row → Row → Type 0
IsStamped c r = (column c 3 ≡ column r 2) × (column c 4 ≡ column r 0)

-- its stamp is later
abbrev pub rises : Row → Row → Bool
rises c r =
    above (column c 3) (column r 2)
    || (same (column c 3) (column r 2) && above (column c 4) (column r 0))

-- it has that row's value, and whether that is one
abbrev pub IsValued : Row → Row → Type 0
IsValued c r =
    (column c 5 ≡ binary (Compare Ne Binary) (column r 6) (Int (pos 4)))
    × (column c 7 ≡ column r 8)

-- it is that row's, but for what it tells of others; or a later one's, and tells of others
abbrev pub IsShownBy : Row → Row → Type 0
IsShownBy r c =
    IsAt c r
    × ((IsTrue (rises c r) × (column c 6 ≡ Int (pos 1))) ⊎ (IsStamped c r × IsValued c r))

-- each row of currents2 has the moment and the stamp of a row of records2
abbrev pub AreStamped : Trees → Type 0
AreStamped db =
    AllByRecursion (λ c. (r : Row) × Has (cells (db 1)) r × IsAt c r × IsStamped c r)
    (map current_columns (db 4))

-- no two rows of currents2 are of one moment, where no rowid comes twice
abbrev pub AreSingle : Trees → Type 0
AreSingle db =
    AreNumbered (db 4) → (c d : Row) → Has (db 4) c → Has (db 4) d → column c 1 ≡ column d 1
    → column c 2 ≡ column d 2 → column c 3 ≡ column d 3 → c ≡ d

-- each row of currents2 tells of no others, or a row of records2 of another stamp is of its moment
abbrev pub AreTelling : Trees → Type 0
AreTelling db =
    AllByRecursion (λ c. (column c 6 ≡ Int (pos 0))
    ⊎ ((r : Row) × Has (cells (db 1)) r × IsAt c r × (IsStamped c r → ⊥)))
    (map current_columns (db 4))

-- each row of records2 is shown by a row of currents2
abbrev pub AreShown : Trees → Type 0
AreShown db =
    AllByRecursion (λ r. (c : Row) × Has (map current_columns (db 4)) c × IsShownBy r c)
    (cells (db 1))

-- currents2 holds what follows from records2
abbrev pub HasCurrents : Trees → Type 0
HasCurrents db =
    IsPermutation (currents_of (cells (db 1))) (map current_columns (db 4)) × AreNumbered (db 4)

-- a row of vectors, by its columns, is of the origin of a row of records2, and its number isn't
-- less
abbrev pub reaches : Row → Row → Bool
reaches r v =
    same (column v 0) (column r 0) && is_true (binary (Compare Ge Binary) (column v 1) (column r 1))

-- each row of vectors has the origin, the number and the tick of a row of records2
abbrev pub AreOfRecords : Trees → Type 0
AreOfRecords db = HasEach (map last_of (cells (db 1))) (map vector_columns (db 6))

-- each row of records2 is reached by a row of vectors
abbrev pub AreReached : Trees → Type 0
AreReached db =
    AllByRecursion (λ r. list_any (reaches r) (map vector_columns (db 6)) ≡ true) (cells (db 1))

-- vectors holds what follows from records2
abbrev pub HasVectors : Trees → Type 0
HasVectors db =
    IsPermutation (vectors_of (cells (db 1))) (map vector_columns (db 6)) × AreNumbered (db 6)
