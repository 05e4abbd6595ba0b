-- What a store that is read anew tells.
use Rattle.std.specs.Prelude.{◌≡◌, ◌&&◌, ◌<◌, Bool, true, ℕ, ℤ, pos, List, [], ◌∷◌, map, Ok, IsPermutation}
use Rattle.std.specs.Int.{int_max}
use Rattle.sqlite_value.specs.Order.{Row, column}
use Rattle.sqlite_trees.specs.Tree.{Trees}
use Rattle.sqlite_trees.specs.Objects.{number_in}
use Rattle.std.specs.List.{list_any}
use Rattle.stamp.specs.Numbers.{entries, number_of}
use Rattle.sql_tables.specs.Derived.{int_in, vector_columns}
use Rattle.sql_tables.specs.Rows.{meta_cells}
use Rattle.sql_opening.specs.Opening.{checked_meta, has_number}

-- the origin and the last number that a row of vectors tells
abbrev pub last_in : Row → ℕ × ℕ
last_in c = (number_in (column c 0), number_in (column c 1))

-- a row of vectors tells this origin and this last number
abbrev pub has_last : (origin number : ℕ) → Row → Bool
has_last origin number c = has_number (column c 0) origin && has_number (column c 1) number

-- rows of vectors tell the number of each origin that has one
abbrev pub TellLasts : List ℕ → List Row → Type 0
TellLasts numbers rows =
    (origin : ℕ) → 0 < number_of numbers origin
    → list_any (has_last origin (number_of numbers origin)) rows ≡ true

-- the greatest tick that rows of vectors tell, 0 where there are none
abbrev pub top_in : List Row → ℤ
top_in [] = pos 0
top_in (c ∷ rows) = int_max (int_in (column c 2)) (top_in rows)

-- meta says that it is this archive's and replica's store; the rows of vectors, by origin, are the
-- origins that have a number and their numbers, as they are remembered, and so is the greatest tick
pub record IsAsHeld (id : List ℕ) (own : ℕ) (numbers : List ℕ) (tick : ℤ)
    (db : Trees) : Type 0 where
  pub meta : checked_meta id own (meta_cells db) ≡ Ok tt
  pub rows : List Row
  pub all : IsPermutation (map vector_columns (db 6)) rows
  pub lasts : map last_in rows ≡ entries numbers
  pub newest : top_in rows ≡ tick
