-- Rows of vectors gone over, step by step.
use Rattle.std.proofs.Common.{inl, inr, ◌≡◌, ℕ, ◌+◌, ◌<◌, ◌≤◌, ℤ, List, [], ◌∷◌, ◌++◌, map, get_or, take, length, refl, sym, ap, ◌∙◌, arith}
use Rattle.std.specs.Int.{int_max}
use Rattle.std.specs.Prelude.{int_lt}
use Rattle.std.specs.Ordering.{ord_max, int_cmp}
use Rattle.std.proofs.lemmas.Bool.{cases_Bool}
use Rattle.std.proofs.lemmas.Int.{ints, clamps}
use Rattle.std.proofs.lemmas.List.{take_more, map_more, take_all}
use Rattle.sqlite_value.specs.Order.{Row, column}
use Rattle.stamp.specs.Numbers.{number_of, entries}
use Rattle.stamp.proofs.Maps.{number_at}
use Rattle.stamp.proofs.Putting.{entry_more, none_more}
use Rattle.sql_tables.specs.Derived.{int_in}
use Rattle.sql_opening.specs.Again.{last_in, top_in}

-- a row that is the next origin's, where that one has a number
pub lasts_more : (rows : List Row) (numbers : List ℕ) (gone place : ℕ) (row : Row)
    → gone < length rows → place < length numbers → 0 < number_of numbers (place + 1)
    → last_in (get_or rows gone row) ≡ (place + 1, number_of numbers (place + 1))
    → map last_in (take gone rows) ≡ entries (take place numbers)
    → map last_in (take (gone + 1) rows) ≡ entries (take (place + 1) numbers)
lasts_more rows numbers gone place row in_rows in_numbers some is so_far =
    let number = number_at numbers place (place + 1) refl in
    let more : 0 < get_or numbers place 0 = omega (arith, some, number) in
    map_more last_in rows gone row in_rows
    ∙ ap (λ e. map last_in (take gone rows) ++ e ∷ []) (is ∙ ap (λ n. (place + 1, n)) number)
    ∙ ap (λ es. es ++ (place + 1, get_or numbers place 0) ∷ []) so_far
    ∙ sym (entry_more numbers place in_numbers more)

-- an origin without a number has none
pub lasts_none : (rows : List Row) (numbers : List ℕ) (gone place : ℕ) → place < length numbers
    → number_of numbers (place + 1) ≡ 0
    → map last_in (take gone rows) ≡ entries (take place numbers)
    → map last_in (take gone rows) ≡ entries (take (place + 1) numbers)
lasts_none rows numbers gone place in_numbers none so_far =
    so_far ∙ sym (none_more numbers place in_numbers
    (sym (number_at numbers place (place + 1) refl) ∙ none))

top_push : (rows : List Row) (c : Row)
    → top_in (rows ++ c ∷ []) ≡ int_max (top_in rows) (int_in (column c 2))
top_push [] c = omega (arith, ints, clamps)
top_push (d ∷ rows) c = let more = top_push rows c in omega (arith, ints, clamps)

-- one row more
pub top_more : (rows : List Row) (i : ℕ) (row : Row) → i < length rows
    → top_in (take (i + 1) rows) ≡ int_max (top_in (take i rows))
    (int_in (column (get_or rows i row) 2))
top_more rows i row h = ap top_in (take_more rows i row h)
    ∙ top_push (take i rows) (get_or rows i row)

-- all of them
pub lasts_all : (rows : List Row) (numbers : List ℕ) (gone place : ℕ) → gone ≡ length rows
    → length numbers ≡ 64 → 64 ≤ place
    → map last_in (take gone rows) ≡ entries (take place numbers)
    → map last_in rows ≡ entries numbers
lasts_all rows numbers gone place all whole reached so_far =
    let a : take gone rows ≡ rows = take_all gone rows (omega (arith, all)) in
    let b : take place numbers ≡ numbers = take_all place numbers (omega (arith, whole, reached)) in
    ap (map last_in) (sym a) ∙ so_far ∙ ap entries b

-- the greater of two, as it is computed
pub max_is : (a b : ℤ) → ord_max int_cmp a b ≡ int_max a b
max_is a b = elim (cases_Bool (int_lt b a)) [
  | inl t ↦ rw t refl
  | inr f ↦ rw f (elim (cases_Bool (int_lt a b)) [
    | inl t ↦ rw t refl
    | inr g ↦ rw g refl
  ])
]
