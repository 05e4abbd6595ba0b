-- A row of vectors that can't be read.
use Rattle.std.specs.Prelude.{◌≡◌, ℕ, ℤ, pos, List, [], ◌∷◌}
use Rattle.sqlite_value.specs.declared.value.Value.TheVariants.{Int}
use Rattle.sqlite_value.specs.Order.{Row, column}

-- the first of some rows of vectors has no number from 0, or no tick
abbrev pub LacksEnd : List Row → Type 0
LacksEnd [] = ⊥
LacksEnd (c ∷ cs) =
    (number : ℕ) (tick : ℤ) → column c 1 ≡ Int (pos number) → column c 2 ≡ Int tick → ⊥
