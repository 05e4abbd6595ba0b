-- The readings of a clock.
use Rattle.std.specs.Prelude.{◌≡◌, ◌≤ℤ◌, List, [], ◌∷◌, ◌++◌, ℤ, pos}

-- each reading is n
abbrev pub AllAre : ℤ → List ℤ → Type 0
AllAre n [] = Unit {0}
AllAre n (x ∷ xs) = (x ≡ n) × AllAre n xs

pub AllAre-append : (n : ℤ) (xs ys : List ℤ) → AllAre n xs → AllAre n ys → AllAre n (xs ++ ys)
AllAre-append n [] ys a b = b
AllAre-append n (x ∷ xs) ys a b = (a.0, AllAre-append n xs ys a.1 b)

-- each reading is the Unix epoch or later
abbrev pub AllSinceEpoch : List ℤ → Type 0
AllSinceEpoch [] = Unit {0}
AllSinceEpoch (now ∷ readings) = (pos 116444736000000000 ≤ℤ now) × AllSinceEpoch readings

pub AllSinceEpoch-append : (xs ys : List ℤ) → AllSinceEpoch xs → AllSinceEpoch ys
    → AllSinceEpoch (xs ++ ys)
AllSinceEpoch-append [] ys p q = q
AllSinceEpoch-append (x ∷ xs) ys p q = (p.0, AllSinceEpoch-append xs ys p.1 q)
