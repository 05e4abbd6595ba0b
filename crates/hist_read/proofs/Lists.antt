-- Lists, one item after the other.
use Rattle.std.proofs.Common.{◌≡◌, ◌<◌, ◌≤◌, ◌+◌, ℕ, zero, suc, List, [], ◌∷◌, take, length, get_or, sym, subst, arith}
use Rattle.std.specs.List.{All}
use Rattle.std.proofs.lemmas.List.{take_all}

pub all_start : {X : Type 0} (P : X → Type 0) (x : X) (xs : List X) → P x → All P xs
    → All P (x ∷ xs)
all_start P x xs p ps zero d l = p
all_start P x xs p ps (suc k) d l = ps k d (omega (arith, l))

all_rest : {X : Type 0} (P : X → Type 0) (x : X) (xs : List X) → All P (x ∷ xs) → All P xs
all_rest P x xs ps k d l = ps (suc k) d (omega (arith, l))

more : {X : Type 0} (P : X → Type 0) (xs : List X) (n : ℕ) (x : X) → n < length xs
    → x ≡ get_or xs n x → P x → All P (take n xs) → All P (take (suc n) xs)
more P [] n x l e p ps = absurd (omega (arith, l))
more P (y ∷ ys) zero x l e p ps = all_start P y [] (subst P e p)
    (λ k d lt. absurd (omega (arith, lt)))
more P (y ∷ ys) (suc n) x l e p ps =
    all_start P y (take (suc n) ys) (ps zero x (omega arith))
    (more P ys n x (omega (arith, l)) e p (all_rest P y (take n ys) ps))

-- one more item
pub all_next : {X : Type 0} (P : X → Type 0) (xs : List X) (n : ℕ) (x : X) → n < length xs
    → x ≡ get_or xs n x → P x → All P (take n xs) → All P (take (n + 1) xs)
all_next P xs n x l e p ps = let one : n + 1 ≡ suc n = omega arith in
    subst (λ m. All P (take m xs)) (sym one) (more P xs n x l e p ps)

pub all_taken : {X : Type 0} (P : X → Type 0) (xs : List X) (n : ℕ) → length xs ≤ n
    → All P (take n xs) → All P xs
all_taken P xs n l ps = subst (All P) (take_all n xs l) ps
