-- What is past an element of a list.
use Rattle.std.proofs.Common.{◌≡◌, ℕ, zero, suc, Bool, true, false, cond, List, [], ◌∷◌, filter, drop, slice_get, Some, refl, sym, ap, ◌∙◌, subst}
use Rattle.std.specs.List.{AllByRecursion}
use Rattle.std.proofs.lemmas.Bool.{true≢false}
use Rattle.records.specs.Lists.{IsPairwise}

-- of a list in which each element is past those before it, what is past the k-th is what stands
-- behind it
module _ {X : Type 0} (past : X → X → Bool)
    (back : (x y : X) → past x y ≡ true → past y x ≡ false) where
  itself : (x : X) → past x x ≡ false
  itself x = go (past x x) refl
    where
      go : (b : Bool) → past x x ≡ b → b ≡ false
      go true e = sym e ∙ back x x e
      go false e = refl

  all_past : (x : X) (ys : List X) → AllByRecursion (λ y. past x y ≡ true) ys
      → filter (past x) ys ≡ ys
  all_past x [] h = refl
  all_past x (y ∷ ys) h = ap (λ b. cond b (y ∷ filter (past x) ys) (filter (past x) ys)) h.0
      ∙ ap (λ l. y ∷ l) (all_past x ys h.1)

  not_past : (x y : X) (ys : List X) (k : ℕ) → AllByRecursion (λ z. past y z ≡ true) ys
      → slice_get ys k ≡ Some x → past x y ≡ false
  not_past x y [] k h e = cc
  not_past x y (z ∷ ys) zero h e = let same : z ≡ x = cc in
      subst (λ w. past w y ≡ false) same (back y z h.0)
  not_past x y (z ∷ ys) (suc k) h e = not_past x y ys k h.1 e

  pub past_is_drop : (xs : List X) (k : ℕ) (x : X) → IsPairwise (λ a b. past a b ≡ true) xs
      → slice_get xs k ≡ Some x → filter (past x) xs ≡ drop (suc k) xs
  past_is_drop [] k x up e = cc
  past_is_drop (y ∷ xs) zero x up e =
      let same : y ≡ x = cc in
      subst (λ w. filter (past w) (y ∷ xs) ≡ xs) same
      (ap (λ b. cond b (y ∷ filter (past y) xs) (filter (past y) xs)) (itself y)
      ∙ all_past y xs up.0)
  past_is_drop (y ∷ xs) (suc k) x up e =
      ap (λ b. cond b (y ∷ filter (past x) xs) (filter (past x) xs)) (not_past x y xs k up.0 e)
      ∙ past_is_drop xs k x up.1 e

-- what is past an element passes a test that lets through all that is past it
pub past_passes : {X : Type 0} (p q : X → Bool) → ((x : X) → p x ≡ true → q x ≡ true)
    → (xs : List X) → filter p (filter q xs) ≡ filter p xs
past_passes p q on [] = refl
past_passes {X} p q on (x ∷ xs) = go (q x) (p x) refl refl (past_passes p q on xs)
  where
    go : (b c : Bool) → q x ≡ b → p x ≡ c → filter p (filter q xs) ≡ filter p xs
        → filter p (cond b (x ∷ filter q xs) (filter q xs)) ≡ cond c (x ∷ filter p xs) (filter p xs)
    go true c e k rest = ap (λ a. cond a (x ∷ filter p (filter q xs)) (filter p (filter q xs))) k
        ∙ ap (λ l. cond c (x ∷ l) l) rest
    go false true e k rest = absurd (true≢false (sym (on x k) ∙ e))
    go false false e k rest = rest
