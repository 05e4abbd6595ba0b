-- Rows of which no two tie.
use Rattle.std.proofs.Common.{◌≡◌, false, List, [], ◌∷◌, refl, ap, ◌∙◌, Ordering, Less, Equal, Greater, is_eq, IsPermutation}
use Rattle.std.specs.List.{AllByRecursion}
use Rattle.std.specs.Ordering.{ordering_reverse}
use Rattle.std.specs.Cmp.{IsTotalOrder}
use Rattle.std.proofs.lemmas.List.Sorted.{IsPermutation-refl, IsPermutation-cons, IsPermutation-middle, IsPermutation-trans}
use Rattle.sqlite_keyed.proofs.ListLemmas.{along_permutation}
use Rattle.sqlite_trees.specs.Tree.{IsAscending}

abbrev pub IsApart : {X : Type 0} → (X → X → Ordering) → List X → Type 0
IsApart cmp = IsAscending (λ a b. is_eq (cmp a b) ≡ false)

module _ {X : Type 0} (cmp : X → X → Ordering) (total : IsTotalOrder cmp) where
  pub either_way : (x y : X) → is_eq (cmp x y) ≡ false → is_eq (cmp y x) ≡ false
  either_way x y h = ap is_eq (total.antisymm y x) ∙ go (cmp x y) h
    where
      go : (o : Ordering) → is_eq o ≡ false → is_eq (ordering_reverse o) ≡ false
      go Less e = refl
      go Equal e = e
      go Greater e = refl

  pub all-permuted : (P : X → Type 0) (xs ys : List X) → IsPermutation xs ys → AllByRecursion P xs
      → AllByRecursion P ys
  all-permuted P = along_permutation (λ xs ys. AllByRecursion P xs → AllByRecursion P ys)
      (λ xs h. h) (λ x xs ys more h. (h.0, more h.1)) (λ x y xs h. (h.1.0, (h.0, h.1.1)))
      (λ xs ys zs p q h. q (p h))

  -- no two of a list tie, in whatever order they stand
  pub apart-permuted : (xs ys : List X) → IsPermutation xs ys → IsApart cmp xs → IsApart cmp ys
  apart-permuted xs ys same = (along_permutation
      (λ us vs. IsPermutation us vs × (IsApart cmp us → IsApart cmp vs))
      (λ us. (IsPermutation-refl us, λ h. h))
      (λ x us vs more. (
        IsPermutation-cons x us vs more.0,
        λ h. (all-permuted (λ b. is_eq (cmp x b) ≡ false) us vs more.0 h.0, more.1 h.1),
      ))
      (λ x y us. (
        IsPermutation-middle (x ∷ []) y us,
        λ h. ((either_way x y h.0.0, h.1.0), (h.0.1, h.1.1)),
      ))
      (λ us vs ws p q. (IsPermutation-trans us vs ws p.0 q.0, λ h. q.1 (p.1 h))) xs ys same).1
