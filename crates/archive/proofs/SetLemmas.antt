-- A list in order with each element once is told by its members.
use Rattle.std.proofs.Common.{◌≡◌, zero, suc, true, false, cond, List, [], ◌∷◌, refl, ap, ◌∙◌, subst, inl, inr, Ordering, Less, Equal, Greater, is_lt, is_gt, add-one}
use Rattle.std.specs.Cmp.{IsTotalOrder}
use Rattle.std.specs.Ordering.{ordering_reverse}
use Rattle.std.proofs.Common.{ℤ, arith, IsPermutation, IsSorted}
use Rattle.std.specs.List.{dedup}
use Rattle.std.specs.List.Retain.{IsFiltered, DiffersFromLast}
use Rattle.std.specs.List.Sorted.{IsStrictlySortedBy}
use Rattle.std.specs.Ordering.{int_cmp, int_eq, eq_by_cmp}
use Rattle.std.proofs.lemmas.Bool.{true≢false}
use Rattle.std.proofs.lemmas.Bool.Decides.{nat_tests}
use Rattle.std.proofs.lemmas.Cmp.{int_cmp_total, int_eq_equiv, upto}
use Rattle.std.proofs.lemmas.Int.{ints}
use Rattle.std.proofs.lemmas.List.Filters.{dedup_is}
use Rattle.std.proofs.lemmas.List.Kept.{Contains-dedup, Contains-from_dedup, IsStrictlySortedBy-dedup}
use Rattle.std.proofs.lemmas.List.Sorted.{IsPermutation-sym}
use Rattle.records.specs.Lists.{insert_sorted, sort_by, IsPairwise, Has, Rises}
use Rattle.records.proofs.Sorting.{contains_from_has, has_from_contains, has-permutation, all_weaker, all-has, all_from_has, has_from_insert_sorted, has-sort_by, has_from_sort_by, same_members}

-- ---- what a sort leaves

module _ {X : Type 0} (cmp : X → X → Ordering) (total : IsTotalOrder cmp) where
  abbrev AtMost : X → X → Type 0
  AtMost a b = is_gt (cmp a b) ≡ false

  pairwise-insert_sorted : (new : X) (xs : List X) → IsPairwise AtMost xs
      → IsPairwise AtMost (insert_sorted cmp new xs)
  pairwise-insert_sorted new [] up = (tt, tt)
  pairwise-insert_sorted new (x ∷ xs) up = go (cmp new x) refl (pairwise-insert_sorted new xs up.1)
    where
      below : AtMost new x → IsPairwise AtMost (new ∷ x ∷ xs)
      below first = (
        (
          first,
          all_weaker (AtMost x) (AtMost new)
              (λ z. upto total new x z first) xs up.0,
        ),
        up,
      )

      go : (o : Ordering) → cmp new x ≡ o → IsPairwise AtMost (insert_sorted cmp new xs)
          → IsPairwise AtMost (cond (is_gt o) (x ∷ insert_sorted cmp new xs) (new ∷ x ∷ xs))
      go Less e more = below (ap is_gt e)
      go Equal e more = below (ap is_gt e)
      go Greater e more = (
        all_from_has (AtMost x) _ (λ z h. elim (has_from_insert_sorted cmp total new xs z h) [
          | inl s ↦ subst (AtMost x) s (ap is_gt (total.antisymm x new ∙ ap ordering_reverse e))
          | inr k ↦ all-has (AtMost x) xs z up.0 k
        ]),
        more,
      )

  pairwise-sort_by : (xs : List X) → IsPairwise AtMost (sort_by cmp xs)
  pairwise-sort_by [] = tt
  pairwise-sort_by (x ∷ xs) = pairwise-insert_sorted x _ (pairwise-sort_by xs)

  turned : (o : Ordering) → is_gt o ≡ false → is_lt (ordering_reverse o) ≡ false
  turned Less h = refl
  turned Equal h = refl
  turned Greater h = absurd (true≢false h)

  sorted_from_pairwise : (xs : List X) → IsPairwise AtMost xs → IsSorted cmp xs
  sorted_from_pairwise [] up k d low high = absurd (omega (arith, high))
  sorted_from_pairwise (x ∷ []) up k d low high = absurd (omega (arith, high))
  sorted_from_pairwise (x ∷ y ∷ ys) up zero d low high =
      ap is_lt (total.antisymm y x) ∙ turned (cmp x y) up.0.0
  sorted_from_pairwise (x ∷ y ∷ ys) up (suc k) d low high =
      rw add-one (rw add-one at (sorted_from_pairwise (y ∷ ys) up.1 k d (omega arith)
      (omega (arith, high))))

rises_from_strict : {X : Type 0} (cmp : X → X → Ordering) (xs : List X) → IsStrictlySortedBy cmp xs
    → Rises cmp xs
unfolding IsStrictlySortedBy
rises_from_strict cmp [] up = tt
rises_from_strict cmp (x ∷ xs) up = (up.0, rises_from_strict cmp xs up.1)

-- ---- times in order, each once

same_test : (x y : ℤ) → int_eq x y ≡ eq_by_cmp int_cmp x y
same_test x y = refl

pub exact_test : (x y : ℤ) → int_eq x y ≡ true → x ≡ y
exact_test x y e = grind (arith, nat_tests, ints)

rises-dedup : (xs : List ℤ) → IsSorted int_cmp xs → Rises int_cmp (dedup int_eq xs)
rises-dedup xs sorted = rises_from_strict int_cmp _
    (IsStrictlySortedBy-dedup int_cmp_total same_test xs sorted)

has-dedup : (xs : List ℤ) (z : ℤ) → Has xs z → Has (dedup int_eq xs) z
has-dedup xs z h = has_from_contains _ z (Contains-dedup int_eq_equiv exact_test xs z
    (contains_from_has xs z h))

has_from_dedup : (xs : List ℤ) (z : ℤ) → Has (dedup int_eq xs) z → Has xs z
has_from_dedup xs z h = has_from_contains xs z (Contains-from_dedup int_eq xs z
    (contains_from_has _ z h))

pub rises-once : (xs : List ℤ) → Rises int_cmp (dedup int_eq (sort_by int_cmp xs))
rises-once xs = rises-dedup _ (sorted_from_pairwise int_cmp int_cmp_total _
    (pairwise-sort_by int_cmp int_cmp_total xs))

pub has-once : (xs : List ℤ) (z : ℤ) → Has xs z → Has (dedup int_eq (sort_by int_cmp xs)) z
has-once xs z h = has-dedup _ z (has-sort_by int_cmp int_cmp_total xs z h)

pub has_from_once : (xs : List ℤ) (z : ℤ) → Has (dedup int_eq (sort_by int_cmp xs)) z → Has xs z
has_from_once xs z h = has_from_sort_by int_cmp int_cmp_total xs z (has_from_dedup _ z h)

-- what a sort and a `dedup` leave of times
pub times_set : (xs ys zs : List ℤ) → IsPermutation xs ys → IsSorted int_cmp ys
    → IsFiltered (DiffersFromLast int_eq) [] ys zs → zs ≡ dedup int_eq (sort_by int_cmp xs)
times_set xs ys zs same sorted filtered =
    dedup_is int_eq ys zs filtered
    ∙ same_members int_cmp int_cmp_total (dedup int_eq ys) (dedup int_eq (sort_by int_cmp xs))
    (rises-dedup ys sorted) (rises-once xs)
    (λ z h. has-once xs z (has-permutation ys xs z (IsPermutation-sym xs ys same)
    (has_from_dedup ys z h)))
    (λ z h. has-dedup ys z (has-permutation xs ys z same (has_from_once xs z h)))
