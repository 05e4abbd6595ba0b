-- A lawful content's vector as a list of numbers.
use Rattle.std.proofs.Common.{◌≡◌, ℕ, zero, suc, ◌≤◌, List, length, sym, ◌∙◌, subst, arith, inl, inr}
use Rattle.std.specs.Prelude.{nat_lt}
use Rattle.std.proofs.Math.ListN.{get_or-eq_default}
use Rattle.std.proofs.lemmas.Bool.{cases_Bool, ltb-true, ltb-false}
use Rattle.std.proofs.lemmas.List.FromFn.{length-map-range_with_len, get_or-map-range_with_len}
use Rattle.stamp.specs.Limits.{IsReplica}
use Rattle.stamp.specs.Numbers.{number_of, IsVector}
use Rattle.stamp.proofs.Maps.{number_at, same_numbers}
use Rattle.records.specs.Contents.{Content, vec, numbers_of}
use Rattle.records.proofs.ContentLemmas.{vec_attained}
use Rattle.records.proofs.CloseLemmas.{numbers_small}
use Rattle.archive.specs.Store.{IsLawfulContent}

none_beyond : (R : Content) (o : ℕ) → IsLawfulContent R → (IsReplica o → ⊥) → vec R o ≡ 0
none_beyond R o lawful out = elim (vec_attained R o) [
  | inl e ↦ e
  | inr h ↦ absurd (out (subst IsReplica h.2.0 (lawful.records h.0 h.1).origin))
]

pub numbers_are : (R : Content) → IsLawfulContent R → (o : ℕ) → number_of (numbers_of R) o ≡ vec R o
unfolding numbers_of
numbers_are R lawful zero = sym (none_beyond R 0 lawful (λ is. absurd (omega (arith, is.0))))
numbers_are R lawful (suc o) = elim (cases_Bool (nat_lt o 64)) [
  | inl t ↦ number_at (numbers_of R) o (suc o) (omega arith)
      ∙ get_or-map-range_with_len (vec R) 1 64 o (suc o) 0 (ltb-true _ _ t) (omega arith)
  | inr f ↦
      let past : length (numbers_of R) ≤ o =
      omega (arith, length-map-range_with_len (vec R) 1 64, ltb-false _ _ f) in
      number_at (numbers_of R) o (suc o) (omega arith)
      ∙ (get_or-eq_default (numbers_of R) 0 past
      ∙ sym (none_beyond R (suc o) lawful (λ is.
      absurd (omega (arith, is.1, ltb-false _ _ f)))))
]

pub numbers_vector : (R : Content) → IsLawfulContent R → IsVector (numbers_of R)
unfolding numbers_of
numbers_vector R lawful = record {
  whole = length-map-range_with_len (vec R) 1 64;
  within = λ o. let e = numbers_are R lawful o in let h = numbers_small R o lawful.closed in
      omega (arith, e, h);
}

-- what an archive told as its vector is that
pub told_is : (R : Content) (v : List ℕ) → IsLawfulContent R → IsVector v
    → ((o : ℕ) → number_of v o ≡ vec R o) → v ≡ numbers_of R
unfolding numbers_of
told_is R v lawful is told = same_numbers v (numbers_of R)
    (is.whole ∙ sym (length-map-range_with_len (vec R) 1 64))
    (λ o. told o ∙ sym (numbers_are R lawful o))
