-- What a vector covers of a content.
use Rattle.std.proofs.Common.{◌≡◌, ◌≤◌, ℕ, zero, suc, nat_le, not, true, false, Bool, IsTrue, List, [], ◌∷◌, length, get_or, refl, sym, ap, ◌∙◌, arith, inl, inr}
use Rattle.std.proofs.lemmas.Bool.{cases_Bool, and_from, and_parts, true≢false}
use Rattle.std.proofs.lemmas.Bool.Decides.{nat_tests}
use Rattle.std.specs.Cmp.Lexicographic.{pointwise}
use Rattle.stamp.specs.Numbers.{number_of, IsVector}
use Rattle.records.specs.Contents.{Content, numbers_of, cut}
use Rattle.records.specs.Records.{is_beyond}
use Rattle.records.specs.declared.record.Record.{Record}
use Rattle.records.proofs.CutLemmas.{closed_cut, cut_whole}
use Rattle.records.proofs.Sorting.{has_from_filter}
use Rattle.archive.specs.Store.{IsLawfulContent}
use Rattle.archive.proofs.Vectors.{numbers_are}

pub lawful_cut : (R : Content) (v : ℕ → ℕ) → IsLawfulContent R → IsLawfulContent (cut R v)
lawful_cut R v lawful = record {
  closed = closed_cut R v lawful.closed;
  records = λ r h. lawful.records r (has_from_filter (λ (s : Record). not (is_beyond v s)) R r h).0;
}

-- each number of one list is at most the one there in the other
below_from : (a b : List ℕ) → pointwise nat_le a b ≡ true → (i : ℕ) → get_or a i 0 ≤ get_or b i 0
below_from [] [] e i = omega arith
below_from [] (y ∷ ys) e i = omega arith
below_from (x ∷ xs) [] e i = absurd cc
below_from (x ∷ xs) (y ∷ ys) e zero = let p = and_parts (nat_le x y) (pointwise nat_le xs ys) e in
    grind (arith, nat_tests, p.0)
below_from (x ∷ xs) (y ∷ ys) e (suc i) = let p =
    and_parts (nat_le x y) (pointwise nat_le xs ys) e in below_from xs ys p.1 i

below_to : (a b : List ℕ) → length a ≡ length b → ((i : ℕ) → get_or a i 0 ≤ get_or b i 0)
    → pointwise nat_le a b ≡ true
below_to [] [] e h = refl
below_to [] (y ∷ ys) e h = absurd (omega (arith, e))
below_to (x ∷ xs) [] e h = absurd (omega (arith, e))
below_to (x ∷ xs) (y ∷ ys) e h = let first = h 0 in
    and_from (nat_le x y) (pointwise nat_le xs ys) (grind (arith, nat_tests, first))
    (below_to xs ys (omega (arith, e)) (λ i. h (suc i)))

pub vectors_below : (a b : List ℕ) → pointwise nat_le a b ≡ true → (replica : ℕ)
    → number_of a replica ≤ number_of b replica
vectors_below a b e zero = omega arith
vectors_below a b e (suc k) = omega (arith, below_from a b e k)

pub vectors_above : (a b : List ℕ) → IsVector a → IsVector b
    → ((replica : ℕ) → number_of a replica ≤ number_of b replica) → pointwise nat_le a b ≡ true
vectors_above a b p q h = below_to a b (p.whole ∙ sym q.whole) (λ i. h (suc i))

-- a test that is right tells it
pub covered_as : (a b : List ℕ) (r : Bool) → IsVector a → IsVector b
    → (IsTrue r → (replica : ℕ) → number_of a replica ≤ number_of b replica)
    → (((replica : ℕ) → number_of a replica ≤ number_of b replica) → IsTrue r)
    → r ≡ pointwise nat_le a b
covered_as a b true p q from to = sym (vectors_above a b p q (from refl))
covered_as a b false p q from to =
    elim (cases_Bool (pointwise nat_le a b)) [
      | inl e ↦
          absurd (true≢false (sym (to (vectors_below a b e))))
      | inr e ↦ sym e
    ]

-- all that is held is covered by the numbers of it
pub cut_own : (R : Content) → IsLawfulContent R → cut R (number_of (numbers_of R)) ≡ R
cut_own R lawful = ap (cut R) (λ i o. numbers_are R lawful o i) ∙ cut_whole R lawful.closed
