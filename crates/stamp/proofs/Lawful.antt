-- The format of vectors is lawful.
use Rattle.std.proofs.Common.{◌≡◌, ℕ, zero, suc, ◌+◌, ◌-◌, ◌<◌, ◌≤◌, true, List, [], ◌∷◌, ◌++◌, length, get_or, refl, sym, subst, ◌∙◌, append_assoc, arith, inl, inr}
use Rattle.std.proofs.lemmas.Bool.{cases_Bool, ltb-true, ltb-false}
use Rattle.std.proofs.lemmas.Bool.Decides.{nat_tests}
use Rattle.std.proofs.lemmas.List.{set_at, length_push}
use Rattle.std.specs.Prelude.{nat_lt, nat_le, ◌&&◌, drop, replicate, slice_set}
use Rattle.ua_binary.specs.Format.{IsLawful}
use Rattle.ua_binary.specs.Binary.{unsigned}
use Rattle.ua_binary.proofs.Combined.{nothing_lawful, byte_lawful, then_lawful, headed_lawful, standing_lawful, passing_lawful, fitting_lawful, raised_lawful}
use Rattle.ua_binary.proofs.Lawful.{u64_lawful}
use Rattle.stamp.specs.Limits.{greatest}
use Rattle.stamp.specs.Numbers.{IsVector, zeros, entries, filled}
use Rattle.stamp.proofs.NumbersParts.{entries_from}
use Rattle.stamp.specs.Vector.{entry_above, entries_above, vector}
use Rattle.stamp.proofs.VectorParts.{entry_count}

entry_lawful : (last : ℕ) → IsLawful (entry_above last)
entry_lawful last = then_lawful (passing_lawful _ _
    (passing_lawful _ _ (raised_lawful _ byte_lawful)))
    (passing_lawful _ _ (raised_lawful _ u64_lawful))

entries_lawful : (n last : ℕ) → IsLawful (entries_above last n)
entries_lawful zero last = nothing_lawful []
entries_lawful (suc n) last = headed_lawful _ _ (entry_lawful last)
    (λ e. standing_lawful (λ es. e ∷ es) (drop 1) (entries_lawful n e.0))

-- what the numbers of a vector may be
abbrev AreSmall : List ℕ → Type 0
AreSmall numbers = (i : ℕ) → get_or numbers i 0 ≤ greatest

entry_fits : (last first n : ℕ) → last < first → first ≤ 64 → 0 < n → n ≤ greatest
    → (entry_above last).Fits (first, n)
unfolding unsigned
entry_fits last first n above small some within =
    let a : (nat_le 1 first && nat_le first 64) ≡ true = grind (arith, nat_tests) in
    let b : nat_lt last first ≡ true = grind (arith, nat_tests) in
    let c : (nat_le 1 n && nat_le n greatest) ≡ true = grind (arith, nat_tests) in
    (((omega arith, a), b), (omega arith, c))

-- the entries of numbers fit their format
entries_fit : (ns : List ℕ) (first last : ℕ) → last < first → first + length ns ≤ 65 → AreSmall ns
    → (entries_above last (length (entries_from first ns))).Fits (entries_from first ns)
entries_fit [] first last above small within = refl
entries_fit (n ∷ ns) first last above small within = elim (cases_Bool (nat_lt 0 n)) [
  | inl t ↦ rw t (
    entry_fits last first n above (omega arith) (ltb-true 0 n t) (within 0),
    (entries_fit ns (first + 1) first (omega arith) (omega arith) (λ i. within (suc i)), refl),
  )
  | inr f ↦ rw f (entries_fit ns (first + 1) last (omega arith) (omega arith) (λ i. within (suc i)))
]

entries_few : (ns : List ℕ) (first : ℕ) → length (entries_from first ns) ≤ length ns
entries_few [] first = omega arith
entries_few (n ∷ ns) first = elim (cases_Bool (nat_lt 0 n)) [
  | inl t ↦ rw t (omega (arith, entries_few ns (first + 1)))
  | inr f ↦ rw f (omega (arith, entries_few ns (first + 1)))
]

refilled_step : (n : ℕ) (ns front : List ℕ) (es : List (ℕ × ℕ))
    → filled ((front ++ n ∷ []) ++ replicate (length ns) 0) es ≡ (front ++ n ∷ []) ++ ns
    → filled (front ++ n ∷ replicate (length ns) 0) es ≡ front ++ n ∷ ns
refilled_step n ns front es h =
    subst (λ z. filled z es ≡ front ++ n
    ∷ ns) (append_assoc front (n ∷ []) (replicate (length ns) 0))
    (h ∙ append_assoc front (n ∷ []) ns)

-- the entries of numbers give them back
refilled : (ns front : List ℕ) (first : ℕ) → first ≡ length front + 1
    → filled (front ++ replicate (length ns) 0) (entries_from first ns) ≡ front ++ ns
refilled [] front first e = refl
refilled (n ∷ ns) front first e =
    let next : first + 1 ≡ length (front ++ n ∷ []) + 1 = omega (arith, length_push front n) in
    let rest = refilled_step n ns front (entries_from (first + 1) ns)
    (refilled ns (front ++ n ∷ []) (first + 1) next) in
    elim (cases_Bool (nat_lt 0 n)) [
      | inl t ↦
          let put : slice_set (front ++ 0 ∷ replicate (length ns) 0) (first - 1) n
          ≡ front ++ n ∷ replicate (length ns) 0 =
          set_at front 0 (replicate (length ns) 0) n (first - 1) (omega arith) in
          rw t (subst (λ z. filled z (entries_from (first + 1) ns) ≡ front ++ n ∷ ns)
          (sym put) rest)
      | inr f ↦
          let none : 0 ≡ n = omega (arith, ltb-false 0 n f) in
          rw f (subst (λ z. filled (front ++ z ∷ replicate (length ns) 0)
          (entries_from (first + 1) ns) ≡ front ++ n ∷ ns) (sym none) rest)
    ]

refilled_whole : (numbers : List ℕ) → length numbers ≡ 64 → numbers ≡ filled zeros (entries numbers)
unfolding zeros
refilled_whole numbers whole = sym (subst
    (λ k. filled (replicate k 0) (entries numbers) ≡ numbers) whole (refilled numbers [] 1 refl))

vector_fits : (numbers : List ℕ) → IsVector numbers
    → ((entry_count.Fits (length (entries numbers)))
    × (entries_above 0 (length (entries numbers))).Fits (entries numbers))
    × (numbers ≡ filled zeros (entries numbers))
vector_fits numbers p =
    let few : length (entries numbers) ≤ 64 = omega (arith, entries_few numbers 1, p.whole) in
    let test : nat_le (length (entries numbers)) 64 ≡ true = grind (arith, nat_tests) in (
      (
        (omega arith, test),
        entries_fit numbers 1 0 (omega arith) (omega (arith, p.whole))
            (λ i. p.within (suc i)),
      ),
      refilled_whole numbers p.whole,
    )

pub vector_lawful : IsLawful vector
unfolding vector
vector_lawful = fitting_lawful IsVector vector_fits
    (standing_lawful (filled zeros) entries (headed_lawful length (entries_above 0)
    (passing_lawful _ _ (raised_lawful _ byte_lawful)) (λ n. entries_lawful n 0)))
