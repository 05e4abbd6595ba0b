-- Vectors as maps.
use Rattle.std.proofs.Common.{◌≡◌, ◌≢◌, ℕ, zero, suc, ◌+◌, ◌<◌, ◌≤◌, List, length, get_or, refl, sym, ap, ◌∙◌, arith, inl, inr}
use Rattle.std.proofs.lemmas.Bool.{cases_eq, cases_lt}
use Rattle.std.proofs.lemmas.List.{ext_get_or, get_or_past, get_or-set_same, get_or-set_other, length-set}
use Rattle.std.specs.Prelude.{max, replicate, slice_set}
use Rattle.stamp.specs.Limits.{greatest}
use Rattle.stamp.specs.Numbers.{number_of, IsVector, zeros}

-- the number of the replica at a place
pub number_at : (numbers : List ℕ) (place replica : ℕ) → place + 1 ≡ replica
    → number_of numbers replica ≡ get_or numbers place 0
number_at numbers place replica e = let s : replica ≡ suc place = omega arith in rw s refl

pub same_numbers : (a b : List ℕ) → length a ≡ length b
    → ((replica : ℕ) → number_of a replica ≡ number_of b replica) → a ≡ b
same_numbers a b long same =
    let one : (i : ℕ) → i < length a → get_or a i 0 ≡ get_or b i 0 =
    λ i _. sym (number_at a i (i + 1) refl) ∙ same (i + 1) ∙ number_at b i (i + 1) refl in
    ext_get_or 0 a b long one

pub same_vectors : (a b : List ℕ) → IsVector a → IsVector b
    → ((replica : ℕ) → number_of a replica ≡ number_of b replica) → a ≡ b
same_vectors a b p q same = same_numbers a b (p.whole ∙ sym q.whole) same

-- so many numbers, none above 0
abbrev no_numbers : ℕ → List ℕ
no_numbers n = replicate n 0

none_at : (n i : ℕ) → get_or (no_numbers n) i 0 ≡ 0
none_at zero i = refl
none_at (suc n) zero = refl
none_at (suc n) (suc i) = none_at n i

pub number_of-zeros : (replica : ℕ) → number_of zeros replica ≡ 0
unfolding zeros
number_of-zeros replica = none_at 65 replica

pub zeros_vector : IsVector zeros
unfolding zeros
zeros_vector = record { whole = refl; within = λ replica. omega (arith, none_at 65 replica) }

pub number_of-set_same : (numbers : List ℕ) (place replica n : ℕ) → place + 1 ≡ replica
    → place < length numbers → number_of (slice_set numbers place n) replica ≡ n
number_of-set_same numbers place replica n e lt =
    number_at (slice_set numbers place n) place replica e ∙ get_or-set_same numbers place n 0 lt

pub number_of-set_other : (numbers : List ℕ) (place other n : ℕ) → place + 1 ≢ other
    → number_of (slice_set numbers place n) other ≡ number_of numbers other
number_of-set_other numbers place zero n ne = refl
number_of-set_other numbers place (suc k) n ne =
    let apart : k ≢ place = λ e. ne (omega arith) in
    get_or-set_other numbers place k n 0 apart

-- one number written
pub set_vector : (numbers : List ℕ) (place n : ℕ) → IsVector numbers → place < 64 → n ≤ greatest
    → IsVector (slice_set numbers place n)
set_vector numbers place n p lt small = record {
  whole = length-set numbers place n ∙ p.whole;
  within = λ replica. elim (cases_eq (place + 1) replica) [
    | inl e ↦ omega (arith, number_of-set_same numbers place replica n e (omega (arith, p.whole)))
    | inr ne ↦ omega (arith, number_of-set_other numbers place replica n ne, p.within replica)
  ];
}

-- one number raised
pub raised_vector : (numbers : List ℕ) (place n more : ℕ) → IsVector numbers → place < 64
    → more ≤ greatest → n ≡ max (get_or numbers place 0) more → IsVector (slice_set numbers place n)
raised_vector numbers place n more p lt small e =
    set_vector numbers place n p lt (omega (arith, p.within (suc place)))

-- ---- two vectors, place by place

pub at_each : (a b : List ℕ) → IsVector a → IsVector b
    → ((k : ℕ) → k < 64 → get_or b k 0 ≤ get_or a k 0) → (replica : ℕ)
    → number_of b replica ≤ number_of a replica
at_each a b p q h zero = omega arith
at_each a b p q h (suc k) = elim (cases_lt k 64) [
  | inl lt ↦ h k lt
  | inr past ↦ omega (arith, get_or_past b k 0 (omega (arith, q.whole)))
]

-- what a join has done below a place, and not from there on
pub record JoinedBelow (old other now : List ℕ) (i : ℕ) : Type 0 where
  pub whole : length now ≡ 64
  pub done : (k : ℕ) → k < i → get_or now k 0 ≡ max (get_or old k 0) (get_or other k 0)
  pub rest : (k : ℕ) → i ≤ k → get_or now k 0 ≡ get_or old k 0

pub joined_none : (old other : List ℕ) → IsVector old → JoinedBelow old other old 0
joined_none old other p = record {
  whole = p.whole;
  done = λ k h. absurd (omega arith);
  rest =
      λ k h. refl;
}

pub joined_more : (old other now : List ℕ) (i n : ℕ) → JoinedBelow old other now i → i < 64
    → n ≡ max (get_or now i 0) (get_or other i 0)
    → JoinedBelow old other (slice_set now i n) (i + 1)
joined_more old other now i n j lt e = record {
  whole = length-set now i n ∙ j.whole;
  done = λ k h. elim (cases_eq k i) [
    | inl same ↦ omega (
      arith,
      ap (λ z. get_or (slice_set now i n) z 0) same,
      get_or-set_same now i n 0 (omega (arith, j.whole)),
      j.rest i (omega arith),
      ap (λ z. get_or old z 0) same,
      ap (λ z. get_or other z 0) same,
    )
    | inr apart ↦ get_or-set_other now i k n 0 apart ∙ j.done k (omega arith)
  ];
  rest = λ k h. let apart : k ≢ i = omega arith in
      get_or-set_other now i k n 0 apart ∙ j.rest k (omega arith);
}

pub joined_all : (old other now : List ℕ) (i : ℕ) → IsVector old → IsVector other
    → JoinedBelow old other now i → 64 ≤ i → (replica : ℕ)
    → number_of now replica ≡ max (number_of old replica) (number_of other replica)
joined_all old other now i p q j le zero = omega arith
joined_all old other now i p q j le (suc k) = elim (cases_lt k 64) [
  | inl lt ↦ j.done k (omega arith)
  | inr past ↦ omega (
    arith,
    get_or_past now k 0 (omega (arith, j.whole)),
    get_or_past old k 0 (omega (arith, p.whole)),
    get_or_past other k 0 (omega (arith, q.whole)),
  )
]

pub joined_vector : (old other now : List ℕ) (i : ℕ) → IsVector old → IsVector other
    → JoinedBelow old other now i → 64 ≤ i → IsVector now
joined_vector old other now i p q j le = record {
  whole = j.whole;
  within = λ replica. omega (
    arith,
    joined_all old other now i p q j le replica,
    p.within replica,
    q.within replica,
  );
}

-- a number below its counterpart
pub below_at : (a b : List ℕ) (k : ℕ) → get_or a k 0 < get_or b k 0
    → ((replica : ℕ) → number_of b replica ≤ number_of a replica) → ⊥
below_at a b k lt h = omega (
  arith,
  h (k + 1),
  number_at a k (k + 1) refl,
  number_at b k (k + 1) refl,
)

pub ruleset empties = (number_of-zeros, zeros_vector)

pub ruleset raises = (number_of-set_same, number_of-set_other, raised_vector)

pub ruleset comparisons = (at_each, below_at)

pub ruleset joins = (joined_none, joined_more, joined_all, joined_vector)
