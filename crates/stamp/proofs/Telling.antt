-- What entries tell: the map that they put into zeros, and no other.
use Rattle.std.proofs.Common.{◌≡◌, ◌≢◌, ℕ, zero, suc, ◌+◌, ◌-◌, ◌<◌, ◌≤◌, true, List, [], ◌∷◌, length, refl, sym, subst, ◌∙◌, arith, ◌⊎◌, inl, inr}
use Rattle.std.proofs.lemmas.Bool.{cases_eq, ltb-true}
use Rattle.std.proofs.lemmas.Bool.Decides.{nat_tests}
use Rattle.std.proofs.lemmas.List.{length-set}
use Rattle.std.specs.Prelude.{nat_le, ◌&&◌, slice_set}
use Rattle.std.specs.List.{AllByRecursion}
use Rattle.stamp.specs.Limits.{greatest}
use Rattle.stamp.specs.Numbers.{number_of, IsVector, zeros, filled}
use Rattle.stamp.specs.Vector.{entries_above, entry_list, IsVectorOf, vector}
use Rattle.stamp.proofs.Maps.{number_of-zeros, number_of-set_same, number_of-set_other, zeros_vector, set_vector, same_numbers}

-- entries of replicas up to 64 and numbers up to the greatest, each above the one before it, the
-- first above this replica
abbrev Ascends : ℕ → List (ℕ × ℕ) → Type 0
Ascends last [] = Unit {0}
Ascends last (e ∷ es) = (last < e.0) × (e.0 ≤ 64) × Ascends e.0 es × (e.1 ≤ greatest)

in_range : (r : ℕ) → (nat_le 1 r && nat_le r 64) ≡ true → r ≤ 64
in_range r t = grind (arith, nat_tests)

small : (n : ℕ) → (nat_le 1 n && nat_le n greatest) ≡ true → n ≤ greatest
small n t = grind (arith, nat_tests)

-- what is spelled ascends
ascends : (n last : ℕ) (bytes : List ℕ) (es : List (ℕ × ℕ)) → (entries_above last n).Spells bytes es
    → Ascends last es
ascends zero last bytes es s = subst (Ascends last) (sym s.1) tt
ascends (suc n) last bytes es s =
    let replica = s.4.3 in
    let number = s.4.4 in
    let rest = s.5 in
    subst (Ascends last) (sym rest.2) (
      ltb-true last s.2.0 replica.1,
      in_range s.2.0 replica.0.1,
      ascends n s.2.0 s.1 rest.0 rest.1,
      small s.2.1 number.1,
    )

length-filled : (es : List (ℕ × ℕ)) (numbers : List ℕ) → length (filled numbers es) ≡ length numbers
length-filled [] numbers = refl
length-filled (e ∷ es) numbers = length-filled es (slice_set numbers (e.0 - 1) e.1)
    ∙ length-set numbers (e.0 - 1) e.1

-- entries leave every replica as it is that they don't name
others_kept : (es : List (ℕ × ℕ)) (numbers : List ℕ) (last replica : ℕ) → Ascends last es
    → AllByRecursion (λ e. e.0 ≢ replica) es
    → number_of (filled numbers es) replica ≡ number_of numbers replica
others_kept [] numbers last replica a ne = refl
others_kept (e ∷ es) numbers last replica a ne =
    let apart : e.0 - 1 + 1 ≢ replica = λ same. ne.0 (omega arith) in
    others_kept es (slice_set numbers (e.0 - 1) e.1) e.0 replica a.2 ne.1
    ∙ number_of-set_other numbers (e.0 - 1) replica e.1 apart

-- a replica is not named by those above it
below_all : (es : List (ℕ × ℕ)) (last replica : ℕ) → Ascends last es → replica ≤ last
    → AllByRecursion (λ e. e.0 ≢ replica) es
below_all [] last replica a le = tt
below_all (e ∷ es) last replica a le = (omega arith, below_all es e.0 replica a.2 (omega arith))

named_told : (es : List (ℕ × ℕ)) (numbers : List ℕ) (last : ℕ) → length numbers ≡ 64
    → Ascends last es → AllByRecursion (λ e. number_of (filled numbers es) e.0 ≡ e.1) es
named_told [] numbers last whole a = tt
named_told (e ∷ es) numbers last whole a =
    let next : List ℕ = slice_set numbers (e.0 - 1) e.1 in
    let put : number_of next e.0 ≡ e.1 =
    number_of-set_same numbers (e.0 - 1) e.0 e.1 (omega arith) (omega arith) in (
      others_kept es next e.0 e.0 a.2 (below_all es e.0 e.0 a.2 (omega arith)) ∙ put,
      named_told es next e.0 (length-set numbers (e.0 - 1) e.1 ∙ whole) a.2,
    )

filled_tells : (es : List (ℕ × ℕ)) → Ascends 0 es → IsVectorOf es (filled zeros es)
filled_tells es a = record {
  named = named_told es zeros 0 zeros_vector.whole a;
  others = λ replica ne. others_kept es zeros 0 replica a ne ∙ number_of-zeros replica;
}

-- a replica is named, and then has one number in both, or it is not
named_or_not : (es : List (ℕ × ℕ)) (a b : List ℕ) → AllByRecursion (λ e. number_of a e.0 ≡ e.1) es
    → AllByRecursion (λ e. number_of b e.0 ≡ e.1) es → (replica : ℕ)
    → (number_of a replica ≡ number_of b replica) ⊎ AllByRecursion (λ e. e.0 ≢ replica) es
named_or_not [] a b p q replica = inr tt
named_or_not (e ∷ es) a b p q replica = elim (cases_eq e.0 replica) [
  | inl same ↦ inl (subst (λ r. number_of a r ≡ number_of b r) same (p.0 ∙ sym q.0))
  | inr ne ↦ elim (named_or_not es a b p.1 q.1 replica) [
    | inl same ↦ inl same
    | inr all ↦ inr (ne, all)
  ]
]

tells_one : (es : List (ℕ × ℕ)) (a b : List ℕ) → IsVectorOf es a → IsVectorOf es b → (replica : ℕ)
    → number_of a replica ≡ number_of b replica
tells_one es a b p q replica = elim (named_or_not es a b p.named q.named replica) [
  | inl same ↦ same
  | inr ne ↦ p.others replica ne ∙ sym (q.others replica ne)
]

filled_vector : (es : List (ℕ × ℕ)) (numbers : List ℕ) (last : ℕ) → IsVector numbers
    → Ascends last es → IsVector (filled numbers es)
filled_vector [] numbers last p a = p
filled_vector (e ∷ es) numbers last p a =
    filled_vector es (slice_set numbers (e.0 - 1) e.1) e.0
    (set_vector numbers (e.0 - 1) e.1 p (omega arith) a.3) a.2

-- what is spelled is a vector
pub spelled_vector : (bytes numbers : List ℕ) → vector.Spells bytes numbers → IsVector numbers
unfolding vector
spelled_vector bytes numbers s = subst IsVector (sym s.2)
    (filled_vector s.0 zeros 0 zeros_vector (ascends s.1.2 0 s.1.1 s.0 s.1.5))

-- what is spelled is told by entries that are spelled there
pub told : (bytes numbers : List ℕ) → vector.Spells bytes numbers
    → (es : List (ℕ × ℕ)) × entry_list.Spells bytes es × IsVectorOf es numbers
unfolding vector
told bytes numbers s =
    let a : Ascends 0 s.0 = ascends s.1.2 0 s.1.1 s.0 s.1.5 in
    (s.0, s.1, subst (IsVectorOf s.0) (sym s.2) (filled_tells s.0 a))

-- and what entries tell that are spelled there, is spelled
pub spelled : (bytes numbers : List ℕ) (es : List (ℕ × ℕ)) → length numbers ≡ 64
    → entry_list.Spells bytes es → IsVectorOf es numbers → vector.Spells bytes numbers
unfolding vector
spelled bytes numbers es whole s tells =
    let a : Ascends 0 es = ascends s.2 0 s.1 es s.5 in
    let len : length numbers ≡ length (filled zeros es) =
    whole ∙ sym (length-filled es zeros ∙ zeros_vector.whole) in (
      es,
      s,
      same_numbers numbers (filled zeros es) len
          (tells_one es numbers (filled zeros es) tells (filled_tells es a)),
    )

pub ruleset tellings = (spelled_vector, told, spelled)
