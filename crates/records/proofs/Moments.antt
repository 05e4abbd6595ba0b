-- The order of moments.
use Rattle.std.proofs.Common.{◌≡◌, ℕ, ◌≤◌, ◌<◌, ℤ, ◌<ℤ◌, ◌⊎◌, inl, inr, refl, arith}
use Rattle.std.specs.Prelude.{◌↔◌}
use Rattle.std.proofs.lemmas.Int.{ints}
use Rattle.std.specs.Ordering.{int_cmp, nat_cmp, ordering_then, MatchOrdering}
use Rattle.std.specs.declared.cmp.Ordering.{Ordering}
use Rattle.std.specs.declared.cmp.Ordering.TheVariants.{Less, Equal, Greater}
use Rattle.std.specs.Cmp.{int_cmp_is, int_ranked, ranked}
use Rattle.records.specs.Moments.{moment, ticks_again, pico_again, whole_again, pico_within}

lexicographic : (a b : ℤ) (p q : ℕ) (r s : Ordering) → p ≤ 9999 → q ≤ 9999
    → MatchOrdering r (a <ℤ b) (a ≡ b) (b <ℤ a) → MatchOrdering s (p < q) (p ≡ q) (q < p)
    → ordering_then r s ≡ int_cmp (moment a p) (moment b q)
lexicographic a b p q Less s h k m n =
    int_cmp_is (moment a p) (moment b q) Less (omega (arith, ints))
lexicographic a b p q Greater s h k m n =
    int_cmp_is (moment a p) (moment b q) Greater (omega (arith, ints))
lexicographic a b p q Equal Less h k m n =
    int_cmp_is (moment a p) (moment b q) Less (omega (arith, ints))
lexicographic a b p q Equal Equal h k m n =
    int_cmp_is (moment a p) (moment b q) Equal (omega (arith, ints))
lexicographic a b p q Equal Greater h k m n =
    int_cmp_is (moment a p) (moment b q) Greater (omega (arith, ints))

-- the order of ticks and then picoseconds is that of the integers
pub in_order : (a b : ℤ) (p q : ℕ) → p ≤ 9999 → q ≤ 9999
    → ordering_then (int_cmp a b) (nat_cmp p q) ≡ int_cmp (moment a p) (moment b q)
in_order a b p q h k = lexicographic a b p q _ _ h k (int_ranked a b _ refl) (ranked p q _ refl)

below_by : (a b : ℤ) (p q : ℕ) (r : Ordering) → p ≤ 9999 → q ≤ 9999
    → MatchOrdering r (a <ℤ b) (a ≡ b) (b <ℤ a)
    → moment a p <ℤ moment b q → (a <ℤ b) ⊎ ((a ≡ b) × (p < q))
below_by a b p q Less h k m l = inl m
below_by a b p q Equal h k m l = inr (m, omega (arith, ints))
below_by a b p q Greater h k m l = absurd (omega (arith, ints))

below_from : (a b : ℤ) (p q : ℕ) → p ≤ 9999 → q ≤ 9999 → (a <ℤ b) ⊎ ((a ≡ b) × (p < q))
    → moment a p <ℤ moment b q
below_from a b p q h k (inl m) = omega (arith, ints)
below_from a b p q h k (inr m) = omega (arith, ints, m.0, m.1)

pub moment_below : (a b : ℤ) (p q : ℕ) → p ≤ 9999 → q ≤ 9999
    → (moment a p <ℤ moment b q) ↔ ((a <ℤ b) ⊎ ((a ≡ b) × (p < q)))
moment_below a b p q h k = (below_by a b p q _ h k (int_ranked a b _ refl), below_from a b p q h k)

pub ruleset moments = (ticks_again, pico_again, whole_again, pico_within, moment_below)
