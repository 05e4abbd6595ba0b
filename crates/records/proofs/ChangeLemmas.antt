-- What one more record changes.
use Rattle.std.proofs.Common.{◌≡◌, ℕ, eqb, pos, ◌≤ℤ◌, Bool, true, false, cond, List, [], ◌∷◌, filter, refl, ap, subst, arith, inl, inr, ◌⊎◌, Ordering, is_gt}
use Rattle.std.specs.Prelude.{◌↔◌}
use Rattle.std.specs.Int.{int_max}
use Rattle.std.proofs.lemmas.Bool.{eqb-true, ne_eqb}
use Rattle.std.proofs.lemmas.Int.{ints, clamps}
use Rattle.records.specs.declared.record.Record.{Record}
use Rattle.records.specs.Lists.{Has, insert_sorted}
use Rattle.records.specs.Records.{name_cmp}
use Rattle.records.specs.Contents.{Content, vec, top, last_tick, put, IsNext}
use Rattle.records.proofs.Sorting.{has_from_filter}
use Rattle.records.proofs.PutLemmas.{has-put, has_from_put, top_positive, top_least, last_tick_bounds, vec_put_same, vec_put_other}
use Rattle.records.proofs.LearnLemmas.{closed-next}

pub put_has : (R : Content) (r z : Record) → Has (put r R) z ↔ ((r ≡ z) ⊎ Has R z)
put_has R r z = (has_from_put r R z, has-put r R z)

pub vec_next_own : (R : Content) (r : Record) → IsNext R r → vec (put r R) r.origin ≡ r.number
vec_next_own R r next = vec_put_same r R (omega (arith, next.number))

pub vec_next_other : (R : Content) (r : Record) (origin : ℕ) → (r.origin ≡ origin → ⊥)
    → vec (put r R) origin ≡ vec R origin
vec_next_other R r origin other = vec_put_other r R origin other

pub top_put : (R : Content) (r : Record) → top (put r R) ≡ int_max r.tick (top R)
top_put [] r = refl
top_put (s ∷ R) r =
    let more = top_put R r in
    elim (is_gt (name_cmp r s)) as (λ b. top (cond b (s ∷ put r R) (r ∷ s ∷ R))
    ≡ int_max r.tick (int_max s.tick (top R))) [
      | true ↦ omega (arith, ints, clamps)
      | false ↦ refl
    ]

module _ {X : Type 0} (cmp : X → X → Ordering) (p : X → Bool) (new : X) (out : p new ≡ false) where
  -- what the test leaves out may be put in anywhere
  filter-insert_sorted : (xs : List X) → filter p (insert_sorted cmp new xs) ≡ filter p xs
  filter-insert_sorted [] = rw out refl
  filter-insert_sorted (x ∷ xs) =
      elim (is_gt (cmp new x)) as (λ b.
      filter p (cond b (x ∷ insert_sorted cmp new xs) (new ∷ x ∷ xs)) ≡ filter p (x ∷ xs)) [
        | true ↦ ap (λ ys. cond (p x) (x ∷ ys) ys) (filter-insert_sorted xs)
        | false ↦ rw out refl
      ]

pub last_next_own : (R : Content) (r : Record) → IsNext R r → last_tick (put r R) r.origin ≡ r.tick
last_next_own R r next =
    let rises = next.rises in
    let positive : pos 0 ≤ℤ r.tick =
    omega (arith, ints, top_positive (filter (λ s. eqb s.origin r.origin) R)) in
    let down = last_tick_bounds (put r R) r r.origin (has-put r R r (inl refl)) refl in
    let up : last_tick (put r R) r.origin ≤ℤ r.tick =
    top_least (filter (λ s. eqb s.origin r.origin) (put r R)) r.tick positive (λ z h.
    let k = has_from_filter (λ s. eqb s.origin r.origin) (put r R) z h in
    elim (has_from_put r R z k.0) [
      | inl same ↦ subst (λ (x : Record). x.tick ≤ℤ r.tick) same (omega (arith, ints))
      | inr m ↦ let le = last_tick_bounds R z r.origin m (eqb-true _ _ k.1) in omega (arith, ints)
    ]) in
    omega (arith, ints)

pub last_next_other : (R : Content) (r : Record) (origin : ℕ) → (r.origin ≡ origin → ⊥)
    → last_tick (put r R) origin ≡ last_tick R origin
last_next_other R r origin other =
    ap top (filter-insert_sorted name_cmp (λ s. eqb s.origin origin) r (ne_eqb _ _ other) R)

pub ruleset changes = (
  put_has,
  vec_next_own,
  vec_next_other,
  top_put,
  last_next_own,
  last_next_other,
  closed-next,
)
