-- The greatest number and the greatest ticks are held.
use Rattle.std.proofs.Common.{◌≡◌, ℕ, ◌≤◌, eqb, pos, ◌≤ℤ◌, Bool, true, false, [], ◌∷◌, filter, refl, sym, ap, ◌∙◌, subst, arith, inl, inr, ◌⊎◌}
use Rattle.std.specs.Prelude.{int_le}
use Rattle.std.specs.Int.{int_max}
use Rattle.std.proofs.lemmas.Bool.{eqb-true, cases_lt}
use Rattle.std.proofs.lemmas.Int.{ints, clamps}
use Rattle.records.specs.declared.record.Record.{Record}
use Rattle.records.specs.Lists.{Has}
use Rattle.records.specs.Contents.{Content, vec, top, last_tick, IsClosed}
use Rattle.records.proofs.Sorting.{has_from_filter}
use Rattle.records.proofs.ContentLemmas.{vec_bounds, vec_attained, named_once}
use Rattle.records.proofs.PutLemmas.{top_bounds, top_positive, last_tick_bounds, last_tick_within}
use Rattle.records.proofs.CloseLemmas.{number_below_tick}
use Rattle.records.proofs.LearnLemmas.{le_from_test, gt_from_test}

pub top_attained : (R : Content) → (top R ≡ pos 0) ⊎ ((r : Record) × Has R r × (r.tick ≡ top R))
top_attained [] = inl refl
top_attained (s ∷ R) = go (int_le s.tick (top R)) refl (top_attained R)
  where
    go : (b : Bool) → int_le s.tick (top R) ≡ b
        → (top R ≡ pos 0) ⊎ ((r : Record) × Has R r × (r.tick ≡ top R))
        → (top (s ∷ R) ≡ pos 0) ⊎ ((r : Record) × Has (s ∷ R) r × (r.tick ≡ top (s ∷ R)))
    go true e more =
        let below = le_from_test s.tick (top R) e in
        let is : top R ≡ int_max s.tick (top R) = omega (arith, ints, clamps) in
        elim more [ inl z ↦ inl (sym is ∙ z) | inr h ↦ inr (h.0, inr h.1, h.2 ∙ is) ]
    go false e more =
        let above = gt_from_test s.tick (top R) e in
        let is : s.tick ≡ int_max s.tick (top R) = omega (arith, ints, clamps) in
        inr (s, inl refl, is)

pub last_attained : (R : Content) (origin : ℕ)
    → (last_tick R origin ≡ pos 0) ⊎ ((r : Record) × Has R r × (r.origin ≡ origin)
    × (r.tick ≡ last_tick R origin))
last_attained R origin = elim (top_attained (filter (λ s. eqb s.origin origin) R)) [
  | inl z ↦ inl z
  | inr h ↦ let k = has_from_filter (λ s. eqb s.origin origin) R h.0 h.1 in
      inr (h.0, k.0, eqb-true _ _ k.1, h.2)
]

-- of a closed content the record with its origin's last number has its origin's last tick
pub last_of_last : (R : Content) (r : Record) → IsClosed R → Has R r → r.number ≡ vec R r.origin
    → r.tick ≡ last_tick R r.origin
last_of_last R r closed h e =
    let below = last_tick_bounds R r r.origin h refl in
    let low = (closed.ticks r h).0 in
    elim (last_attained R r.origin) [
      | inl z ↦ absurd (omega (arith, ints))
      | inr k ↦
          let bound : k.0.number ≤ vec R r.origin =
          subst (λ o. k.0.number ≤ vec R o) k.2 (vec_bounds R k.0 k.1) in
          elim (cases_lt k.0.number r.number) [
            | inl lt ↦ let rise = closed.rising k.0 r k.1 h k.2 lt in
                absurd (omega (arith, ints, k.3))
            | inr ge ↦ ap (λ (x : Record). x.tick)
                (named_once R closed.ordered r k.0 h k.1 (sym k.2) (omega arith)) ∙ k.3
          ]
    ]

pub numbers_below : (R : Content) (origin : ℕ) → IsClosed R
    → pos (vec R origin) ≤ℤ last_tick R origin
numbers_below R origin closed = elim (vec_attained R origin) [
  | inl z ↦ let low = top_positive (filter (λ s. eqb s.origin origin) R) in omega (arith, ints, z)
  | inr h ↦
      let below = number_below_tick R closed h.0.number h.0 h.1 refl in
      let held = last_tick_bounds R h.0 origin h.1 h.2.0 in
      omega (arith, ints, h.2.1)
]

pub ruleset greatest_members = (
  vec_bounds,
  vec_attained,
  top_bounds,
  top_attained,
  last_tick_bounds,
  last_attained,
  last_of_last,
  last_tick_within,
  numbers_below,
)
