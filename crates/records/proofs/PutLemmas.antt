-- One more record in a content.
use Rattle.std.proofs.Common.{◌≡◌, ℕ, ◌+◌, ◌≤◌, ◌<◌, eqb, ℤ, pos, ◌≤ℤ◌, ◌<ℤ◌, [], ◌∷◌, filter, refl, sym, ap, ◌∙◌, subst, arith, inl, inr, ◌⊎◌}
use Rattle.std.proofs.lemmas.Bool.{eq-eqb, cases_eq}
use Rattle.std.proofs.lemmas.Int.{ints, clamps}
use Rattle.stamp.specs.Limits.{greatest}
use Rattle.records.specs.declared.record.Record.{Record}
use Rattle.records.specs.Lists.{Has, Rises}
use Rattle.records.specs.Records.{name_cmp}
use Rattle.records.specs.Contents.{Content, vec, top, last_tick, IsClosed, put}
use Rattle.records.proofs.Sorting.{all_from_has, has-filter, has_from_filter, has-insert_sorted, has_from_insert_sorted, rises-insert_sorted}
use Rattle.records.proofs.Orders.{name_total}
use Rattle.records.proofs.ContentLemmas.{apart_names, vec_bounds, vec_attained, vec_is}

pub has-put : (r : Record) (R : Content) (z : Record) → (r ≡ z) ⊎ Has R z → Has (put r R) z
has-put r R z h = has-insert_sorted name_cmp name_total r R z h

pub has_from_put : (r : Record) (R : Content) (z : Record) → Has (put r R) z → (r ≡ z) ⊎ Has R z
has_from_put r R z h = has_from_insert_sorted name_cmp name_total r R z h

pub top_bounds : (R : Content) (r : Record) → Has R r → r.tick ≤ℤ top R
top_bounds [] r h = absurd h
top_bounds (s ∷ R) r h = elim h [
  | inl e ↦ subst (λ (x : Record). x.tick ≤ℤ top (s ∷ R)) e (omega (arith, ints, clamps))
  | inr k ↦ let more = top_bounds R r k in omega (arith, ints, clamps)
]

pub top_positive : (R : Content) → pos 0 ≤ℤ top R
top_positive [] = omega (arith, ints)
top_positive (s ∷ R) = let more = top_positive R in omega (arith, ints, clamps)

pub top_below : (R : Content) (t : ℤ) → pos 0 <ℤ t → ((r : Record) → Has R r → r.tick <ℤ t)
    → top R <ℤ t
top_below [] t p f = p
top_below (s ∷ R) t p f = let here = f s (inl refl) in let more =
    top_below R t p (λ r h. f r (inr h)) in omega (arith, ints, clamps)

pub top_least : (R : Content) (t : ℤ) → pos 0 ≤ℤ t → ((r : Record) → Has R r → r.tick ≤ℤ t)
    → top R ≤ℤ t
top_least [] t p f = p
top_least (s ∷ R) t p f = let here = f s (inl refl) in let more =
    top_least R t p (λ r h. f r (inr h)) in omega (arith, ints, clamps)

pub last_tick_bounds : (R : Content) (r : Record) (origin : ℕ) → Has R r → r.origin ≡ origin
    → r.tick ≤ℤ last_tick R origin
last_tick_bounds R r origin h e = top_bounds (filter (λ s. eqb s.origin origin) R) r
    (has-filter (λ s. eqb s.origin origin) R r h (eq-eqb r.origin origin e))

pub last_tick_within : (R : Content) (origin : ℕ) → last_tick R origin ≤ℤ top R
last_tick_within R origin = top_least (filter (λ s. eqb s.origin origin) R) (top R) (top_positive R)
    (λ r h. top_bounds R r (has_from_filter (λ s. eqb s.origin origin) R r h).0)

pub vec_put_same : (r : Record) (R : Content) → vec R r.origin < r.number
    → vec (put r R) r.origin ≡ r.number
vec_put_same r R lt =
    vec_is (put r R) r.origin r.number
    (λ z h e. elim (has_from_put r R z h) [
      | inl same ↦ subst (λ (x : Record). x.number ≤ r.number) same (omega arith)
      | inr k ↦ let le : z.number ≤ vec R r.origin =
          subst (λ o. z.number ≤ vec R o) e (vec_bounds R z k) in omega arith
    ])
    (inr (r, has-put r R r (inl refl), (refl, refl)))

pub vec_put_other : (r : Record) (R : Content) (origin : ℕ) → (r.origin ≡ origin → ⊥)
    → vec (put r R) origin ≡ vec R origin
vec_put_other r R origin other =
    vec_is (put r R) origin (vec R origin)
    (λ z h e. elim (has_from_put r R z h) [
      | inl same ↦ absurd (other (ap (λ (x : Record). x.origin) same ∙ e))
      | inr k ↦ subst (λ o. z.number ≤ vec R o) e (vec_bounds R z k)
    ])
    (elim (vec_attained R origin) [
      | inl z ↦ inl z
      | inr h ↦
          inr (h.0, has-put r R h.0 (inr h.1), h.2)
    ])

pub rises-put : (r : Record) (R : Content) → Rises name_cmp R → vec R r.origin < r.number
    → Rises name_cmp (put r R)
rises-put r R up lt =
    rises-insert_sorted name_cmp name_total r R
    (all_from_has _ R (λ z h. apart_names r z
    (λ p q. let le : z.number ≤ vec R r.origin =
    subst (λ o. z.number ≤ vec R o) (sym p) (vec_bounds R z h) in omega arith)))
    up

pub closed_put : (r : Record) (R : Content) → IsClosed R → r.number ≡ vec R r.origin + 1
    → last_tick R r.origin <ℤ r.tick → r.tick ≤ℤ (pos greatest) → IsClosed (put r R)
closed_put r R closed next rises within =
    let above : vec R r.origin < r.number = omega arith in
    let positive : pos 1 ≤ℤ r.tick =
    omega (arith, ints, top_positive (filter (λ s. eqb s.origin r.origin) R)) in
    let here : vec (put r R) r.origin ≡ r.number = vec_put_same r R above in
    record {
      ordered = rises-put r R closed.ordered above;
      numbers = λ z h. elim (has_from_put r R z h) [
        | inl e ↦ subst (λ (x : Record). 1 ≤ x.number) e (omega arith)
        | inr k ↦
            closed.numbers z k
      ];
      whole = λ o n one le. elim (cases_eq r.origin o) [
        | inl e ↦
            let bound : n ≤ r.number = omega (arith, subst (λ p. n ≤ vec (put r R) p) (sym e) le) in
            elim (cases_eq n r.number) [
              | inl same ↦ (r, has-put r R r (inl refl), (e, sym same))
              | inr apart ↦ let z =
                  closed.whole o n one (subst (λ p. n ≤ vec R p) e (omega arith)) in
                  (z.0, has-put r R z.0 (inr z.1), z.2)
            ]
        | inr other ↦ let z = closed.whole o n one (omega (arith, vec_put_other r R o other)) in
            (z.0, has-put r R z.0 (inr z.1), z.2)
      ];
      ticks = λ z h. elim (has_from_put r R z h) [
        | inl e ↦
            subst (λ (x : Record). (pos 1 ≤ℤ x.tick) × (x.tick ≤ℤ (pos greatest))) e
            (positive, within)
        | inr k ↦ closed.ticks z k
      ];
      rising = λ y z h k e lt. elim (has_from_put r R y h) [
        | inl a ↦ elim (has_from_put r R z k) [
          | inl b ↦ absurd (omega (arith, ap (λ (x : Record). x.number) (sym a ∙ b)))
          | inr n ↦
              let le : z.number ≤ vec R r.origin =
              subst (λ o. z.number ≤ vec R o) (sym (ap (λ (x : Record). x.origin) a ∙ e))
              (vec_bounds R z n) in
              absurd (omega (arith, ap (λ (x : Record). x.number) a))
        ]
        | inr m ↦ elim (has_from_put r R z k) [
          | inl b ↦
              let le : y.tick ≤ℤ last_tick R r.origin =
              last_tick_bounds R y r.origin m (e ∙ sym (ap (λ (x : Record). x.origin) b)) in
              subst (λ (x : Record). y.tick <ℤ x.tick) b (omega (arith, ints))
          | inr n ↦ closed.rising y z m n e lt
        ]
      ];
    }
