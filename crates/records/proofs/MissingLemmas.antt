-- Merging what another content has beyond the vector gives the union.
use Rattle.std.proofs.Common.{◌≡◌, ℕ, ◌+◌, ◌≤◌, ◌<◌, eqb, pos, ◌≤ℤ◌, ◌<ℤ◌, List, [], ◌∷◌, filter, take, length, Some, refl, sym, ap, ◌∙◌, subst, arith, inl, inr, Less}
use Rattle.std.specs.Option.{option_map_or}
use Rattle.std.proofs.lemmas.Bool.{lt-ltb, ltb-true, eqb-true, cases_eq, cases_lt}
use Rattle.std.proofs.lemmas.Bool.Decides.{nat_tests}
use Rattle.std.proofs.lemmas.List.{take_all}
use Rattle.std.proofs.lemmas.Int.{ints}
use Rattle.stamp.specs.Limits.{greatest}
use Rattle.records.specs.declared.record.Record.{Record}
use Rattle.records.specs.Lists.{sort_by, Has, Rises}
use Rattle.records.specs.Records.{name_cmp, missing, is_beyond}
use Rattle.records.specs.Contents.{Content, vec, last_tick, IsClosed, AreCompatible, IsNext, join, put, learned, merged}
use Rattle.records.proofs.Sorting.{all-has, has-filter, has_from_filter, pairwise-filter, same_members, has-sort_by, has_from_sort_by, rises-sort_by}
use Rattle.records.proofs.Orders.{name_total}
use Rattle.records.proofs.ContentLemmas.{vec_bounds, apart_from_rises, compatible_back, named_once, reached, rises-join, has_from_join, has-join_left, has-join_right}
use Rattle.records.proofs.PutLemmas.{has-put, has_from_put, top_below, vec_put_same, vec_put_other, closed_put}
use Rattle.records.proofs.LearnLemmas.{learned_next}

pub sort_by-rises : (xs : Content) → Rises name_cmp xs → sort_by name_cmp xs ≡ xs
sort_by-rises xs up = same_members name_cmp name_total _ _
    (rises-sort_by name_cmp name_total xs (apart_from_rises xs up)) up
    (has_from_sort_by name_cmp name_total xs) (has-sort_by name_cmp name_total xs)

-- of a content in order, what is missing is a filter
pub missing_is : (R : Content) (v : ℕ → ℕ) (k : ℕ) → Rises name_cmp R
    → missing R v k ≡ take k (filter (is_beyond v) R)
missing_is R v k up = ap (take k) (sort_by-rises _ (pairwise-filter _ (is_beyond v) R up))

pub name_less : (x z : Record) → name_cmp x z ≡ Less → x.origin ≡ z.origin → x.number < z.number
name_less x z e o = grind (arith, nat_tests)

-- S has these records beyond R, of which x is the first
module _ (R S : Content) (x : Record) (xs : List Record) (closed : IsClosed R)
    (closed' : IsClosed S) (same : AreCompatible R S)
    (is : x ∷ xs ≡ filter (is_beyond (vec R)) S) where
  up : Rises name_cmp (x ∷ xs)
  up = subst (Rises name_cmp) (sym is) (pairwise-filter _ (is_beyond (vec R)) S closed'.ordered)

  in_beyond : (z : Record) → Has (x ∷ xs) z → Has S z × (vec R z.origin < z.number)
  in_beyond z h = let k = has_from_filter (is_beyond (vec R)) S z (subst (λ l. Has l z) is h) in
      (k.0, ltb-true _ _ k.1)

  beyond_in : (z : Record) → Has S z → vec R z.origin < z.number → Has (x ∷ xs) z
  beyond_in z h lt = subst (λ l. Has l z) (sym is)
      (has-filter (is_beyond (vec R)) S z h (lt-ltb _ _ lt))

  first_number : x.number ≡ vec R x.origin + 1
  first_number =
      let here = in_beyond x (inl refl) in
      let reach : x.number ≤ vec S x.origin = vec_bounds S x here.0 in
      let y = closed'.whole x.origin (vec R x.origin + 1) (omega arith) (omega (arith, here.1)) in
      let further : vec R y.0.origin < y.0.number = omega (arith, y.2.1, ap (vec R) y.2.0) in
      elim (beyond_in y.0 y.1 further) [
        | inl e ↦ ap (λ (r : Record). r.number) e ∙ y.2.1
        | inr k ↦ let lt = name_less x y.0 (all-has (λ z. name_cmp x z ≡ Less) xs y.0 up.0 k)
            (sym y.2.0) in absurd (omega (arith, y.2.1, here.1))
      ]

  later_tick : last_tick R x.origin <ℤ x.tick
  later_tick =
      let here = in_beyond x (inl refl) in
      let reach : x.number ≤ vec S x.origin = vec_bounds S x here.0 in
      let positive = (closed'.ticks x here.0).0 in
      top_below (filter (λ s. eqb s.origin x.origin) R) x.tick (omega (arith, ints, positive))
      (λ s h.
      let k = has_from_filter (λ r. eqb r.origin x.origin) R s h in
      let o : s.origin ≡ x.origin = eqb-true _ _ k.1 in
      let le : s.number ≤ vec R x.origin = subst (λ p. s.number ≤ vec R p) o (vec_bounds R s k.0) in
      let within : s.number ≤ vec S s.origin =
      subst (λ p. s.number ≤ vec S p) (sym o) (omega (arith, here.1)) in
      closed'.rising s x (reached S R closed' closed (compatible_back _ _ same) s k.0 within) here.0
      o (omega (arith, here.1)))

  small_tick : x.tick ≤ℤ (pos greatest)
  small_tick = (closed'.ticks x (in_beyond x (inl refl)).0).1

  pub next_closed : IsClosed (put x R)
  next_closed = closed_put x R closed first_number later_tick small_tick

  pub next_compatible : AreCompatible (put x R) S
  next_compatible q s h k e f = elim (has_from_put x R q h) [
    | inl here ↦ subst (λ (r : Record). r ≡ s) here
        (named_once S closed'.ordered x s (in_beyond x (inl refl)).0 k
        (ap (λ (r : Record). r.origin) here ∙ e) (ap (λ (r : Record). r.number) here ∙ f))
    | inr m ↦ same q s m k e f
  ]

  grown : (z : Record) → vec R z.origin ≤ vec (put x R) z.origin
  grown z = elim (cases_eq x.origin z.origin) [
    | inl e ↦ let h = vec_put_same x R (omega (arith, first_number)) in
        subst (λ o. vec R o ≤ vec (put x R) o) e (omega (arith, first_number))
    | inr other ↦ omega (arith, vec_put_other x R z.origin other)
  ]

  next_beyond : (z : Record) → Has xs z → vec (put x R) z.origin < z.number
  next_beyond z h =
      let further = (in_beyond z (inr h)).1 in
      elim (cases_eq x.origin z.origin) [
        | inl e ↦
            let lt = name_less x z (all-has (λ y. name_cmp x y ≡ Less) xs z up.0 h) e in
            let here = vec_put_same x R (omega (arith, first_number)) in
            omega (arith, ap (vec (put x R)) e)
        | inr other ↦ omega (arith, vec_put_other x R z.origin other)
      ]

  pub next_rest : xs ≡ filter (is_beyond (vec (put x R))) S
  next_rest =
      same_members name_cmp name_total _ _ up.1 (pairwise-filter _
      (is_beyond (vec (put x R))) S closed'.ordered)
      (λ z h. has-filter (is_beyond (vec (put x R))) S z (in_beyond z (inr h)).0
      (lt-ltb _ _ (next_beyond z h)))
      (λ z h.
      let k = has_from_filter (is_beyond (vec (put x R))) S z h in
      let far = ltb-true _ _ k.1 in
      elim (beyond_in z k.0 (omega (arith, grown z, far))) [
        | inl e ↦
            let here : vec (put x R) x.origin ≡ x.number =
            vec_put_same x R (omega (arith, first_number)) in
            let there : vec (put x R) z.origin ≡ z.number =
            subst (λ (r : Record). vec (put x R) r.origin ≡ r.number) e here in
            absurd (omega (arith, far))
        | inr m ↦ m
      ])

  next_join : join (put x R) S ≡ join R S
  next_join =
      same_members name_cmp name_total _ _ (rises-join
      (put x R) S next_closed.ordered closed'.ordered)
      (rises-join R S closed.ordered closed'.ordered)
      (λ z h. elim (has_from_join (put x R) S z h) [
        | inl k ↦ elim (has_from_put x R z k) [
          | inl e ↦
              has-join_right R S same z (subst (Has S) e (in_beyond x (inl refl)).0)
          | inr m ↦
              has-join_left R S z m
        ]
        | inr k ↦ has-join_right R S same z k
      ])
      (λ z h. elim (has_from_join R S z h) [
        | inl k ↦ has-join_left (put x R) S z (has-put x R z (inr k))
        | inr k ↦ has-join_right (put x R) S next_compatible z k
      ])

  pub next_first : IsNext R x
  next_first = record { number = first_number; rises = later_tick; within = small_tick }

  next_learned : learned R x ≡ Some (put x R)
  next_learned = learned_next R x next_first

nothing_beyond : (R S : Content) → IsClosed R → IsClosed S → AreCompatible R S
    → [] ≡ filter (is_beyond (vec R)) S → R ≡ join R S
nothing_beyond R S closed closed' same is =
    same_members name_cmp name_total _ _ closed.ordered
    (rises-join R S closed.ordered closed'.ordered)
    (λ z h. has-join_left R S z h)
    (λ z h. elim (has_from_join R S z h) [
      | inl k ↦ k
      | inr k ↦ elim (cases_lt (vec R z.origin) z.number) [
        | inl lt ↦ absurd (subst (λ l. Has l z) (sym is)
            (has-filter (is_beyond (vec R)) S z k (lt-ltb _ _ lt)))
        | inr le ↦ reached R S closed closed' same z k le
      ]
    ])

pub merged_beyond : (S : Content) (xs : List Record) (R : Content) → IsClosed R → IsClosed S
    → AreCompatible R S → xs ≡ filter (is_beyond (vec R)) S → merged xs R ≡ join R S
merged_beyond S [] R closed closed' same is = nothing_beyond R S closed closed' same is
merged_beyond S (x ∷ xs) R closed closed' same is =
    ap (λ o. option_map_or (merged xs) o R) (next_learned R S x xs closed closed' same is)
    ∙ (merged_beyond S xs (put x R) (next_closed R S x xs closed closed' same is) closed'
    (next_compatible R S x xs closed closed' same is) (next_rest R S x xs closed closed' same is)
    ∙ next_join R S x xs closed closed' same is)

-- merging all that a peer has beyond the vector
pub merged_missing : (R S : Content) (k : ℕ) → IsClosed R → IsClosed S → AreCompatible R S
    → length (filter (is_beyond (vec R)) S) ≤ k → merged (missing S (vec R) k) R ≡ join R S
merged_missing R S k closed closed' same le =
    merged_beyond S _ R closed closed' same (missing_is S (vec R) k closed'.ordered
    ∙ take_all k _ le)
