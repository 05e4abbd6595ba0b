-- The laws of contents.
use Rattle.std.proofs.Common.{◌≡◌, ℕ, ◌≤◌, ◌<◌, eqb, max, ◌<ℤ◌, Bool, true, false, not, ◌||◌, cond, List, [], ◌∷◌, ◌++◌, refl, sym, ap, ◌∙◌, subst, arith, inl, inr, ◌⊎◌, Ordering, Less, is_eq}
use Rattle.std.specs.Prelude.{◌↔◌}
use Rattle.std.proofs.lemmas.Bool.{true≢false, eq-eqb, eqb-true, cases_lt, cases_Bool, or_parts, not-true}
use Rattle.std.proofs.lemmas.Bool.Decides.{nat_tests}
use Rattle.records.specs.declared.record.Record.{Record}
use Rattle.records.specs.Lists.{IsPairwise, IsApart, Has, Rises}
use Rattle.records.specs.Records.{name_cmp}
use Rattle.records.specs.Contents.{Content, vec, HasName, IsClosed, AreCompatible, IsWithin, join}
use Rattle.records.proofs.ContentsParts.{names}
use Rattle.records.proofs.Sorting.{all_weaker, all-has, all_from_has, has-filter, has_from_filter, pairwise-filter, same_members, has-sort_by, has_from_sort_by, rises-sort_by}
use Rattle.records.proofs.Orders.{name_total}

-- two records tie exactly where they have one name
pub tied_names : (r s : Record) → is_eq (name_cmp r s) ≡ true
    → (r.origin ≡ s.origin) × (r.number ≡ s.number)
tied_names r s e = grind (arith, nat_tests)

pub apart_names : (r s : Record) → ((r.origin ≡ s.origin) → (r.number ≡ s.number) → ⊥)
    → is_eq (name_cmp r s) ≡ false
apart_names r s f = grind (arith, nat_tests)

pub same_named : (r s : Record) → r.origin ≡ s.origin → r.number ≡ s.number
    → is_eq (name_cmp r s) ≡ true
same_named r s p q = grind (arith, nat_tests)

-- vec is the least bound
pub vec_bounds : (R : Content) (r : Record) → Has R r → r.number ≤ vec R r.origin
vec_bounds [] r h = absurd h
vec_bounds (s ∷ R) r h = elim h [
  | inl e ↦ let here : s.number ≤ vec (s ∷ R) s.origin =
      rw (eq-eqb s.origin s.origin refl) (omega arith) in
      subst (λ (x : Record). x.number ≤ vec (s ∷ R) x.origin) e here
  | inr k ↦ let more = vec_bounds R r k in omega arith
]

pub vec_attained : (R : Content) (origin : ℕ) → (vec R origin ≡ 0) ⊎ HasName R origin (vec R origin)
vec_attained [] origin = inl refl
vec_attained (s ∷ R) origin = go (eqb s.origin origin) refl (vec_attained R origin)
  where
    go : (b : Bool) → eqb s.origin origin ≡ b → (vec R origin ≡ 0) ⊎ HasName R origin (vec R origin)
        → (max (cond b s.number 0) (vec R origin) ≡ 0)
        ⊎ HasName (s ∷ R) origin (max (cond b s.number 0) (vec R origin))
    go false e (inl z) = inl (omega arith)
    go false e (inr h) = inr (h.0, inr h.1, (h.2.0, omega (arith, h.2.1)))
    go true e (inl z) = inr (s, inl refl, (eqb-true _ _ e, omega arith))
    go true e (inr h) = elim (cases_lt s.number (vec R origin)) [
      | inl lt ↦ inr (h.0, inr h.1, (h.2.0, omega (arith, h.2.1)))
      | inr ge ↦ inr (s, inl refl, (eqb-true _ _ e, omega arith))
    ]

pub vec_least : (R : Content) (origin n : ℕ) → ((r : Record) → Has R r → r.origin ≡ origin
    → r.number ≤ n) → vec R origin ≤ n
vec_least R origin n f = elim (vec_attained R origin) [
  | inl e ↦ omega arith
  | inr h ↦ let bound = f h.0 h.1 h.2.0 in omega (arith, h.2.1)
]

pub vec_is : (R : Content) (origin n : ℕ) → ((r : Record) → Has R r → r.origin ≡ origin
    → r.number ≤ n) → (n ≡ 0) ⊎ HasName R origin n → vec R origin ≡ n
vec_is R origin n above (inl e) = let h = vec_least R origin n above in omega arith
vec_is R origin n above (inr h) =
    let up = vec_least R origin n above in
    let down : h.0.number ≤ vec R origin =
    subst (λ o. h.0.number ≤ vec R o) h.2.0 (vec_bounds R h.0 h.1) in
    omega (arith, h.2.1)

-- lists
module _ {X : Type 0} where
  pub pairwise_weaker : (P Q : X → X → Type 0) → ((x y : X) → P x y → Q x y) → (xs : List X)
      → IsPairwise P xs → IsPairwise Q xs
  pairwise_weaker P Q f [] h = tt
  pairwise_weaker P Q f (x ∷ xs) h =
      (all_weaker (P x) (Q x) (f x) xs h.0, pairwise_weaker P Q f xs h.1)

  pub has-append : (xs ys : List X) (z : X) → Has xs z ⊎ Has ys z → Has (xs ++ ys) z
  has-append [] ys z (inl h) = absurd h
  has-append [] ys z (inr h) = h
  has-append (x ∷ xs) ys z (inl h) = elim h [
    | inl e ↦ inl e
    | inr k ↦
        inr (has-append xs ys z (inl k))
  ]
  has-append (x ∷ xs) ys z (inr h) = inr (has-append xs ys z (inr h))

  pub has_from_append : (xs ys : List X) (z : X) → Has (xs ++ ys) z → Has xs z ⊎ Has ys z
  has_from_append [] ys z h = inr h
  has_from_append (x ∷ xs) ys z h = elim h [
    | inl e ↦ inl (inl e)
    | inr k ↦ elim (has_from_append xs ys z k) [ inl m ↦ inl (inr m) | inr m ↦ inr m ]
  ]

  pub pairwise-append : (R : X → X → Type 0) (xs ys : List X) → IsPairwise R xs → IsPairwise R ys
      → ((x y : X) → Has xs x → Has ys y → R x y) → IsPairwise R (xs ++ ys)
  pairwise-append R [] ys h k f = k
  pairwise-append R (x ∷ xs) ys h k f = (
    all_from_has (R x) (xs ++ ys) (λ z m.
        elim (has_from_append xs ys z m) [
          | inl a ↦ all-has (R x) xs z h.0 a
          | inr b ↦
              f x z (inl refl) b
        ]),
    pairwise-append R xs ys h.1 k (λ a b p q. f a b (inr p) q),
  )

less_apart : (o : Ordering) → o ≡ Less → is_eq o ≡ false
less_apart o e = ap is_eq e

pub apart_from_rises : (R : Content) → Rises name_cmp R → IsApart name_cmp R
apart_from_rises R up = pairwise_weaker _ _ (λ x y e. less_apart (name_cmp x y) e) R up

-- the union
pub named_by : (R : Content) (s : Record) → names R s ≡ true
    → (r : Record) × Has R r × (r.origin ≡ s.origin) × (r.number ≡ s.number)
named_by [] s e = absurd (true≢false (sym e))
named_by (r ∷ R) s e = go (is_eq (name_cmp r s)) refl (named_by R s) e
  where
    go : (b : Bool) → is_eq (name_cmp r s) ≡ b → (names R s ≡ true
        → (q : Record) × Has R q × (q.origin ≡ s.origin) × (q.number ≡ s.number))
        → (b || names R s) ≡ true → (q : Record) × Has (r ∷ R) q × (q.origin ≡ s.origin)
        × (q.number ≡ s.number)
    go true same more h = let n = tied_names r s same in (r, inl refl, n.0, n.1)
    go false same more h = let q = more h in (q.0, inr q.1, q.2, q.3)

pub not_named : (R : Content) (s r : Record) → names R s ≡ false → Has R r
    → is_eq (name_cmp r s) ≡ false
not_named [] s r e h = absurd h
not_named (q ∷ R) s r e h =
    let parts = or_parts (is_eq (name_cmp q s)) (names R s) e in
    elim h [
      | inl same ↦ subst (λ (x : Record). is_eq (name_cmp x s) ≡ false) same parts.0
      | inr k ↦
          not_named R s r parts.1 k
    ]

pub rises-join : (R S : Content) → Rises name_cmp R → Rises name_cmp S → Rises name_cmp (join R S)
rises-join R S up up' =
    rises-sort_by name_cmp name_total _
    (pairwise-append _ R _ (apart_from_rises R up)
    (pairwise-filter _ (λ s. not (names R s)) S (apart_from_rises S up'))
    (λ r s h k. let kept = has_from_filter (λ z. not (names R z)) S s k in
    not_named R s r (not-true _ kept.1) h))

pub has_from_join : (R S : Content) (z : Record) → Has (join R S) z → Has R z ⊎ Has S z
has_from_join R S z h = elim (has_from_append R _ z (has_from_sort_by name_cmp name_total _ z h)) [
  | inl k ↦ inl k
  | inr k ↦ inr (has_from_filter (λ s. not (names R s)) S z k).0
]

pub has-join_left : (R S : Content) (z : Record) → Has R z → Has (join R S) z
has-join_left R S z h = has-sort_by name_cmp name_total _ z (has-append R _ z (inl h))

pub has-join_right : (R S : Content) → AreCompatible R S → (z : Record) → Has S z → Has (join R S) z
has-join_right R S same z h = elim (cases_Bool (names R z)) [
  | inl e ↦ let r = named_by R z e in
      has-join_left R S z (subst (Has R) (same r.0 z r.1 h r.2 r.3) r.1)
  | inr e ↦ has-sort_by name_cmp name_total _ z (has-append R _ z
      (inr (has-filter (λ s. not (names R s)) S z h (ap not e))))
]

pub join_comm : (R S : Content) → Rises name_cmp R → Rises name_cmp S → AreCompatible R S
    → join R S ≡ join S R
join_comm R S up up' same =
    let back : AreCompatible S R = λ s r h k p q. sym (same r s k h (sym p) (sym q)) in
    same_members name_cmp name_total _ _ (rises-join R S up up') (rises-join S R up' up)
    (λ z h. elim (has_from_join R S z h) [
      | inl k ↦ has-join_right S R back z k
      | inr k ↦
          has-join_left S R z k
    ])
    (λ z h. elim (has_from_join S R z h) [
      | inl k ↦ has-join_right R S same z k
      | inr k ↦
          has-join_left R S z k
    ])

pub compatible_join : (R S T : Content) → AreCompatible R T → AreCompatible S T
    → AreCompatible (join R S) T
compatible_join R S T a b r t h k p q =
    elim (has_from_join R S r h) [ inl m ↦ a r t m k p q | inr m ↦ b r t m k p q ]

pub compatible_back : (R S : Content) → AreCompatible R S → AreCompatible S R
compatible_back R S same s r h k p q = sym (same r s k h (sym p) (sym q))

pub join_assoc : (R S T : Content) → Rises name_cmp R → Rises name_cmp S → Rises name_cmp T
    → AreCompatible R S → AreCompatible R T → AreCompatible S T
    → join (join R S) T ≡ join R (join S T)
join_assoc R S T ur us ut rs rt st =
    let rs-t = compatible_join R S T rt st in
    let r-st = compatible_back _ _ (compatible_join S T R (compatible_back _ _ rs)
    (compatible_back _ _ rt)) in
    same_members name_cmp name_total _ _ (rises-join _ T (rises-join R S ur us) ut)
    (rises-join R _ ur (rises-join S T us ut))
    (λ z h. elim (has_from_join (join R S) T z h) [
      | inl k ↦ elim (has_from_join R S z k) [
        | inl m ↦ has-join_left R (join S T) z m
        | inr m ↦
            has-join_right R (join S T) r-st z (has-join_left S T z m)
      ]
      | inr k ↦ has-join_right R (join S T) r-st z (has-join_right S T st z k)
    ])
    (λ z h. elim (has_from_join R (join S T) z h) [
      | inl k ↦ has-join_left (join R S) T z (has-join_left R S z k)
      | inr k ↦ elim (has_from_join S T z k) [
        | inl m ↦
            has-join_left (join R S) T z (has-join_right R S rs z m)
        | inr m ↦
            has-join_right (join R S) T rs-t z m
      ]
    ])

-- a record of a closed content is where its name is
pub named_once : (R : Content) → Rises name_cmp R → AreCompatible R R
named_once [] up r s h k p q = absurd h
named_once (x ∷ R) up r s h k p q = elim h [
  | inl e ↦ elim k [
    | inl e' ↦ sym e ∙ e'
    | inr m ↦ absurd (true≢false (sym (same_named r s p q)
        ∙ ap is_eq (subst (λ (z : Record). name_cmp z s ≡ Less) e
        (all-has (λ z. name_cmp x z ≡ Less) R s up.0 m))))
  ]
  | inr m ↦ elim k [
    | inl e ↦ absurd (true≢false (sym (same_named s r (sym p) (sym q))
        ∙ ap is_eq (subst (λ (z : Record). name_cmp z r ≡ Less) e
        (all-has (λ z. name_cmp x z ≡ Less) R r up.0 m))))
    | inr n ↦ named_once R up.1 r s m n p q
  ]
]

pub join_idem : (R : Content) → Rises name_cmp R → join R R ≡ R
join_idem R up = same_members name_cmp name_total _ _ (rises-join R R up up) up
    (λ z h. elim (has_from_join R R z h) [ inl k ↦ k | inr k ↦ k ])
    (λ z h. has-join_left R R z h)

pub join_least : (R S T : Content) → IsWithin R T → IsWithin S T → IsWithin (join R S) T
join_least R S T a b z h = elim (has_from_join R S z h) [ inl k ↦ a z k | inr k ↦ b z k ]

-- what another content has at a number that this one reaches, this one has
pub reached : (R S : Content) → IsClosed R → IsClosed S → AreCompatible R S → (s : Record) → Has S s
    → s.number ≤ vec R s.origin → Has R s
reached R S closed closed' same s h le =
    let r = closed.whole s.origin s.number (closed'.numbers s h) le in
    subst (Has R) (same r.0 s r.1 h r.2.0 r.2.1) r.1

pub vec_join : (R S : Content) → AreCompatible R S → (origin : ℕ)
    → vec (join R S) origin ≡ max (vec R origin) (vec S origin)
vec_join R S same origin =
    vec_is (join R S) origin _
    (λ r h e. elim (has_from_join R S r h) [
      | inl k ↦ let le : r.number ≤ vec R origin =
          subst (λ o. r.number ≤ vec R o) e (vec_bounds R r k) in omega arith
      | inr k ↦ let le : r.number ≤ vec S origin =
          subst (λ o. r.number ≤ vec S o) e (vec_bounds S r k) in omega arith
    ])
    (elim (cases_lt (vec R origin) (vec S origin)) [
      | inl lt ↦ elim (vec_attained S origin) [
        | inl z ↦ inl (omega arith)
        | inr h ↦ inr (h.0, has-join_right R S same h.0 h.1, (h.2.0, omega (arith, h.2.1)))
      ]
      | inr ge ↦ elim (vec_attained R origin) [
        | inl z ↦ inl (omega arith)
        | inr h ↦ inr (h.0, has-join_left R S h.0 h.1, (h.2.0, omega (arith, h.2.1)))
      ]
    ])

crossing : (R S : Content) → IsClosed R → IsClosed S → AreCompatible R S → (r s : Record) → Has R r
    → Has S s → r.origin ≡ s.origin → r.number < s.number → r.tick <ℤ s.tick
crossing R S closed closed' same r s h k e lt =
    let le : s.number ≤ vec S r.origin =
    subst (λ o. s.number ≤ vec S o) (sym e) (vec_bounds S s k) in
    closed'.rising r s (reached S R closed' closed (compatible_back _ _ same) r h (omega arith)) k e
    lt

pub closed_join : (R S : Content) → IsClosed R → IsClosed S → AreCompatible R S
    → IsClosed (join R S)
closed_join R S closed closed' same = record {
  ordered = rises-join R S closed.ordered closed'.ordered;
  numbers = λ r h. elim (has_from_join R S r h) [
    | inl k ↦ closed.numbers r k
    | inr k ↦
        closed'.numbers r k
  ];
  whole = λ o n one le. elim (cases_lt (vec R o) n) [
    | inl above ↦ let r = closed'.whole o n one (omega (arith, vec_join R S same o)) in
        (r.0, has-join_right R S same r.0 r.1, r.2)
    | inr below ↦ let r = closed.whole o n one below in (r.0, has-join_left R S r.0 r.1, r.2)
  ];
  ticks = λ r h. elim (has_from_join R S r h) [
    | inl k ↦ closed.ticks r k
    | inr k ↦
        closed'.ticks r k
  ];
  rising = λ r s h k e lt. elim (has_from_join R S r h) [
    | inl a ↦ elim (has_from_join R S s k) [
      | inl b ↦ closed.rising r s a b e lt
      | inr b ↦
          crossing R S closed closed' same r s a b e lt
    ]
    | inr a ↦ elim (has_from_join R S s k) [
      | inl b ↦
          crossing S R closed' closed (compatible_back _ _ same) r s a b e lt
      | inr b ↦
          closed'.rising r s a b e lt
    ]
  ];
}

-- equal vectors, equal contents
pub same_content : (R S : Content) → IsClosed R → IsClosed S → AreCompatible R S
    → ((o : ℕ) → vec R o ≡ vec S o) → R ≡ S
same_content R S closed closed' same e =
    same_members name_cmp name_total R S closed.ordered closed'.ordered
    (λ z h. reached S R closed' closed (compatible_back _ _ same) z h
    (omega (arith, vec_bounds R z h, e z.origin)))
    (λ z h. reached R S closed closed' same z h (omega (arith, vec_bounds S z h, e z.origin)))

pub closed_comm : (R S : Content) → IsClosed R → IsClosed S → AreCompatible R S
    → join R S ≡ join S R
closed_comm R S p q same = join_comm R S p.ordered q.ordered same

pub closed_assoc : (R S T : Content) → IsClosed R → IsClosed S → IsClosed T → AreCompatible R S
    → AreCompatible R T → AreCompatible S T → join (join R S) T ≡ join R (join S T)
closed_assoc R S T p q r a b d = join_assoc R S T p.ordered q.ordered r.ordered a b d

pub closed_idem : (R : Content) → IsClosed R → join R R ≡ R
closed_idem R p = join_idem R p.ordered

pub above_left : (R S : Content) → AreCompatible R S → IsWithin R (join R S)
above_left R S same = has-join_left R S

pub join_has : (R S : Content) (r : Record) → AreCompatible R S
    → Has (join R S) r ↔ (Has R r ⊎ Has S r)
join_has R S r same = (
  has_from_join R S r,
  λ h. elim h [ inl k ↦ has-join_left R S r k | inr k ↦ has-join_right R S same r k ],
)

pub ruleset joins = (
  join_has,
  closed_comm,
  closed_assoc,
  closed_idem,
  closed_join,
  above_left,
  has-join_right,
  join_least,
  vec_join,
)
