-- What stands in a list that is made of another, and how.
use Rattle.std.proofs.Common.{◌≡◌, List, [], ◌∷◌, map, reverse, Option, Some, None, refl, sym, ap, ◌∙◌, subst, inl, inr}
use Rattle.std.specs.Prelude.{◌↔◌}
use Rattle.std.specs.List.{filter_map, cons_option, flat_map}
use Rattle.std.proofs.lemmas.List.{reverse-append}
use Rattle.std.proofs.lemmas.List.Sorted.{IsPermutation-sym, IsPermutation-reverse}
use Rattle.records.specs.Lists.{Has, IsPairwise}
use Rattle.records.proofs.ContentLemmas.{has-append, has_from_append, pairwise-append}
use Rattle.records.proofs.Sorting.{all-has, all_from_has, has-permutation}
use Rattle.archive.specs.Reading.{in_direction}
use Rattle.archive.specs.declared.reading.Direction.{Direction}
use Rattle.archive.specs.declared.reading.Direction.TheVariants.{Forward, Backward}

module _ {X Y : Type 0} where
  pub has-map : (f : X → Y) (xs : List X) (x : X) → Has xs x → Has (map f xs) (f x)
  has-map f [] x h = absurd h
  has-map f (y ∷ ys) x h = elim h [ inl e ↦ inl (ap f e) | inr k ↦ inr (has-map f ys x k) ]

  pub has_from_map : (f : X → Y) (xs : List X) (y : Y) → Has (map f xs) y
      → (x : X) × Has xs x × (f x ≡ y)
  has_from_map f [] y h = absurd h
  has_from_map f (x ∷ xs) y h = elim h [
    | inl e ↦ (x, inl refl, e)
    | inr k ↦ let r =
        has_from_map f xs y k in (r.0, inr r.1, r.2)
  ]

  pub has-filter_map : (f : X → Option Y) (xs : List X) (x : X) (y : Y) → Has xs x → f x ≡ Some y
      → Has (filter_map f xs) y
  has-filter_map f [] x y h e = absurd h
  has-filter_map f (z ∷ xs) x y h e = elim h [
    | inl same ↦ subst (λ o. Has (cons_option o (filter_map f xs)) y) (sym (ap f same ∙ e))
        (inl refl)
    | inr k ↦ go (f z) (has-filter_map f xs x y k e)
  ]
    where
      go : (o : Option Y) → Has (filter_map f xs) y → Has (cons_option o (filter_map f xs)) y
      go None m = m
      go (Some a) m = inr m

  pub has_from_filter_map : (f : X → Option Y) (xs : List X) (y : Y) → Has (filter_map f xs) y
      → (x : X) × Has xs x × (f x ≡ Some y)
  has_from_filter_map f [] y h = absurd h
  has_from_filter_map f (x ∷ xs) y h = go (f x) refl (has_from_filter_map f xs y) h
    where
      go : (o : Option Y) → f x ≡ o → (Has (filter_map f xs) y
          → (z : X) × Has xs z × (f z ≡ Some y)) → Has (cons_option o (filter_map f xs)) y
          → (z : X) × Has (x ∷ xs) z × (f z ≡ Some y)
      go None e more k = let r = more k in (r.0, inr r.1, r.2)
      go (Some a) e more k = elim k [
        | inl same ↦ (x, inl refl, e ∙ ap (λ b. Some b) same)
        | inr m ↦
            let r = more m in (r.0, inr r.1, r.2)
      ]

  pub has-flat_map : (f : X → List Y) (xs : List X) (x : X) (y : Y) → Has xs x → Has (f x) y
      → Has (flat_map f xs) y
  has-flat_map f [] x y h k = absurd h
  has-flat_map f (z ∷ xs) x y h k =
      has-append (f z) (flat_map f xs) y
      (elim h [
        | inl e ↦ inl (subst (λ w. Has (f w) y) (sym e) k)
        | inr m ↦
            inr (has-flat_map f xs x y m k)
      ])

  pub has_from_flat_map : (f : X → List Y) (xs : List X) (y : Y) → Has (flat_map f xs) y
      → (x : X) × Has xs x × Has (f x) y
  has_from_flat_map f [] y h = absurd h
  has_from_flat_map f (x ∷ xs) y h = elim (has_from_append (f x) (flat_map f xs) y h) [
    | inl k ↦ (x, inl refl, k)
    | inr k ↦ let r = has_from_flat_map f xs y k in (r.0, inr r.1, r.2)
  ]

  module _ (P : X → X → Type 0) (Q : Y → Y → Type 0) where
    pub pairwise-map : (f : X → Y) → ((a b : X) → P a b → Q (f a) (f b)) → (xs : List X)
        → IsPairwise P xs → IsPairwise Q (map f xs)
    pairwise-map f go [] h = tt
    pairwise-map f go (x ∷ xs) h = (
      all_from_has (Q (f x)) (map f xs) (λ y m. let r = has_from_map f xs y m in
          subst (Q (f x)) r.2 (go x r.0 (all-has (P x) xs r.0 h.0 r.1))),
      pairwise-map f go xs h.1,
    )

    pub pairwise-filter_map : (f : X → Option Y)
        → ((a b : X) (x y : Y) → P a b → f a ≡ Some x → f b ≡ Some y → Q x y) → (xs : List X)
        → IsPairwise P xs → IsPairwise Q (filter_map f xs)
    pairwise-filter_map f step [] up = tt
    pairwise-filter_map f step (a ∷ xs) up = go (f a) refl (pairwise-filter_map f step xs up.1)
      where
        go : (o : Option Y) → f a ≡ o → IsPairwise Q (filter_map f xs)
            → IsPairwise Q (cons_option o (filter_map f xs))
        go None e more = more
        go (Some x) e more = (
          all_from_has (Q x) _
              (λ y h. let b = has_from_filter_map f xs y h in
              step a b.0 x y (all-has (P a) xs b.0 up.0 b.1) e b.2),
          more,
        )

    pub pairwise-flat_map : (f : X → List Y) → ((a b : X) (x y : Y) → P a b → Has (f a) x
        → Has (f b) y → Q x y) → ((a : X) → IsPairwise Q (f a)) → (xs : List X) → IsPairwise P xs
        → IsPairwise Q (flat_map f xs)
    pairwise-flat_map f across within [] up = tt
    pairwise-flat_map f across within (a ∷ xs) up =
        pairwise-append Q (f a) (flat_map f xs) (within a)
        (pairwise-flat_map f across within xs up.1)
        (λ x y h k. let b = has_from_flat_map f xs y k in
        across a b.0 x y (all-has (P a) xs b.0 up.0 b.1) h b.2)

module _ {X : Type 0} where
  pub has-reverse : (xs : List X) (x : X) → Has xs x → Has (reverse xs) x
  has-reverse xs x h = has-permutation xs (reverse xs) x (IsPermutation-reverse xs) h

  pub has_from_reverse : (xs : List X) (x : X) → Has (reverse xs) x → Has xs x
  has_from_reverse xs x h = has-permutation (reverse xs) xs x
      (IsPermutation-sym _ _ (IsPermutation-reverse xs)) h

  pub pairwise-reverse : (Q : X → X → Type 0) (xs : List X) → IsPairwise Q xs
      → IsPairwise (λ a b. Q b a) (reverse xs)
  pairwise-reverse Q [] up = tt
  pairwise-reverse Q (x ∷ xs) up =
      subst (λ (l : List X). IsPairwise (λ a b. Q b a) l) (sym (reverse-append (x ∷ []) xs))
      (pairwise-append (λ a b. Q b a) (reverse xs) (x ∷ []) (pairwise-reverse Q xs up.1) (tt, tt)
      (λ a b h k. elim k [
        | inl e ↦ subst (λ z. Q z a) e (all-has (Q x) xs a up.0 (has_from_reverse xs a h))
        | inr n ↦ absurd n
      ]))

  pub has-in_direction : (d : Direction) (xs : List X) (x : X)
      → Has (in_direction d xs) x ↔ Has xs x
  has-in_direction Forward xs x = (λ h. h, λ h. h)
  has-in_direction Backward xs x = (has_from_reverse xs x, has-reverse xs x)
