-- Filters, in either direction.
use Rattle.std.proofs.Common.{◌≡◌, ℕ, ◌+◌, nat_lt, Bool, true, false, cond, ◌&&◌, List, [], ◌∷◌, ◌++◌, filter, take, length, reverse, refl, sym, ap, ◌∙◌, arith, inl, inr}
use Rattle.std.proofs.lemmas.Bool.Decides.{nat_tests}
use Rattle.std.proofs.lemmas.List.{reverse-append, length-take, append-nil}
use Rattle.std.proofs.lemmas.List.Elements.{filter-append}
use Rattle.records.specs.Lists.{Has}
use Rattle.archive.specs.Reading.{in_direction}
use Rattle.archive.specs.declared.reading.Direction.{Direction}
use Rattle.archive.specs.declared.reading.Direction.TheVariants.{Forward, Backward}

module _ {X : Type 0} where
  pub filter_all : (xs : List X) → filter (λ x. true) xs ≡ xs
  filter_all [] = refl
  filter_all (x ∷ xs) = ap (λ l. x ∷ l) (filter_all xs)

  pub filter_both : (p q : X → Bool) (xs : List X)
      → filter p (filter q xs) ≡ filter (λ x. q x && p x) xs
  filter_both p q [] = refl
  filter_both p q (x ∷ xs) =
      let rest = filter_both p q xs in
      elim (q x) as (λ b. filter p (cond b (x ∷ filter q xs) (filter q xs))
      ≡ cond (b && p x) (x ∷ filter (λ y. q y && p y) xs) (filter (λ y. q y && p y) xs)) [
        | true ↦ elim (p x) as (λ c. cond c (x ∷ filter p (filter q xs)) (filter p (filter q xs))
            ≡ cond c (x ∷ filter (λ y. q y && p y) xs) (filter (λ y. q y && p y) xs))
            [ true ↦ ap (λ l. x ∷ l) rest | false ↦ rest ]
        | false ↦ rest
      ]

  pub filter_same : (p q : X → Bool) (xs : List X) → ((x : X) → Has xs x → p x ≡ q x)
      → filter p xs ≡ filter q xs
  filter_same p q [] same = refl
  filter_same p q (x ∷ xs) same =
      let rest = filter_same p q xs (λ y h. same y (inr h)) in
      ap (λ b. cond b (x ∷ filter p xs) (filter p xs)) (same x (inl refl))
      ∙ ap (λ l. cond (q x) (x ∷ l) l) rest

  pub filter_reverse : (p : X → Bool) (xs : List X) → filter p (reverse xs) ≡ reverse (filter p xs)
  filter_reverse p [] = refl
  filter_reverse p (x ∷ xs) =
      ap (filter p) (reverse-append (x ∷ []) xs)
      ∙ (filter-append p (reverse xs) (x ∷ [])
      ∙ (ap (λ l. l ++ filter p (x ∷ [])) (filter_reverse p xs)
      ∙ elim (p x) as (λ b. reverse (filter p xs) ++ cond b (x ∷ []) []
      ≡ reverse (cond b (x ∷ filter p xs) (filter p xs)))
      [ true ↦ sym (reverse-append (x ∷ []) (filter p xs)) | false ↦ append-nil _ ]))

  pub filter_turned : (d : Direction) (p : X → Bool) (xs : List X)
      → filter p (in_direction d xs) ≡ in_direction d (filter p xs)
  filter_turned Forward p xs = refl
  filter_turned Backward p xs = filter_reverse p xs

  -- one more than a page tells whether the list goes on
  pub longer : (n : ℕ) (xs : List X) → nat_lt n (length (take (n + 1) xs)) ≡ nat_lt n (length xs)
  longer n xs = rw length-take (grind (arith, nat_tests))
