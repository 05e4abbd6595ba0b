-- A list in pages: what is shown of it, page by page.
use Rattle.std.proofs.Common.{◌≡◌, ℕ, zero, suc, ◌+◌, ◌-◌, ◌<◌, ◌≤◌, ◌==◌, min, nat_lt, nat_le, Bool, true, false, cond, ◌&&◌, not, List, [], ◌∷◌, ◌++◌, take, length, slice_get, Option, Some, None, option_map, refl, sym, ap, ◌∙◌, subst, arith, ◌⊎◌, inl, inr}
use Rattle.std.proofs.Math.Seq.{take-append-add}
use Rattle.std.proofs.lemmas.Bool.Decides.{nat_tests}
use Rattle.std.proofs.lemmas.Bool.{and_parts, cases_Bool, true≢false}
use Rattle.std.proofs.lemmas.List.{take_all, length-take, length-append}
use Rattle.std.proofs.lemmas.Option.{none-some}
use Rattle.records.specs.Lists.{last}
use Rattle.ua_services.specs.declared.history.ReadRawModifiedDetails.{ReadRawModifiedDetails as Details}
use Rattle.hist_read.specs.declared.point.Position.{Position}
use Rattle.hist_read.specs.Asking.{has_both}
use Rattle.hist_read.specs.Reads.{given_before, page_size, is_spent, page, given_after, next_place}
use Rattle.hist_read.proofs.ReadsParts.{goes_on}

last_none : {X : Type 0} (xs : List X) → last xs ≡ None → xs ≡ []
last_none [] e = refl
last_none (x ∷ []) e = absurd (none-some _ (sym e))
last_none (x ∷ y ∷ ys) e = absurd (some ys (y ∷ ys) x (length ys) refl e)
  where
    got : {X : Type 0} (xs : List X) (k : ℕ) → k < length xs → slice_get xs k ≡ None → ⊥
    got [] k l e = omega (arith, l)
    got (x ∷ xs) zero l e = none-some _ (sym e)
    got (x ∷ xs) (suc k) l e = got xs k (omega (arith, l)) e

    some : {X : Type 0} (ys zs : List X) (x : X) (k : ℕ) → k ≡ length ys → last (x ∷ zs) ≡ None → ⊥
    some ys zs x k i e = got (x ∷ zs) (length (x ∷ zs) - 1) (omega arith) e

module _ {X : Type 0} (q : Details) (S : Option Position → List X)
    (place : Option Position → X → Position)
    (given : (p : Option Position) (x : X) → (place p x).given ≡ given_after q p)
    (join : (p : Option Position) (next : Position) → next_place (place p) q p (S p) ≡ Some next
    → S p ≡ page q p (S p) ++ S (Some next))
    (enough : has_both q ≡ false → 0 < q.num_values_per_node) where
  -- what is still to be shown of a list: where a time is open, no more than the count less what was
  -- given
  abbrev pub remaining : Option Position → List X → List X
  remaining p xs = cond (has_both q) xs (take (q.num_values_per_node - given_before p) xs)

  size_open : (p : Option Position) → has_both q ≡ false
      → page_size q p ≡ min 1000 (q.num_values_per_node - given_before p)
  size_open p e =
      let some = enough e in
      let counts : (q.num_values_per_node == 0) ≡ false = grind (arith, nat_tests, some) in
      ap (λ b. cond b 1000 (min 1000
      (cond (has_both q) q.num_values_per_node (q.num_values_per_node - given_before p))))
      counts
      ∙ ap (λ b. min 1000 (cond b q.num_values_per_node (q.num_values_per_node - given_before p))) e

  size_both : (p : Option Position) → has_both q ≡ true → 0 < page_size q p
  size_both p e = subst (λ n. 0 < n) (sym
      (ap (λ b. cond (q.num_values_per_node == 0) 1000
      (min 1000 (cond b q.num_values_per_node (q.num_values_per_node - given_before p)))) e))
      (go (q.num_values_per_node == 0) refl)
    where
      go : (b : Bool) → (q.num_values_per_node == 0) ≡ b
          → 0 < cond b 1000 (min 1000 q.num_values_per_node)
      go true f = omega arith
      go false f = let some : 0 < q.num_values_per_node = grind (arith, nat_tests, f) in
          omega (arith, some)

  spent_is : (p : Option Position) → has_both q ≡ false
      → is_spent q p ≡ nat_le q.num_values_per_node (given_before p + page_size q p)
  spent_is p e = ap (λ b. not b && nat_le q.num_values_per_node (given_before p + page_size q p)) e

  -- a page behind which reading goes on isn't empty
  size_some : (p : Option Position) → is_spent q p ≡ false → 0 < page_size q p
  size_some p s = elim (cases_Bool (has_both q)) [
    | inl e ↦ size_both p e
    | inr e ↦
        let size = size_open p e in
        let more : nat_le q.num_values_per_node (given_before p + page_size q p) ≡ false =
        sym (spent_is p e) ∙ s in
        let counts = enough e in
        go (page_size q p) size more counts
  ]
    where
      go : (n : ℕ) → n ≡ min 1000 (q.num_values_per_node - given_before p)
          → nat_le q.num_values_per_node (given_before p + n) ≡ false → 0 < q.num_values_per_node
          → 0 < n
      go n size more counts = grind (arith, nat_tests, size, more, counts)

  -- ---- where a page ends

  pub record Goes (p : Option Position) (next : Position) : Type 0 where
    pub longer : page_size q p < length (S p)
    pub unspent : is_spent q p ≡ false
    pub item : X
    pub ends : last (page q p (S p)) ≡ Some item
    pub is : place p item ≡ next

  pub goes_by : (p : Option Position) (next : Position) → next_place (place p) q p (S p) ≡ Some next
      → Goes p next
  goes_by p next e = go (goes_on q p (S p)) refl e
    where
      at : goes_on q p (S p) ≡ true → (o : Option X) → last (page q p (S p)) ≡ o
          → option_map (place p) o ≡ Some next → Goes p next
      at on None f e = absurd (none-some _ e)
      at on (Some x) f e =
          let tests = and_parts (nat_lt (page_size q p) (length (S p))) (not (is_spent q p)) on in
          record {
            longer = grind (arith, nat_tests, tests.0);
            unspent =
                unspent (is_spent q p) tests.1;
            item = x;
            ends = f;
            is = same (place p x) next e;
          }
        where
          unspent : (b : Bool) → not b ≡ true → b ≡ false
          unspent true e = absurd (true≢false (sym e))
          unspent false e = refl

          same : (a b : Position) → Some a ≡ Some b → a ≡ b
          same a b e = cc

      go : (b : Bool) → goes_on q p (S p) ≡ b
          → cond b (option_map (place p) (last (page q p (S p)))) None ≡ Some next → Goes p next
      go true on e = at on (last (page q p (S p))) refl e
      go false on e = absurd (none-some _ e)

  ends_by : (p : Option Position) → next_place (place p) q p (S p) ≡ None
      → (length (S p) ≤ page_size q p) ⊎ (is_spent q p ≡ true)
  ends_by p e = go (goes_on q p (S p)) refl e
    where
      tests_not : (a b : Bool) → (a && not b) ≡ false → (a ≡ false) ⊎ (b ≡ true)
      tests_not true true e = inr refl
      tests_not true false e = absurd (true≢false e)
      tests_not false b e = inl refl

      unspent : (b : Bool) → not b ≡ true → b ≡ false
      unspent true e = absurd (true≢false (sym e))
      unspent false e = refl

      at : goes_on q p (S p) ≡ true → (o : Option X) → last (page q p (S p)) ≡ o
          → option_map (place p) o ≡ None → (length (S p) ≤ page_size q p) ⊎ (is_spent q p ≡ true)
      at on (Some x) f e = absurd (none-some _ (sym e))
      at on None f e =
          let tests = and_parts (nat_lt (page_size q p) (length (S p))) (not (is_spent q p)) on in
          let some = size_some p (unspent (is_spent q p) tests.1) in
          let none : length (page q p (S p)) ≡ 0 = ap length (last_none (page q p (S p)) f) in
          let size = length-take (page_size q p) (S p) in
          inl (omega (arith, some, none, size))

      go : (b : Bool) → goes_on q p (S p) ≡ b
          → cond b (option_map (place p) (last (page q p (S p)))) None ≡ None
          → (length (S p) ≤ page_size q p) ⊎ (is_spent q p ≡ true)
      go true on e = at on (last (page q p (S p))) refl e
      go false on e = elim (tests_not (nat_lt (page_size q p) (length (S p))) (is_spent q p) on) [
        | inl f ↦ inl (grind (arith, nat_tests, f))
        | inr f ↦ inr f
      ]

  -- ---- what is shown

  -- the last page shows what remains
  pub shown_last : (p : Option Position) → next_place (place p) q p (S p) ≡ None
      → page q p (S p) ≡ remaining p (S p)
  shown_last p e = elim (ends_by p e) [
    | inl short ↦ take_all (page_size q p) (S p) short ∙ sym (elim (cases_Bool (has_both q)) [
      | inl both ↦ ap (λ b. cond b (S p) (take (q.num_values_per_node - given_before p) (S p))) both
      | inr single ↦
          let size = size_open p single in
          ap (λ b. cond b (S p) (take (q.num_values_per_node - given_before p) (S p))) single
          ∙ take_all (q.num_values_per_node - given_before p) (S p) (omega (arith, size, short))
    ])
    | inr spent ↦ elim (cases_Bool (has_both q)) [
      | inl both ↦ absurd (true≢false
          (sym spent ∙ ap (λ b. not b
          && nat_le q.num_values_per_node (given_before p + page_size q p)) both))
      | inr single ↦
          let size = size_open p single in
          let all : nat_le q.num_values_per_node (given_before p + page_size q p) ≡ true =
          sym (spent_is p single) ∙ spent in
          let same : page_size q p ≡ q.num_values_per_node - given_before p =
          exact (page_size q p) size all in
          ap (λ n. take n (S p)) same
          ∙ sym (ap (λ b. cond b (S p) (take (q.num_values_per_node - given_before p) (S p)))
          single)
    ]
  ]
    where
      exact : (n : ℕ) → n ≡ min 1000 (q.num_values_per_node - given_before p)
          → nat_le q.num_values_per_node (given_before p + n) ≡ true
          → n ≡ q.num_values_per_node - given_before p
      exact n size all = let le : q.num_values_per_node ≤ given_before p + n =
          grind (arith, nat_tests, all) in omega (arith, size, le)

  given_next : (p : Option Position) (next : Position) → Goes p next → has_both q ≡ false
      → next.given ≡ given_before p + page_size q p
  given_next p next g e = ap (λ x. x.given) (sym g.is)
      ∙ (given p g.item ∙ ap (λ b. cond b 0 (given_before p + page_size q p)) e)

  page_full : (p : Option Position) (next : Position) → Goes p next
      → length (page q p (S p)) ≡ page_size q p
  page_full p next g = let longer = g.longer in
      length-take (page_size q p) (S p) ∙ omega (arith, longer)

  -- another page shows the first of what remains, and what remains behind it is the rest
  pub shown_more : (p : Option Position) (next : Position)
      → next_place (place p) q p (S p) ≡ Some next
      → remaining p (S p) ≡ page q p (S p) ++ remaining (Some next) (S (Some next))
  shown_more p next e = elim (cases_Bool (has_both q)) [
    | inl both ↦
        ap (λ b. cond b (S p) (take (q.num_values_per_node - given_before p) (S p))) both
        ∙ (join p next e ∙ ap (λ l. page q p (S p) ++ l)
        (sym (ap (λ b. cond b (S (Some next)) (take (q.num_values_per_node - next.given)
        (S (Some next)))) both)))
    | inr single ↦
        let g = goes_by p next e in
        let size = size_open p single in
        let full = page_full p next g in
        let told = given_next p next g single in
        let count : q.num_values_per_node - given_before p
        ≡ length (page q p (S p)) + (q.num_values_per_node - next.given) =
        omega (arith, size, full, told) in
        ap (λ b. cond b (S p) (take (q.num_values_per_node - given_before p) (S p))) single
        ∙ (ap (take (q.num_values_per_node - given_before p)) (join p next e)
        ∙ (ap (λ n. take n (page q p (S p) ++ S (Some next))) count
        ∙ (take-append-add (page q p (S p)) (S (Some next)) (q.num_values_per_node - next.given)
        ∙ ap (λ l. page q p (S p) ++ l) (sym
        (ap (λ b. cond b (S (Some next)) (take (q.num_values_per_node - next.given)
        (S (Some next)))) single)))))
  ]

  -- less is left behind another page
  pub shrinks : (p : Option Position) (next : Position) → next_place (place p) q p (S p) ≡ Some next
      → length (S (Some next)) < length (S p)
  shrinks p next e =
      let g = goes_by p next e in
      let some = size_some p g.unspent in
      let full = page_full p next g in
      let both = ap length (join p next e) ∙ length-append (page q p (S p)) (S (Some next)) in
      omega (arith, some, full, both)
