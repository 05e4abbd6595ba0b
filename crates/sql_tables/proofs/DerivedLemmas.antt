-- What one more row of records2 changes in the rows that follow from those, and which rows are
-- those that follow.
use Rattle.std.proofs.Common.{Some, pos, ℤ, ◌≡◌, ◌⊎◌, inl, inr, ℕ, arith, not, ◌&&◌, ◌||◌, Bool, true, false, cond, List, [], ◌∷◌, ◌++◌, length, map, filter, refl, sym, ap, ap₂, subst, ◌∙◌, IsPermutation, is_eq, Ordering, Less, Equal, Greater}
use Rattle.std.specs.List.{list_any, AllByRecursion}
use Rattle.std.specs.Ordering.{ordering_reverse}
use Rattle.std.proofs.lemmas.List.{map-append}
use Rattle.std.proofs.lemmas.List.Sorted.{IsPermutation-refl, IsPermutation-sym, IsPermutation-trans, IsPermutation-cons, IsPermutation-middle, IsPermutation-map, IsPermutation-append, length_permutation, list_any-IsPermutation}
use Rattle.sqlite_rules.specs.Lists.{Has}
use Rattle.sqlite_trees.specs.Tree.{IsAscending}
use Rattle.sqlite_keyed.proofs.ListLemmas.{any_from_none, all_weaker, filter_none, filter-map, filter_same, map_same, IsPermutation-filter}
use Rattle.sqlite_value.specs.declared.value.Value.{Value}
use Rattle.sqlite_value.specs.declared.value.Value.TheVariants.{Null, Int, Blob as Bytes}
use Rattle.sqlite_value.specs.Order.{Row, column, value_cmp}
use Rattle.sqlite_value.proofs.OrderLemmas.{value_cmp_total}
use Rattle.std.proofs.lemmas.Cmp.{tied_itself}
use Rattle.sqlite_value.specs.declared.keys.Collation.TheVariants.{Binary}
use Rattle.sqlite_sql.specs.Ops.{binary, is_true, is_null, from_truth}
use Rattle.sqlite_sql.specs.declared.ops.BinaryOp.TheVariants.{Compare, Or}
use Rattle.sqlite_sql.specs.declared.ops.CompareOp.TheVariants.{Ne, Gt, Ge}
use Rattle.sql_tables.specs.Words.{cells_of}
use Rattle.sql_tables.specs.Keeping.{is_vector_of, currents_where, HasNoneOf}
use Rattle.sql_tables.specs.Derived.{current_of, currents_of, last_of, vectors_of, is_later, is_other, is_newer, flag, same, above, is_of, is_current_of, IsNewest}

pub both_filters : {A : Type 0} (p q : A → Bool) (xs : List A)
    → filter p (filter q xs) ≡ filter (λ x. p x && q x) xs
both_filters p q [] = refl
both_filters p q (x ∷ xs) = go (q x) (p x) refl refl (both_filters p q xs)
  where
    go : (b c : Bool) → q x ≡ b → p x ≡ c → filter p (filter q xs) ≡ filter (λ x. p x && q x) xs
        → filter p (cond b (x ∷ filter q xs) (filter q xs))
        ≡ cond (c && b) (x ∷ filter (λ x. p x && q x) xs) (filter (λ x. p x && q x) xs)
    go true true e f more = rw f (ap (λ l. x ∷ l) more)
    go true false e f more = rw f more
    go false true e f more = more
    go false false e f more = more

-- those that pass, apart by another test
pub parted : {A : Type 0} (k p : A → Bool) (xs : List A)
    → IsPermutation (filter (λ x. k x && p x) xs ++ filter (λ x. not (k x) && p x) xs) (filter p xs)
parted k p [] = IsPermutation-refl []
parted {A} k p (x ∷ xs) = go (k x) (p x) (parted k p xs)
  where
    yes : List A
    yes = filter (λ x. k x && p x) xs

    no : List A
    no = filter (λ x. not (k x) && p x) xs

    go : (b c : Bool) → IsPermutation (yes ++ no) (filter p xs)
        → IsPermutation (cond (b && c) (x ∷ yes) yes ++ cond (not b && c) (x ∷ no) no)
        (cond c (x ∷ filter p xs) (filter p xs))
    go true true more = IsPermutation-cons x (yes ++ no) (filter p xs) more
    go true false more = more
    go false true more = IsPermutation-trans (yes ++ x ∷ no) (x ∷ (yes ++ no)) (x ∷ filter p xs)
        (IsPermutation-middle yes x no) (IsPermutation-cons x (yes ++ no) (filter p xs) more)
    go false false more = more

-- rows that follow from rows: made of each row of which no other row is above it
module _ (p : Row → Row → Bool) (f : List Row → Row → Row)
    (stable : (xs ys : List Row) → IsPermutation xs ys → (r : Row) → f xs r ≡ f ys r) where
  abbrev pub tops : (Row → Bool) → List Row → List Row
  tops q xs = filter (λ r. q r && not (list_any (p r) xs)) xs

  abbrev pub made : (Row → Bool) → List Row → List Row
  made q xs = map (f xs) (tops q xs)

  pub made_permuted : (q : Row → Bool) (xs ys : List Row) → IsPermutation xs ys
      → IsPermutation (made q xs) (made q ys)
  made_permuted q xs ys same =
      let keeps : tops q xs ≡ filter (λ r. q r && not (list_any (p r) ys)) xs =
      filter_same (λ r. q r && not (list_any (p r) xs)) (λ r. q r && not (list_any (p r) ys))
      (λ r. ap (λ b. q r && not b) (list_any-IsPermutation (p r) xs ys same)) xs in
      let maps = ap (map (f xs)) keeps
      ∙ map_same (f xs) (f ys) (stable xs ys same)
      (filter (λ r. q r && not (list_any (p r) ys)) xs) in
      subst (λ l. IsPermutation l (made q ys)) (sym maps)
      (IsPermutation-map (f ys) _ _ (IsPermutation-filter
      (λ r. q r && not (list_any (p r) ys)) xs ys same))

  abbrev every : Row → Bool
  every r = true

  module _ (k key : Row → Bool) (tells : (xs : List Row) (r : Row) → key (f xs r) ≡ k r) (n : Row)
      (own : k n ≡ true) (apart : (r : Row) → k r ≡ false
      → (p r n ≡ false) × ((X : List Row) → f (n ∷ X) r ≡ f X r)) where
    abbrev away : Row → Bool
    away r = not (k r)

    -- away from the new row's key nothing changes
    rest_on : (X rs : List Row) → map (f (n ∷ X)) (filter
        (λ r. away r && not (list_any (p r) (n ∷ X))) rs)
        ≡ map (f X) (filter (λ r. away r && not (list_any (p r) X)) rs)
    rest_on X [] = refl
    rest_on X (r ∷ rs) = go (k r) refl (rest_on X rs)
      where
        more_on : List Row
        more_on = map (f (n ∷ X)) (filter (λ r. away r && not (list_any (p r) (n ∷ X))) rs)

        less_on : List Row
        less_on = map (f X) (filter (λ r. away r && not (list_any (p r) X)) rs)

        kept : (b : Bool) → f (n ∷ X) r ≡ f X r → more_on ≡ less_on
            → map (f (n ∷ X)) (cond (not b)
            (r ∷ filter (λ r. away r && not (list_any (p r) (n ∷ X))) rs)
            (filter (λ r. away r && not (list_any (p r) (n ∷ X))) rs))
            ≡ map (f X) (cond (not b) (r ∷ filter (λ r. away r && not (list_any (p r) X)) rs)
            (filter (λ r. away r && not (list_any (p r) X)) rs))
        kept true same more = more
        kept false same more = ap₂ ◌∷◌ same more

        go : (b : Bool) → k r ≡ b → more_on ≡ less_on
            → map (f (n ∷ X)) (cond (not b && not (list_any (p r) (n ∷ X)))
            (r ∷ filter (λ r. away r && not (list_any (p r) (n ∷ X))) rs)
            (filter (λ r. away r && not (list_any (p r) (n ∷ X))) rs))
            ≡ map (f X) (cond (not b && not (list_any (p r) X))
            (r ∷ filter (λ r. away r && not (list_any (p r) X)) rs)
            (filter (λ r. away r && not (list_any (p r) X)) rs))
        go true e more = more
        go false e more = rw (apart r e).0 (kept (list_any (p r) X) ((apart r e).1 X) more)

    rest : (X : List Row) → made away (n ∷ X) ≡ made away X
    rest X = ap (λ b. map (f (n ∷ X)) (cond (not b && not (list_any (p n) (n ∷ X)))
        (n ∷ filter (λ r. away r && not (list_any (p r) (n ∷ X))) X)
        (filter (λ r. away r && not (list_any (p r) (n ∷ X))) X))) own ∙ rest_on X X

    keyed_away : (xs : List Row) → filter (λ c. not (key c)) (made every xs) ≡ made away xs
    keyed_away xs =
        filter-map (λ c. not (key c)) (f xs) (tops every xs)
        ∙ ap (map (f xs)) (filter_same (λ r. not (key (f xs r))) away (λ r. ap not (tells xs r))
        (tops every xs) ∙ both_filters away (λ r. every r && not (list_any (p r) xs)) xs)

    -- with those of the new row's key made anew, they are the rows that follow
    pub changed : (X Y C after : List Row) → IsPermutation (n ∷ X) Y
        → IsPermutation (made every X) C
        → IsPermutation (made k Y ++ filter (λ c. not (key c)) C) after
        → IsPermutation (made every Y) after
    changed X Y C after same was now =
        let split : IsPermutation (made k Y ++ made away Y) (made every Y) =
        subst (λ l. IsPermutation l (made every Y)) (map-append (f Y) (tops k Y) (tops away Y))
        (IsPermutation-map (f Y) _ _ (parted k (λ r. not (list_any (p r) Y)) Y)) in
        let left : IsPermutation (made away Y) (filter (λ c. not (key c)) C) =
        IsPermutation-trans (made away Y) (made away (n ∷ X)) (filter (λ c. not (key c)) C)
        (IsPermutation-sym _ _ (made_permuted away (n ∷ X) Y same))
        (subst (λ l. IsPermutation l (filter (λ c. not (key c)) C)) (keyed_away X ∙ sym (rest X))
        (IsPermutation-filter (λ c. not (key c)) (made every X) C was)) in
        IsPermutation-trans (made every Y) (made k Y ++ made away Y) after
        (IsPermutation-sym _ _ split) (IsPermutation-trans _ _ _
        (IsPermutation-append (made k Y) (made k Y) (made away Y) (filter (λ c. not (key c)) C)
        (IsPermutation-refl (made k Y)) left) now)

-- ---- of a list that has all of another, and as many

picked : {A : Type 0} (x : A) (xs : List A) → Has xs x
    → (front : List A) × (back : List A) × (xs ≡ front ++ x ∷ back)
picked x [] h = absurd h
picked x (y ∷ ys) (inl e) = ([], ys, ap (λ z. z ∷ ys) (sym e))
picked x (y ∷ ys) (inr h) = let more = picked x ys h in (y ∷ more.0, more.1, ap (λ l. y ∷ l) more.2)

elsewhere : {A : Type 0} (x z : A) (front back : List A) → Has (front ++ x ∷ back) z
    → (z ≡ x) ⊎ Has (front ++ back) z
elsewhere x z [] back h = h
elsewhere x z (y ∷ front) back (inl e) = inr (inl e)
elsewhere x z (y ∷ front) back (inr h) =
    elim (elsewhere x z front back h) [ inl e ↦ inl e | inr more ↦ inr (inr more) ]

all_has : {A : Type 0} (P : A → Type 0) (xs : List A) (x : A) → AllByRecursion P xs → Has xs x → P x
all_has P [] x all h = absurd h
all_has P (y ∷ ys) x all (inl e) = subst P (sym e) all.0
all_has P (y ∷ ys) x all (inr h) = all_has P ys x all.1 h

-- a list that has each of these, no two of them alike, and is as long, has them in another order
pub filled_by : {A : Type 0} (xs ys : List A) → IsAscending (λ a b. a ≡ b → ⊥) xs
    → ((x : A) → Has xs x → Has ys x) → length xs ≡ length ys → IsPermutation xs ys
filled_by [] [] apart within len = IsPermutation-refl []
filled_by [] (y ∷ ys) apart within len = absurd (omega (arith, len))
filled_by {A} (x ∷ xs) ys apart within len =
    let at = picked x ys (within x (inl refl)) in
    let there : IsPermutation ys (x ∷ (at.0 ++ at.1)) =
    subst (λ l. IsPermutation l (x ∷ (at.0 ++ at.1))) (sym at.2)
    (IsPermutation-middle at.0 x at.1) in
    let shorter : length xs ≡ length (at.0 ++ at.1) =
    omega (arith, len, length_permutation ys (x ∷ (at.0 ++ at.1)) there) in
    let others : (z : A) → Has xs z → Has (at.0 ++ at.1) z =
    λ z h. elim (elsewhere x z at.0 at.1 (subst (λ l. Has l z) at.2 (within z (inr h))))
    [ inl e ↦ absurd (all_has (λ b. x ≡ b → ⊥) xs z apart.0 h (sym e)) | inr more ↦ more ] in
    IsPermutation-trans (x ∷ xs) (x ∷ (at.0 ++ at.1)) ys
    (IsPermutation-cons x xs (at.0
    ++ at.1) (filled_by xs (at.0 ++ at.1) apart.1 others shorter))
    (IsPermutation-sym ys (x ∷ (at.0 ++ at.1)) there)

-- ---- as SQL compares

turned : (o : Ordering) → is_eq (ordering_reverse o) ≡ is_eq o
turned Less = refl
turned Equal = refl
turned Greater = refl

-- = is the same in both directions
pub same_turned : (v w : Value) → same v w ≡ same w v
unfolding binary
same_turned v w = go (is_null v) (is_null w)
  where
    go : (a b : Bool) → is_true (cond (a || b) Null (from_truth (Some (is_eq (value_cmp v w)))))
        ≡ is_true (cond (b || a) Null (from_truth (Some (is_eq (value_cmp w v)))))
    go true true = refl
    go true false = refl
    go false true = refl
    go false false = ap (λ b. is_true (from_truth (Some b)))
        (ap is_eq (value_cmp_total.antisymm v w) ∙ turned (value_cmp w v))

same_itself : (v : Value) → is_null v ≡ false → same v v ≡ true
unfolding binary
same_itself v some = rw (some, tied_itself value_cmp_total v) refl

three_off : (a b c d : Bool) → (a && (b && c)) ≡ false → (a && (b && (c && d))) ≡ false
three_off true true c d off = rw off refl
three_off true false c d off = refl
three_off false b c d off = refl

first_off : (a b : Bool) → a ≡ false → (a && b) ≡ false
first_off a b off = rw off refl

-- ---- current values

other_moment : (origin number tick : ℤ) (node : List ℕ) (time pico asked : ℤ) (who value : List ℕ)
    (r : Row) (rest : Bool) → is_of node time pico r ≡ false
    → (same (Bytes node) (column r 3) && (same (Int time) (column r 4)
    && (same (Int pico) (column r 5) && rest))) ≡ false
other_moment origin number tick node time pico asked who value r rest off =
    ap₂ ◌&&◌ (same_turned (Bytes node) (column r 3))
    (ap₂ ◌&&◌ (same_turned (Int time) (column r 4))
    (ap (λ b. b && rest) (same_turned (Int pico) (column r 5))))
    ∙ three_off (same (column r 3) (Bytes node)) (same (column r 4) (Int time))
    (same (column r 5) (Int pico)) rest off

pub stable_currents : (xs ys : List Row) → IsPermutation xs ys → (r : Row)
    → current_of xs r ≡ current_of ys r
stable_currents xs ys same_rows r =
    ap (λ b. column r 3 ∷ column r 4 ∷ column r 5 ∷ column r 2 ∷ column r 0
    ∷ binary (Compare Ne Binary) (column r 6) (Int (pos 4)) ∷ flag b ∷ column r 8 ∷ [])
    (list_any-IsPermutation (is_other r) xs ys same_rows)

pub currents_permuted : (xs ys : List Row) → IsPermutation xs ys
    → IsPermutation (currents_of xs) (currents_of ys)
currents_permuted = made_permuted is_later current_of stable_currents (λ r. true)

pub currents_changed : (origin number tick : ℤ) (node : List ℕ) (time pico asked : ℤ)
    (who value : List ℕ) (X Y C after : List Row)
    → IsPermutation (cells_of origin number tick node time pico asked who value ∷ X) Y
    → IsPermutation (currents_of X) C
    → IsPermutation (currents_where (is_of node time pico) Y
    ++ filter (λ c. not (is_current_of node time pico c)) C) after
    → IsPermutation (currents_of Y) after
currents_changed origin number tick node time pico asked who value X Y C after =
    changed is_later current_of stable_currents (is_of node time pico)
    (is_current_of node time pico) (λ xs r. refl) n own apart X Y C after
  where
    n : Row
    n = cells_of origin number tick node time pico asked who value

    own : is_of node time pico n ≡ true
    own = rw (
      same_itself (Bytes node) refl,
      same_itself (Int time) refl,
      same_itself (Int pico) refl,
    ) refl

    apart : (r : Row) → is_of node time pico r ≡ false
        → (is_later r n ≡ false) × ((X : List Row) → current_of (n ∷ X) r ≡ current_of X r)
    apart r off = (
      other_moment origin number tick node time pico asked who value r _ off,
      λ X. rw (other_moment origin number tick node time pico asked who value r
          (is_true (binary Or (binary (Compare Ne Binary) (Int tick) (column r 2))
          (binary (Compare Ne Binary) (Int origin) (column r 0)))) off) refl,
    )

-- a row that is the only one of its node, time and picoseconds makes a row of currents2 that tells
-- of no other
module _ (origin number tick : ℤ) (node : List ℕ) (time pico asked : ℤ) (who value : List ℕ) where
  abbrev only : Row
  only = cells_of origin number tick node time pico asked who value

  not_greater : is_true (binary Or (binary (Compare Gt Binary) (Int tick) (Int tick))
      (binary (Compare Gt Binary) (Int origin) (Int origin))) ≡ false
  unfolding binary
  not_greater = rw (
    tied_itself value_cmp_total (Int tick),
    tied_itself value_cmp_total (Int origin),
  ) refl

  not_apart : is_true (binary Or (binary (Compare Ne Binary) (Int tick) (Int tick))
      (binary (Compare Ne Binary) (Int origin) (Int origin))) ≡ false
  unfolding binary
  not_apart = rw (tied_itself value_cmp_total (Int tick), tied_itself value_cmp_total (Int origin))
      refl

  fifth_off : (a b c d e : Bool) → e ≡ false → (a && (b && (c && (d && e)))) ≡ false
  fifth_off true true true true e off = off
  fifth_off true true true false e off = refl
  fifth_off true true false d e off = refl
  fifth_off true false c d e off = refl
  fifth_off false b c d e off = refl

  fourth_off : (a b c d : Bool) → d ≡ false → (a && (b && (c && d))) ≡ false
  fourth_off true true true d off = off
  fourth_off true true false d off = refl
  fourth_off true false c d off = refl
  fourth_off false b c d off = refl

  own_moment : is_of node time pico only ≡ true
  own_moment = rw (
    same_itself (Bytes node) refl,
    same_itself (Int time) refl,
    same_itself (Int pico) refl,
  ) refl

  none_later : (others : List Row) → HasNoneOf node time pico others
      → list_any (is_later only) (only ∷ others) ≡ false
  none_later others apart =
      any_from_none (is_later only) (only ∷ others) (
        fifth_off (same (Bytes node) (Bytes node)) (same (Int time) (Int time))
            (same (Int pico) (Int pico)) (is_true
            (binary (Compare Ge Binary) (Int tick) (Int tick))) _ not_greater,
        all_weaker (λ r. is_of node time pico r ≡ false) (λ r. is_later only r ≡ false)
            (λ r off. three_off (same (column r 3) (Bytes node)) (same (column r 4) (Int time))
            (same (column r 5) (Int pico)) _ off) others apart,
      )

  none_other : (others : List Row) → HasNoneOf node time pico others
      → list_any (is_other only) (only ∷ others) ≡ false
  none_other others apart =
      any_from_none (is_other only) (only ∷ others) (
        fourth_off (same (Bytes node) (Bytes node)) (same (Int time) (Int time))
            (same (Int pico) (Int pico)) _ not_apart,
        all_weaker (λ r. is_of node time pico r ≡ false) (λ r. is_other only r ≡ false)
            (λ r off. three_off (same (column r 3) (Bytes node)) (same (column r 4) (Int time))
            (same (column r 5) (Int pico)) _ off) others apart,
      )

  alone : (others : List Row) → HasNoneOf node time pico others
      → currents_where (is_of node time pico) (only ∷ others) ≡ current_of [] only ∷ []
  alone others apart =
      ap (λ b. map (current_of (only ∷ others)) (cond
      (b && not (list_any (is_later only) (only ∷ others))) (only ∷ more) more)) own_moment
      ∙ ap (λ b. map (current_of (only ∷ others)) (cond (not b) (only ∷ more) more))
      (none_later others apart)
      ∙ ap (λ l. map (current_of (only ∷ others)) (only ∷ l))
      (filter_none (λ r. is_of node time pico r && not (list_any (is_later r) (only ∷ others)))
      others
      (all_weaker (λ r. is_of node time pico r ≡ false)
      (λ r. (is_of node time pico r && not (list_any (is_later r) (only ∷ others))) ≡ false)
      (λ r off. first_off (is_of node time pico r)
      (not (list_any (is_later r) (only ∷ others))) off) others apart))
      ∙ ap (λ b. (column only 3 ∷ column only 4 ∷ column only 5 ∷ column only 2 ∷ column only 0
      ∷ binary (Compare Ne Binary) (column only 6) (Int (pos 4)) ∷ flag b ∷ column only 8 ∷ [])
      ∷ []) (none_other others apart)
    where
      more : List Row
      more = filter (λ r. is_of node time pico r && not (list_any (is_later r) (only ∷ others)))
          others

  pub first_made : (others rows : List Row) → IsPermutation (only ∷ others) rows
      → HasNoneOf node time pico others
      → IsPermutation (currents_where (is_of node time pico) rows) (current_of [] only ∷ [])
  first_made others rows same_rows apart =
      IsPermutation-sym _ _ (subst
      (λ l. IsPermutation l (currents_where (is_of node time pico) rows)) (alone others apart)
      (made_permuted is_later current_of stable_currents (is_of node time pico)
      (only ∷ others) rows same_rows))

-- ---- vectors

pub stable_vectors : (xs ys : List Row) → IsPermutation xs ys → (r : Row) → last_of r ≡ last_of r
stable_vectors xs ys same_rows r = refl

pub vectors_permuted : (xs ys : List Row) → IsPermutation xs ys
    → IsPermutation (vectors_of xs) (vectors_of ys)
vectors_permuted = made_permuted is_newer (λ _. last_of) stable_vectors (λ r. true)

newest_alone : (n : Row) (X : List Row) → is_null (column n 0) ≡ false → IsNewest n X
    → made is_newer (λ _. last_of) stable_vectors (λ r. same (column r 0) (column n 0)) (n ∷ X)
    ≡ last_of n ∷ []
newest_alone n X some newest =
    ap (λ b. map last_of (cond (b && not (is_newer n n || list_any (is_newer n) X))
    (n ∷ more) more)) (same_itself (column n 0) some)
    ∙ ap (λ b. map last_of (cond (not (b || list_any (is_newer n) X)) (n ∷ more) more)) newest.0
    ∙ ap (λ b. map last_of (cond (not b) (n ∷ more) more))
    (any_from_none (is_newer n) X (none X newest.1))
    ∙ ap (λ l. last_of n ∷ map last_of l) (others X newest.1)
  where
    more : List Row
    more = filter (λ r. same (column r 0) (column n 0)
        && not (is_newer r n || list_any (is_newer r) X)) X

    k : Row → Bool
    k r = same (column r 0) (column n 0)

    none : (rs : List Row) → AllByRecursion (λ r. (is_newer n r ≡ false)
        × (k r ≡ true → is_newer r n ≡ true)) rs → AllByRecursion (λ r. is_newer n r ≡ false) rs
    none [] all = tt
    none (r ∷ rs) all = (all.0.0, none rs all.1)

    others : (rs : List Row) → AllByRecursion (λ r. (is_newer n r ≡ false)
        × (k r ≡ true → is_newer r n ≡ true)) rs
        → filter (λ r. k r && not (is_newer r n || list_any (is_newer r) X)) rs ≡ []
    others [] all = refl
    others (r ∷ rs) all = go (k r) refl (others rs all.1)
      where
        go : (b : Bool) → k r ≡ b → filter (λ r. k r
            && not (is_newer r n || list_any (is_newer r) X)) rs ≡ []
            → cond (b && not (is_newer r n || list_any (is_newer r) X))
            (r ∷ filter (λ r. k r && not (is_newer r n || list_any (is_newer r) X)) rs)
            (filter (λ r. k r && not (is_newer r n || list_any (is_newer r) X)) rs) ≡ []
        go true e more = rw (all.0.1 e) more
        go false e more = more

pub vectors_changed : (n : Row) (origin : ℤ) (X Y C after : List Row) → column n 0 ≡ Int origin
    → IsNewest n X → IsPermutation (n ∷ X) Y → IsPermutation (vectors_of X) C
    → IsPermutation (last_of n ∷ filter (λ c. not (is_vector_of origin c)) C) after
    → IsPermutation (vectors_of Y) after
vectors_changed n origin X Y C after is newest same_rows was now =
    changed is_newer (λ _. last_of) stable_vectors (is_vector_of origin) (is_vector_of origin)
    (λ xs r. refl) n own apart X Y C after same_rows was
    (IsPermutation-trans (made is_newer (λ _. last_of) stable_vectors (is_vector_of origin) Y
    ++ left) (last_of n ∷ left) after (IsPermutation-append
    (made is_newer (λ _. last_of) stable_vectors (is_vector_of origin) Y)
    (last_of n ∷ []) left left at (IsPermutation-refl left)) now)
  where
    left : List Row
    left = filter (λ c. not (is_vector_of origin c)) C

    own : is_vector_of origin n ≡ true
    own = ap (λ v. same v (Int origin)) is ∙ same_itself (Int origin) refl

    apart : (r : Row) → is_vector_of origin r ≡ false
        → (is_newer r n ≡ false) × ((X : List Row) → last_of r ≡ last_of r)
    apart r off = (
      first_off (same (column n 0) (column r 0)) (above (column n 1) (column r 1))
          (ap (λ v. same v (column r 0)) is ∙ same_turned (Int origin) (column r 0) ∙ off),
      λ X. refl,
    )

    at : IsPermutation (made is_newer (λ _. last_of) stable_vectors (is_vector_of origin) Y)
        (last_of n ∷ [])
    at = IsPermutation-sym _ _ (subst
        (λ l. IsPermutation l (made is_newer (λ _. last_of) stable_vectors (is_vector_of origin) Y))
        (ap (λ v. made is_newer (λ _. last_of) stable_vectors (λ r. same (column r 0) v) (n ∷ X))
        (sym is) ∙ newest_alone n X (ap is_null is) newest)
        (made_permuted is_newer (λ _. last_of) stable_vectors (is_vector_of origin)
        (n ∷ X) Y same_rows))
