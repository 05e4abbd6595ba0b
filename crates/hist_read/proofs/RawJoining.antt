-- A page of raw items, and what follows it.
use Rattle.std.proofs.Common.{◌≡◌, ℕ, zero, suc, ◌+◌, ◌-◌, ◌<◌, ◌≤◌, nat_lt, ℤ, ◌≤ℤ◌, Bool, true, false, cond, ◌&&◌, ◌==◌, not, List, [], ◌∷◌, ◌++◌, filter, min, take, drop, length, slice_get, Option, Some, None, option_map, refl, sym, ap, ◌∙◌, subst, arith, inl, inr}
use Rattle.std.proofs.lemmas.Bool.Decides.{nat_tests}
use Rattle.std.proofs.lemmas.Bool.{and_parts, cases_Bool}
use Rattle.std.proofs.lemmas.Int.{ints}
use Rattle.std.proofs.lemmas.List.{length-append, take-append-le, take-append-drop, append_assoc}
use Rattle.std.proofs.lemmas.Option.{none-some}
use Rattle.std.specs.Option.{option_map_or}
use Rattle.ua_binary.specs.declared.values.NodeId.{NodeId}
use Rattle.records.specs.Lists.{last, IsPairwise}
use Rattle.records.specs.Contents.{Content}
use Rattle.records.specs.declared.shown.Held.{Held}
use Rattle.records.proofs.Sorting.{has_from_filter, pairwise-filter}
use Rattle.archive.specs.Reading.{is_between, is_past}
use Rattle.archive.specs.Store.{IsLawfulContent}
use Rattle.archive.specs.declared.reading.Direction.{Direction}
use Rattle.archive.specs.declared.reading.Direction.TheVariants.{Forward, Backward}
use Rattle.archive.proofs.Ranges.{range_goes}
use Rattle.archive.proofs.Timing.{has_from_get}
use Rattle.hist_read.specs.Asking.{has_both, first_time, direction}
use Rattle.hist_read.specs.Reads.{greatest_time, in_body, values_inside, is_near_alone, near, limit_at, is_past_any, body_part, value_items, far, item_time, last_time, time_before, before_far, raw, raw_position, page_size, page, is_spent, next_place}
use Rattle.hist_read.proofs.ReadsParts.{near_part, goes_on, far_part}
use Rattle.ua_services.specs.declared.history.ReadRawModifiedDetails.{ReadRawModifiedDetails as Details}
use Rattle.hist_read.specs.declared.point.Position.{Position}
use Rattle.hist_read.specs.declared.item.Item.{Item}
use Rattle.hist_read.specs.declared.item.Item.TheVariants.{Value}
use Rattle.hist_read.proofs.Filters.{filter_all}
use Rattle.hist_read.proofs.Passing.{past_is_drop, past_passes}
use Rattle.hist_read.proofs.Lives.{span_reads}
use Rattle.hist_read.proofs.Joining.{last_of_take}

-- ---- lists of items

last_more : {X : Type 0} (x y : X) (ys : List X) → last (x ∷ y ∷ ys) ≡ last (y ∷ ys)
last_more x y ys = ap (slice_get (x ∷ y ∷ ys)) (less (suc (length ys)))
    ∙ sym (ap (slice_get (y ∷ ys)) (less (length ys)))
  where
    less : (n : ℕ) → suc n - 1 ≡ n
    less n = omega arith

last_some : {X : Type 0} (x : X) (xs : List X) → (w : X) × (last (x ∷ xs) ≡ Some w)
last_some x [] = (x, refl)
last_some x (y ∷ ys) = let w = last_some y ys in (w.0, last_more x y ys ∙ w.1)

-- the time of the last item is that of the last one behind the k-th, else that of the k-th
pub last_behind : (xs : List Item) (k : ℕ) (x : Item) (t : ℤ) → slice_get xs k ≡ Some x
    → last_time t xs ≡ last_time (item_time x) (drop (suc k) xs)
last_behind [] k x t e = absurd (none-some _ e)
last_behind (y ∷ []) zero x t e = ap (λ o. option_map_or item_time o t) e
last_behind (y ∷ z ∷ zs) zero x t e =
    let w = last_some z zs in
    ap (λ o. option_map_or item_time o t) (last_more y z zs ∙ w.1)
    ∙ sym (ap (λ o. option_map_or item_time o (item_time x)) w.1)
last_behind (y ∷ []) (suc k) x t e = absurd (none-some _ e)
last_behind (y ∷ z ∷ zs) (suc k) x t e =
    ap (λ o. option_map_or item_time o t) (last_more y z zs) ∙ last_behind (z ∷ zs) k x t e

get_mapped : (hs : List Held) (k : ℕ) (x : Item) → slice_get (value_items hs) k ≡ Some x
    → (h : Held) × (slice_get hs k ≡ Some h) × (x ≡ Value h)
get_mapped [] k x e = absurd (none-some _ e)
get_mapped (h ∷ hs) zero x e = (h, refl, sym (cc))
get_mapped (h ∷ hs) (suc k) x e = get_mapped hs k x e

drop_mapped : (k : ℕ) (hs : List Held) → drop k (value_items hs) ≡ value_items (drop k hs)
drop_mapped zero hs = refl
drop_mapped (suc k) [] = refl
drop_mapped (suc k) (h ∷ hs) = drop_mapped k hs

-- ---- what is past a value of the body

pub past_back : (d : Direction) (x y : Held) → is_past d x.time y.time ≡ true
    → is_past d y.time x.time ≡ false
past_back Forward x y e = grind (arith, nat_tests, ints, e)
past_back Backward x y e = grind (arith, nat_tests, ints, e)

pub past_on : (d : Direction) (limit : Option ℤ) (x y : Held) → is_past_any d limit x.time ≡ true
    → is_past d x.time y.time ≡ true → is_past_any d limit y.time ≡ true
past_on d None x y e k = refl
past_on Forward (Some t) x y e k = grind (arith, nat_tests, ints, e, k)
past_on Backward (Some t) x y e k = grind (arith, nat_tests, ints, e, k)

and_true : (b : Bool) → (b && true) ≡ b
and_true true = refl
and_true false = refl

module _ (R : Content) (node : NodeId) (q : Details) (from to : ℤ) (lawful : IsLawfulContent R)
    (span : (t : ℤ) → first_time ≤ℤ t → t ≤ℤ greatest_time → is_between from to t ≡ in_body q t)
  where
    body_goes : IsPairwise (λ a b. is_past (direction q) a.time b.time ≡ true)
        (values_inside R node q)
    body_goes = subst (IsPairwise (λ a b. is_past (direction q) a.time b.time ≡ true))
        (span_reads R node q None from to lawful (λ t low high. span t low high
        ∙ sym (and_true (in_body q t))) ∙ filter_all (values_inside R node q))
        (range_goes R node from to (direction q))

    module _ (p : Option Position) (apart : is_near_alone q ≡ false) where
      abbrev part : Option Position → List Held
      part o = filter (λ h. is_past_any (direction q) (limit_at q o) h.time) (values_inside R node q)

      part_is : (o : Option Position) → body_part R node q o ≡ part o
      part_is o = ap (λ b. cond b [] (part o)) apart

      after_value : (k : ℕ) (h : Held) → slice_get (part p) k ≡ Some h
          → filter (λ g. is_past (direction q) h.time g.time) (values_inside R node q)
          ≡ drop (suc k) (part p)
      after_value k h e =
          let d = direction q in
          let on : is_past_any d (limit_at q p) h.time ≡ true =
          (has_from_filter (λ g. is_past_any d (limit_at q p) g.time) (values_inside R node q) h
          (has_from_get (part p) k h e)).1 in
          sym (past_passes (λ g. is_past d h.time g.time) (λ g. is_past_any d (limit_at q p) g.time)
          (λ g m. past_on d (limit_at q p) h g on m) (values_inside R node q))
          ∙ past_is_drop (λ a b. is_past d a.time b.time) (past_back d) (part p) k h
          (pairwise-filter (λ a b. is_past d a.time b.time ≡ true)
          (λ g. is_past_any d (limit_at q p) g.time) (values_inside R node q) body_goes) e

      -- the value behind which a page ends, and what is left of the body there
      left_is : (k : ℕ) (h : Held) → slice_get (body_part R node q p) k ≡ Some h
          → body_part R node q (Some (raw_position q p (Value h)))
          ≡ drop (suc k) (body_part R node q p)
      left_is k h e =
          part_is (Some (raw_position q p (Value h)))
          ∙ (after_value k h (ap (λ l. slice_get l k) (sym (part_is p)) ∙ e)
          ∙ ap (drop (suc k)) (sym (part_is p)))

      abbrev N : List Item
      N = near_part R node q p

      abbrev B : List Held
      B = body_part R node q p

      abbrev L : List Item
      L = before_far R node q p

      get_behind : {X : Type 0} (xs ys : List X) (j : ℕ)
          → slice_get (xs ++ ys) (length xs + j) ≡ slice_get ys j
      get_behind [] ys j = let none : 0 + j ≡ j = omega arith in ap (slice_get ys) none
      get_behind (y ∷ xs) ys j = let one : suc (length xs) + j ≡ suc (length xs + j) = omega arith in
          ap (slice_get (y ∷ (xs ++ ys))) one ∙ get_behind xs ys j

      drop_behind : {X : Type 0} (xs ys : List X) (j : ℕ)
          → drop (length xs + j) (xs ++ ys) ≡ drop j ys
      drop_behind [] ys j = let none : 0 + j ≡ j = omega arith in ap (λ n. drop n ys) none
      drop_behind (y ∷ xs) ys j = let one : suc (length xs) + j ≡ suc (length xs + j) = omega arith in
          ap (λ n. drop n (y ∷ (xs ++ ys))) one ∙ drop_behind xs ys j

      -- what follows the place of an item behind the near bound is what stands behind it
      follows_is : (j : ℕ) (x : Item) → slice_get L (length N + j) ≡ Some x
          → raw R node q (Some (raw_position q p x))
          ≡ drop (suc (length N + j)) L ++ far_part R node q (last_time (time_before q p) L)
      follows_is j x e =
          let m = get_mapped B j x (sym (get_behind N (value_items B) j) ∙ e) in
          let one : suc (length N + j) ≡ length N + suc j = omega arith in
          let rest : value_items (body_part R node q (Some (raw_position q p x)))
          ≡ drop (suc (length N + j)) L =
          ap (λ y. value_items (body_part R node q (Some (raw_position q p y)))) m.2
          ∙ (ap value_items (left_is j m.0 m.1) ∙ (sym (drop_mapped (suc j) B)
          ∙ (sym (drop_behind N (value_items B) (suc j)) ∙ ap (λ n. drop n L) (sym one)))) in
          ap (λ l. l ++ far_part R node q (last_time (item_time x) l)) rest
          ∙ ap (λ t. drop (suc (length N + j)) L ++ far_part R node q t)
          (sym (last_behind L (length N + j) x (time_before q p) e))

      -- ---- the place where a page ends

      abbrev S : List Item
      S = raw R node q p

      abbrev F : List Item
      F = far_part R node q (last_time (time_before q p) L)

      far_short : length F ≤ 1
      far_short = go (q.return_bounds && not (is_near_alone q))
        where
          go : (b : Bool) → length (cond b (far R node q (last_time (time_before q p) L) ∷ []) []) ≤ 1
          go true = omega arith
          go false = omega arith

      get_front : {X : Type 0} (xs ys : List X) (k : ℕ) → k < length xs
          → slice_get (xs ++ ys) k ≡ slice_get xs k
      get_front [] ys k h = absurd (omega (arith, h))
      get_front (x ∷ xs) ys zero h = refl
      get_front (x ∷ xs) ys (suc k) h = get_front xs ys k (omega (arith, h))

      -- the near bound is never the last item of a page that another one follows
      near_given : 0 < page_size q p → length N < page_size q p
      near_given some = by_place p some
        where
          two : q.return_bounds ≡ true → 1 < page_size q None
          two e =
              let more : (q.num_values_per_node == 1) ≡ false =
              sym (ap (λ b. b && (q.num_values_per_node == 1)) e) ∙ apart in
              by_count (q.num_values_per_node == 0) refl more
            where
              by_count : (b : Bool) → (q.num_values_per_node == 0) ≡ b
                  → (q.num_values_per_node == 1) ≡ false
                  → 1 < cond b 1000 (min 1000
                  (cond (has_both q) q.num_values_per_node (q.num_values_per_node - 0)))
              by_count true e f = omega arith
              by_count false e f = by_both (has_both q)
                where
                  many : 1 < q.num_values_per_node
                  many = grind (arith, nat_tests, e, f)

                  by_both : (c : Bool)
                      → 1 < min 1000 (cond c q.num_values_per_node (q.num_values_per_node - 0))
                  by_both true = omega (arith, many)
                  by_both false = omega (arith, many)

          by_bounds : (b : Bool) → q.return_bounds ≡ b → 0 < page_size q None
              → length (cond b (near R node q ∷ []) []) < page_size q None
          by_bounds true e h = two e
          by_bounds false e h = h

          by_place : (o : Option Position) → 0 < page_size q o
              → length (near_part R node q o) < page_size q o
          by_place None h = by_bounds q.return_bounds refl h
          by_place (Some x) h = h

      rest_is : (x : Item) → page_size q p < length S → last (page q p S) ≡ Some x
          → S ≡ page q p S ++ raw R node q (Some (raw_position q p x))
      rest_is x more is =
          let n = page_size q p in
          let k = last_of_take n S x more is in
          let size : length S ≡ length L + length F = length-append L F in
          let inside : k.0 < length L = omega (arith, far_short, more, k.1, size) in
          let behind : k.0 ≡ length N + (k.0 - length N) =
          omega (arith, near_given (omega (arith, k.1)), k.1) in
          let at : slice_get L (length N + (k.0 - length N)) ≡ Some x =
          ap (slice_get L) (sym behind) ∙ (sym (get_front L F k.0 inside) ∙ k.2) in
          let after = follows_is (k.0 - length N) x at in
          let count : n ≡ suc (length N + (k.0 - length N)) = omega (arith, k.1, behind) in
          let front : take n S ≡ take n L = take-append-le n L F (omega (arith, inside, k.1)) in
          ap (λ l. l ++ F) (sym (take-append-drop n L))
          ∙ (append_assoc (take n L) (drop n L) F
          ∙ (ap (λ l. l ++ (drop n L ++ F)) (sym front)
          ∙ ap (λ l. take n S ++ l) (sym (after ∙ ap (λ m. drop m L ++ F) (sym count)))))

      -- over an unchanged content a page, and what follows the place where it ends, are together what
      -- was to come
      pub raw_join : (next : Position) → next_place (raw_position q p) q p S ≡ Some next
          → S ≡ page q p S ++ raw R node q (Some next)
      raw_join next is = go (goes_on q p S) refl is
        where
          at : goes_on q p S ≡ true → (o : Option Item) → last (page q p S) ≡ o
              → option_map (raw_position q p) o ≡ Some next
              → S ≡ page q p S ++ raw R node q (Some next)
          at on None e f = absurd (none-some _ f)
          at on (Some x) e f =
              let tests = and_parts (nat_lt (page_size q p) (length S)) (not (is_spent q p)) on in
              let more : page_size q p < length S = grind (arith, nat_tests, tests.0) in
              rest_is x more e ∙ ap (λ o. page q p S ++ raw R node q o) f

          go : (b : Bool) → goes_on q p S ≡ b
              → cond b (option_map (raw_position q p) (last (page q p S))) None ≡ Some next
              → S ≡ page q p S ++ raw R node q (Some next)
          go false e f = absurd (none-some _ f)
          go true e f = at e (last (page q p S)) refl f

module _ (R : Content) (node : NodeId) (q : Details) (from to : ℤ) (lawful : IsLawfulContent R)
    (span : (t : ℤ) → first_time ≤ℤ t → t ≤ℤ greatest_time → is_between from to t ≡ in_body q t)
  where
    -- where the near bound is all that is asked for, no page follows
    alone_ends : (p : Option Position) → is_near_alone q ≡ true → goes_on q p (raw R node q p) ≡ false
    alone_ends p e = ap (λ b. b && not (is_spent q p)) (short p)
      where
        parts : (q.return_bounds ≡ true) × ((q.num_values_per_node == 1) ≡ true)
        parts = and_parts q.return_bounds (q.num_values_per_node == 1) e

        one : q.num_values_per_node ≡ 1
        one = grind (arith, nat_tests, parts.1)

        no_far : (t : ℤ) → far_part R node q t ≡ []
        no_far t = ap (λ b. cond b (far R node q t ∷ []) [])
            (ap (λ a. q.return_bounds && not a) e ∙ ends q.return_bounds)
          where
            ends : (b : Bool) → (b && false) ≡ false
            ends true = refl
            ends false = refl

        no_body : (o : Option Position) → body_part R node q o ≡ []
        no_body o = ap (λ a. cond a [] (filter (λ h. is_past_any (direction q) (limit_at q o) h.time)
            (values_inside R node q))) e

        all_is : (o : Option Position) → raw R node q o ≡ (near_part R node q o ++ []) ++ []
        all_is o = ap (λ f. before_far R node q o ++ f) (no_far _)
            ∙ ap (λ b. (near_part R node q o ++ value_items b) ++ []) (no_body o)

        size : (b : Bool) → 1 ≤ cond b 1000 (min 1000
            (cond (has_both q) q.num_values_per_node (q.num_values_per_node - 0)))
        size true = omega arith
        size false = by_both (has_both q)
          where
            by_both : (c : Bool) → 1
                ≤ min 1000 (cond c q.num_values_per_node (q.num_values_per_node - 0))
            by_both true = omega (arith, one)
            by_both false = omega (arith, one)

        short : (o : Option Position) → nat_lt (page_size q o) (length (raw R node q o)) ≡ false
        short None =
            let only : raw R node q None ≡ near R node q ∷ [] =
            all_is None ∙ ap (λ b. (cond b (near R node q ∷ []) [] ++ []) ++ []) parts.0 in
            let enough : 1 ≤ page_size q None = size (q.num_values_per_node == 0) in
            ap (λ l. nat_lt (page_size q None) (length l)) only ∙ grind (arith, nat_tests, enough)
        short (Some x) = ap (λ l. nat_lt (page_size q (Some x)) (length l)) (all_is (Some x))
            ∙ grind (arith, nat_tests)

    pub raw_joins : (p : Option Position) (next : Position)
        → next_place (raw_position q p) q p (raw R node q p) ≡ Some next
        → raw R node q p ≡ page q p (raw R node q p) ++ raw R node q (Some next)
    raw_joins p next is = elim (cases_Bool (is_near_alone q)) [
      | inl e ↦ absurd (none-some _ (sym
          (ap (λ b. cond b (option_map (raw_position q p) (last (page q p (raw R node q p)))) None)
          (alone_ends p e)) ∙ is))
      | inr e ↦ raw_join R node q from to lawful span p e next is
    ]
