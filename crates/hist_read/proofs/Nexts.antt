-- A page of what an archive holds ends at a place that can be written.
use Rattle.std.proofs.Common.{◌≡◌, ℕ, zero, suc, ◌+◌, ◌-◌, ◌<◌, ◌≤◌, min, nat_lt, nat_le, ◌==◌, ℤ, pos, ◌≤ℤ◌, Bool, true, false, cond, ◌&&◌, ◌||◌, not, IsTrue, List, [], ◌∷◌, ◌++◌, map, filter, take, length, reverse, Option, Some, None, IfSome, option_map, refl, ap, ◌∙◌, subst, arith, inl, inr, ◌⊎◌}
use Rattle.std.proofs.lemmas.Bool.Decides.{nat_tests}
use Rattle.std.proofs.lemmas.Bool.{and_parts, and_from}
use Rattle.std.proofs.lemmas.Int.{ints}
use Rattle.std.proofs.lemmas.List.{length-append, take-append-le}
use Rattle.std.specs.Option.{option_or}
use Rattle.stamp.specs.Limits.{greatest, IsReplica}
use Rattle.ua_binary.specs.declared.values.NodeId.{NodeId}
use Rattle.records.specs.Lists.{Has, last}
use Rattle.records.specs.Contents.{Content}
use Rattle.records.specs.Records.{live_value, versions, modifications_at, entries_after}
use Rattle.records.specs.declared.record.Record.{Record}
use Rattle.records.specs.declared.shown.Held.{Held}
use Rattle.records.specs.declared.shown.Entry.{Entry}
use Rattle.records.proofs.LatestLemmas.{story_has}
use Rattle.records.proofs.Sorting.{has_from_filter}
use Rattle.archive.specs.Reading.{times, lives, log, in_direction, is_past, outside_of, follows}
use Rattle.archive.proofs.ReadingParts.{opposite}
use Rattle.archive.specs.Store.{IsLawfulContent}
use Rattle.archive.specs.declared.reading.Direction.{Direction}
use Rattle.archive.proofs.Timing.{has_from_get, current_from}
use Rattle.archive.proofs.Turning.{has_from_flat_map, has_from_reverse, has-in_direction}
use Rattle.hist_read.specs.Asking.{is_given, has_both, first_time, origin_time, direction}
use Rattle.records.specs.Moments.{moment}
use Rattle.hist_read.specs.Point.{IsNext}
use Rattle.hist_read.specs.PointReading.{is_given_for}
use Rattle.hist_read.specs.Reads.{greatest_time, nearest_from, value_or_missing, near, item_time, is_near_alone, limit_at, is_past_any, in_body, values_inside, body_part, value_items, far, last_time, time_before, before_far, raw, modified, place_at, given_before, page_size, is_spent, page, given_after, raw_position, modified_position, next_place}
use Rattle.hist_read.proofs.ReadsParts.{near_part, goes_on, lives_in, far_part}
use Rattle.ua_services.specs.declared.history.ReadRawModifiedDetails.{ReadRawModifiedDetails as Details}
use Rattle.hist_read.specs.declared.point.Position.{Position}
use Rattle.hist_read.specs.declared.item.Item.{Item}
use Rattle.hist_read.specs.declared.item.Item.TheVariants.{Value}
use Rattle.hist_read.proofs.Lives.{IsTime, record_time, lives_lawful}

-- ---- members

pub has_take : {X : Type 0} (n : ℕ) (xs : List X) (x : X) → Has (take n xs) x → Has xs x
has_take zero [] x h = absurd h
has_take zero (y ∷ ys) x h = absurd h
has_take (suc n) [] x h = absurd h
has_take (suc n) (y ∷ ys) x h = elim h [ inl e ↦ inl e | inr k ↦ inr (has_take n ys x k) ]

pub has_from_append : {X : Type 0} (xs ys : List X) (x : X) → Has (xs ++ ys) x → Has xs x ⊎ Has ys x
has_from_append [] ys x h = inr h
has_from_append (y ∷ xs) ys x h = elim h [
  | inl e ↦ inl (inl e)
  | inr k ↦
      elim (has_from_append xs ys x k) [ inl i ↦ inl (inr i) | inr j ↦ inr j ]
]

pub has_from_map : {X Y : Type 0} (f : X → Y) (xs : List X) (y : Y) → Has (map f xs) y
    → (x : X) × Has xs x × (f x ≡ y)
has_from_map f [] y h = absurd h
has_from_map f (x ∷ xs) y h = elim h [
  | inl e ↦ (x, inl refl, e)
  | inr k ↦ let s =
      has_from_map f xs y k in (s.0, inr s.1, s.2)
]

-- ---- how many were given

positive : (g n count : ℕ) → n ≡ cond (count == 0) 1000 (min 1000 (count - g))
    → nat_le count (g + n) ≡ false → nat_lt 0 (g + n) ≡ true
positive g n count e s = grind (arith, nat_tests)

given_lawful : (q : Details) (p : Option Position) → is_spent q p ≡ false
    → is_given_for q (given_after q p) ≡ true
given_lawful q p spent = go (has_both q) refl spent
  where
    sum : ℕ
    sum = given_before p + page_size q p

    go : (b : Bool) → has_both q ≡ b → (not b && nat_le q.num_values_per_node sum) ≡ false
        → cond b (cond b 0 sum == 0) (nat_lt 0 (cond b 0 sum)
        && nat_lt (cond b 0 sum) q.num_values_per_node) ≡ true
    go true e s = refl
    go false e s =
        let size : page_size q p ≡ cond (q.num_values_per_node == 0) 1000
        (min 1000 (q.num_values_per_node - given_before p)) =
        ap (λ b. cond (q.num_values_per_node == 0) 1000
        (min 1000 (cond b q.num_values_per_node (q.num_values_per_node - given_before p)))) e in
        let within : nat_lt sum q.num_values_per_node ≡ true = grind (arith, nat_tests, s) in
        and_from _ _ (positive (given_before p) (page_size q p) q.num_values_per_node size s) within

module _ (R : Content) (node : NodeId) (q : Details) (p : Option Position)
    (lawful : IsLawfulContent R) where
  -- ---- raw values

  origin_late : IsTrue (is_given q.start_time.0 || is_given q.end_time.0)
      → first_time ≤ℤ origin_time q
  origin_late given = go (is_given q.start_time.0) refl given
    where
      go : (b : Bool) → is_given q.start_time.0 ≡ b → IsTrue (b || is_given q.end_time.0)
          → first_time ≤ℤ moment (cond b q.start_time.0 q.end_time.0) 0
      go true e g = grind (arith, ints, nat_tests, e)
      go false e g = grind (arith, ints, nat_tests, g)

  -- what holds of the times of records and of the origin
  module _ (P : ℤ → Type 0) (all : (t : ℤ) → IsTime t → P t) (at_origin : P (origin_time q)) where
    current_within : (t : ℤ) (h : Held) → live_value R node t ≡ Some h → P h.time
    current_within t h e = let r = current_from R node t h e in
        all h.time (subst IsTime r.2 (record_time R r.0 lawful ((story_has R node t r.0).0 r.1).0))

    outside_within : (t : ℤ) (d : Direction) (h : Held) → outside_of R node t d ≡ Some h → P h.time
    outside_within t d h e =
        let there = (has-in_direction d (filter (λ x. is_past d t x.time) (lives R node)) h).0
        (has_from_get _ 0 h e) in
        all h.time (lives_lawful R node h lawful (has_from_filter (λ (x : Held). is_past d t x.time)
        (lives R node) h there).0)

    nearest_within : (t : ℤ) (d : Direction) (h : Held) → nearest_from R node d t ≡ Some h
        → P h.time
    nearest_within t d h e = go (live_value R node t) refl e
      where
        go : (o : Option Held) → live_value R node t ≡ o
            → option_or o (outside_of R node t d) ≡ Some h → P h.time
        go None f e = outside_within t d h e
        go (Some x) f e = current_within t h (f ∙ e)

    near_within : P (item_time (near R node q))
    near_within = go (nearest_from R node (opposite (direction q)) (origin_time q)) refl
      where
        go : (o : Option Held) → nearest_from R node (opposite (direction q)) (origin_time q) ≡ o
            → P (item_time (value_or_missing (origin_time q) o))
        go None e = at_origin
        go (Some h) e = nearest_within (origin_time q) (opposite (direction q)) h e

    near_in : (p : Option Position) (x : Item) → Has (near_part R node q p) x → P (item_time x)
    near_in (Some p) x h = absurd h
    near_in None x h = go q.return_bounds h
      where
        go : (b : Bool) → Has (cond b (near R node q ∷ []) []) x → P (item_time x)
        go true i = elim i [ inl e ↦ subst (λ y. P (item_time y)) e near_within | inr k ↦ absurd k ]
        go false i = absurd i

    body_late : (h : Held) → Has (body_part R node q p) h → P h.time
    body_late h k = go (is_near_alone q) k
      where
        rest : List Held
        rest = filter (λ x. is_past_any (direction q) (limit_at q p) x.time)
            (values_inside R node q)

        go : (b : Bool) → Has (cond b [] rest) h → P h.time
        go true i = absurd i
        go false i =
            let one = (has_from_filter (λ (x : Held).
            is_past_any (direction q) (limit_at q p) x.time) (values_inside R node q) h i).0 in
            let two = (has_from_filter (λ (x : Held). in_body q x.time) (lives_in R node q) h one).0
            in
            all h.time (lives_lawful R node h lawful
            ((has-in_direction (direction q) (lives R node) h).0 two))

    item_late : (x : Item) → Has (before_far R node q p) x → P (item_time x)
    item_late x h = elim (has_from_append (near_part R node q p)
        (value_items (body_part R node q p)) x h) [
          | inl i ↦ near_in p x i
          | inr j ↦ let s = has_from_map (λ h. Value h) (body_part R node q p) x j in
              subst (λ y. P (item_time y)) s.2 (body_late s.0 s.1)
        ]

    far_short : (before : ℤ) → length (far_part R node q before) ≤ 1
    far_short before = go (q.return_bounds && not (is_near_alone q))
      where
        go : (b : Bool) → length (cond b (far R node q before ∷ []) []) ≤ 1
        go true = omega arith
        go false = omega arith

    -- the last item of a page that isn't the last one stands before the far bound
    ends_before : (x : Item) → nat_lt (page_size q p) (length (raw R node q p)) ≡ true
        → last (page q p (raw R node q p)) ≡ Some x → Has (before_far R node q p) x
    ends_before x more e =
        let n = page_size q p in
        let front = before_far R node q p in
        let tail = far_part R node q (last_time (time_before q p) front) in
        let short = far_short (last_time (time_before q p) front) in
        let sum : length (raw R node q p) ≡ length front + length tail = length-append front tail in
        let beyond : n < length (raw R node q p) = grind (arith, nat_tests, more) in
        let fits : n ≤ length front = omega (arith, sum, beyond, short) in
        has_take n front x (subst (λ l. Has l x) (take-append-le n front tail fits)
        (has_from_get (page q p (raw R node q p)) _ x e))

    last_within : (x : Item) → goes_on q p (raw R node q p) ≡ true
        → last (page q p (raw R node q p)) ≡ Some x → P (item_time x)
    last_within x on e = let tests =
        and_parts (nat_lt (page_size q p) (length (raw R node q p))) (not (is_spent q p)) on in
        item_late x (ends_before x tests.0 e)

    pub raw_within : IfSome (next_place (raw_position q p) q p (raw R node q p))
        (λ next. P next.time)
    raw_within = go (goes_on q p (raw R node q p)) refl
      where
        at : goes_on q p (raw R node q p) ≡ true → (o : Option Item)
            → last (page q p (raw R node q p)) ≡ o
            → IfSome (option_map (raw_position q p) o) (λ next. P next.time)
        at on None e = tt
        at on (Some x) e = last_within x on e

        go : (b : Bool) → goes_on q p (raw R node q p) ≡ b
            → IfSome (cond b (option_map (raw_position q p) (last (page q p (raw R node q p))))
            None) (λ next. P next.time)
        go false e = tt
        go true e = at e (last (page q p (raw R node q p))) refl

  pub raw_next : IsTrue (is_given q.start_time.0 || is_given q.end_time.0)
      → q.is_read_modified ≡ false
      → IfSome (next_place (raw_position q p) q p (raw R node q p)) (IsNext q)
  raw_next given plain = go (goes_on q p (raw R node q p)) refl
    where
      S : List Item
      S = raw R node q p

      at : goes_on q p S ≡ true → (o : Option Item) → last (page q p S) ≡ o
          → IfSome (option_map (raw_position q p) o) (IsNext q)
      at on None e = tt
      at on (Some x) e =
          let tests = and_parts (nat_lt (page_size q p) (length S)) (not (is_spent q p)) on in
          let unspent : is_spent q p ≡ false = grind (arith, nat_tests, tests.1) in (
            last_within (λ t. first_time ≤ℤ t) (λ t h. h.0) (origin_late given) x on e,
            tt,
            and_from _ _ (ap not plain) (given_lawful q p unspent),
          )

      go : (b : Bool) → goes_on q p S ≡ b
          → IfSome (cond b (option_map (raw_position q p) (last (page q p S))) None) (IsNext q)
      go false e = tt
      go true e = at e (last (page q p S)) refl

  -- ---- modifications

  pub record IsLate (e : Entry) : Type 0 where
    pub time : IsTime e.time
    pub low : pos 1 ≤ℤ e.tick
    pub high : e.tick ≤ℤ pos greatest
    pub origin : IsReplica e.origin

  entry_late : (before : Option Record) (rs : List Record) (e : Entry)
      → ((r : Record) → Has rs r → Has R r) → Has (entries_after before rs) e → IsLate e
  entry_late before [] e all h = absurd h
  entry_late before (r ∷ rs) e all h = elim h [
    | inl same ↦
        let there = all r (inl refl) in
        let ticks = lawful.closed.ticks r there in
        subst IsLate same
        (record {
          time = record_time R r lawful there;
          low = ticks.0;
          high = ticks.1;
          origin =
              (lawful.records r there).origin;
        })
    | inr k ↦ entry_late (Some r) rs e (λ s i. all s (inr i)) k
  ]

  log_late : (e : Entry) → Has (log R node) e → IsLate e
  log_late e h =
      let t = has_from_flat_map (λ t. reverse (modifications_at R node t)) (times R node) e h in
      entry_late None (versions R node t.0) e (λ r i. ((story_has R node t.0 r).0 i).0)
      (has_from_reverse (modifications_at R node t.0) e t.2)

  modified_late : (e : Entry) → Has (modified R node q p) e → IsLate e
  modified_late e h =
      let one = (has_from_filter (follows (direction q) (place_at p)) _ e h).0 in
      let two = (has_from_filter (λ (x : Entry). in_body q x.time)
      (in_direction (direction q) (log R node)) e one).0 in
      log_late e ((has-in_direction (direction q) (log R node) e).0 two)

  pub modified_next_lawful : q.is_read_modified ≡ true
      → IfSome (next_place (modified_position q p) q p (modified R node q p)) (IsNext q)
  modified_next_lawful asked = go (goes_on q p (modified R node q p)) refl
    where
      S : List Entry
      S = modified R node q p

      at : goes_on q p S ≡ true → (o : Option Entry) → last (page q p S) ≡ o
          → IfSome (option_map (modified_position q p) o) (IsNext q)
      at on None e = tt
      at on (Some x) e =
          let tests = and_parts (nat_lt (page_size q p) (length S)) (not (is_spent q p)) on in
          let unspent : is_spent q p ≡ false = grind (arith, nat_tests, tests.1) in
          let late = modified_late x (has_take (page_size q p) S x
          (has_from_get (page q p S) _ x e)) in (
            late.time.0,
            (late.low, late.high, late.origin),
            and_from _ _ asked (given_lawful q p unspent),
          )

      go : (b : Bool) → goes_on q p S ≡ b
          → IfSome (cond b (option_map (modified_position q p) (last (page q p S))) None) (IsNext q)
      go false e = tt
      go true e = at e (last (page q p S)) refl

  pub modified_within : IfSome (next_place (modified_position q p) q p (modified R node q p))
      (λ next. next.time ≤ℤ greatest_time)
  modified_within = go (goes_on q p (modified R node q p)) refl
    where
      at : (o : Option Entry) → last (page q p (modified R node q p)) ≡ o
          → IfSome (option_map (modified_position q p) o) (λ next. next.time ≤ℤ greatest_time)
      at None e = tt
      at (Some x) e = (modified_late x (has_take (page_size q p) (modified R node q p) x
          (has_from_get (page q p (modified R node q p)) _ x e))).time.1

      go : (b : Bool) → goes_on q p (modified R node q p) ≡ b
          → IfSome (cond b (option_map (modified_position q p)
          (last (page q p (modified R node q p)))) None) (λ next. next.time ≤ℤ greatest_time)
      go false e = tt
      go true e = at (last (page q p (modified R node q p))) refl
