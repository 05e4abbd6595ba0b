-- What the rows of currents2 stand for: the live values of a node.
use Rattle.std.proofs.Common.{◌≡◌, ℕ, ℤ, pos, ◌≤◌, ◌≤ℤ◌, Bool, true, false, not, ◌&&◌, ◌||◌, cond, nat_lt, length, lt-ltb, ◌↔◌, List, [], ◌∷◌, map, filter, take, is_some, Option, Some, None, Ok, refl, sym, ap, ap₂, subst, ◌∙◌, inl, inr, ◌⊎◌, arith, append-nil, Ordering, Less, Equal, Greater, is_eq, is_gt, is_lt, IsPermutation, zero, suc}
use Rattle.std.specs.List.{flat_map, cons_option, list_any}
use Rattle.std.specs.Cmp.{IsTotalOrder}
use Rattle.std.specs.Bool.{one_answer}
use Rattle.std.specs.Ordering.{int_cmp, int_eq, nat_cmp, on, ordering_then, ordering_reverse, is_ge, is_le, is_ne}
use Rattle.std.proofs.lemmas.Cmp.{on_total, then_total, tied_itself}
use Rattle.std.proofs.lemmas.Bool.{true≢false, and_parts, and_from, cases_lt, cases_Bool}
use Rattle.std.proofs.lemmas.Bool.Decides.{nat_tests, Decides-int_eq}
use Rattle.std.proofs.lemmas.Int.{ints}
use Rattle.std.proofs.lemmas.List.Sorted.{IsPermutation-trans}
use Rattle.ua_binary.specs.Binary.{node_id, IsNodeId}
use Rattle.ua_binary.specs.declared.values.NodeId.{NodeId}
use Rattle.ua_variant.specs.DataValue.{data_value, IsDataValue}
use Rattle.ua_variant.specs.declared.data.DataValue.{DataValue}
use Rattle.ua_variant.specs.declared.update_type.HistoryUpdateType.{HistoryUpdateType}
use Rattle.ua_variant.specs.declared.update_type.HistoryUpdateType.TheVariants.{Insert, Replace, Update, Delete}
use Rattle.ua_variant.specs.UpdateType.{update_number}
use Rattle.ua_variant.proofs.Masks.{data_value_lawful}
use Rattle.sqlite_value.specs.Order.{Row, column, value_cmp}
use Rattle.sqlite_value.specs.declared.value.Value.TheVariants.{Int, Blob as Bytes}
use Rattle.sqlite_value.specs.declared.keys.Collation.TheVariants.{Binary}
use Rattle.sqlite_value.proofs.OrderLemmas.{value_cmp_total, value_cmp-Int}
use Rattle.sqlite_sql.specs.Query.{limited}
use Rattle.sqlite_sql.specs.Ops.{binary, is_true, from_truth}
use Rattle.sqlite_sql.specs.declared.ops.BinaryOp.TheVariants.{Compare, Or}
use Rattle.sqlite_sql.specs.declared.ops.CompareOp.TheVariants.{Ne, Gt, Ge, Lt, Le}
use Rattle.sqlite_trees.specs.Tree.{Trees}
use Rattle.sqlite_keyed.proofs.ListLemmas.{any_from_none, filter-map, filter_all}
use Rattle.records.specs.Lists.{Has, Rises, IsApart, IsPairwise, sort_by, last}
use Rattle.records.specs.Same.{same_node}
use Rattle.records.proofs.SameParts.{node_code}
use Rattle.records.specs.Records as told
use Rattle.records.proofs.ContentsParts.{held_of}
use Rattle.records.specs.Contents.{Content, cut, vec, IsLatest, HasOther}
use Rattle.records.specs.Moments.{moment, ticks_of, pico_of, whole_again, pico_within}
use Rattle.records.specs.declared.record.Record.{Record}
use Rattle.records.specs.declared.shown.Held.{Held}
use Rattle.records.proofs.Same.{Decides-is_same}
use Rattle.records.proofs.Orders.{stamp_total}
use Rattle.records.proofs.ContentLemmas.{vec_bounds, vec_attained}
use Rattle.records.proofs.GreatestLemmas.{last_of_last}
use Rattle.records.proofs.CloseLemmas.{closed_stamps}
use Rattle.records.proofs.FoundLemmas.{last_more}
use Rattle.records.proofs.Moments.{in_order}
use Rattle.records.proofs.LatestLemmas.{latest_last, latest_written, story_rises, story_has}
use Rattle.records.proofs.Sorting.{all-has, all_from_has, has-filter, has_from_filter, has-sort_by, has_from_sort_by, rises-sort_by, pairwise-filter, same_members, asymmetric, irreflexive}
use Rattle.archive.specs.Reading.{times, in_direction, is_past}
use Rattle.archive.specs.Store.{IsLawfulContent}
use Rattle.archive.specs.declared.reading.Direction.{Direction}
use Rattle.archive.specs.declared.reading.Direction.TheVariants.{Forward, Backward}
use Rattle.archive.proofs.Turning.{has-map, has_from_map, has-in_direction, pairwise-map}
use Rattle.archive.proofs.Timing.{times_rise, has_from_get}
use Rattle.sql_tables.specs.Words.{cells, IsPage, holds_either}
use Rattle.sql_tables.specs.Rows.{row_of, content_in, IsFilled, AreRecords}
use Rattle.sql_reading.specs.Tables.{current_row, last_row, AreCurrents, AreLasts}
use Rattle.sql_tables.proofs.KeptLemmas.{newer_is, not_above, is_above as is_above_number, same_origins}
use Rattle.sql_tables.specs.Derived.{same, is_later, is_other, is_newer, last_of, vectors_of, vector_columns, flag, int_in, current_of, currents_of, current_columns, AreKept}
use Rattle.sql_tables.specs.Currents.{is_live_after, is_live_before, current_order, AreNextCurrents, ShowValues, value_columns, values_in, helds_in}
use Rattle.sql_reading.specs.Walking.{moment_at, IsStartPlace, stretch, values_at}
use Rattle.sql_tables.proofs.QueryLemmas.{equals}
use Rattle.sql_tables.proofs.RowLemmas.{each_record, content_is}
use Rattle.sql_reading.proofs.StoryLemmas.{same_moment, nodes_as, numbers_cmp, filter_as}
use Rattle.sql_tables.proofs.DerivedLemmas.{currents_permuted, vectors_permuted}
use Rattle.sql_reading.proofs.WalkLemmas.{along, along_total, turned_total, turned_rise}
use Rattle.sql_reading.proofs.PageLemmas.{page_of, from_some, truly, compared, either_of, first_of, after_by, before_by, time_there}
use Rattle.sql_reading.proofs.RangeLemmas.{flat_map-filter}

-- ---- lists

twice : {X Y Z : Type 0} (f : Y → Z) (g : X → Y) (xs : List X)
    → map f (map g xs) ≡ map (λ x. f (g x)) xs
twice f g [] = refl
twice f g (x ∷ xs) = ap (λ l. f (g x) ∷ l) (twice f g xs)

any_as : {X Y : Type 0} (p : Y → Bool) (q : X → Bool) (f : X → Y) (xs : List X)
    → ((x : X) → Has xs x → p (f x) ≡ q x) → list_any p (map f xs) ≡ list_any q xs
any_as p q f [] each = refl
any_as p q f (x ∷ xs) each = ap₂ ◌||◌ (each x (inl refl)) (any_as p q f xs (λ z h. each z (inr h)))

any_none : {X : Type 0} (p : X → Bool) (xs : List X) (x : X) → list_any p xs ≡ false → Has xs x
    → p x ≡ false
any_none p [] x none h = absurd h
any_none p (y ∷ ys) x none h = elim h [
  | inl e ↦
      subst (λ z. p z ≡ false) e (first_none (p y) (list_any p ys) none)
  | inr k ↦
      any_none p ys x (rest_none (p y) (list_any p ys) none) k
]
  where
    first_none : (a b : Bool) → (a || b) ≡ false → a ≡ false
    first_none true b e = e
    first_none false b e = refl

    rest_none : (a b : Bool) → (a || b) ≡ false → b ≡ false
    rest_none true b e = absurd (true≢false e)
    rest_none false b e = e

any_there : {X : Type 0} (p : X → Bool) (xs : List X) → list_any p xs ≡ true
    → (x : X) × Has xs x × (p x ≡ true)
any_there p [] some = absurd (true≢false (sym some))
any_there {X} p (y ∷ ys) some = go (p y) refl (any_there p ys) some
  where
    go : (b : Bool) → p y ≡ b → (list_any p ys ≡ true → (x : X) × Has ys x × (p x ≡ true))
        → (b || list_any p ys) ≡ true → (x : X) × Has (y ∷ ys) x × (p x ≡ true)
    go true e rest n = (y, inl refl, e)
    go false e rest n = let more = rest n in (more.0, inr more.1, more.2)

there_any : {X : Type 0} (p : X → Bool) (xs : List X) (x : X) → Has xs x → p x ≡ true
    → list_any p xs ≡ true
there_any p [] x h e = absurd h
there_any p (y ∷ ys) x h e = elim h [
  | inl same_one ↦
      first (p y) (subst (λ z. p z ≡ true) (sym same_one) e)
  | inr k ↦
      more (p y) (there_any p ys x k e)
]
  where
    first : (b : Bool) → b ≡ true → (b || list_any p ys) ≡ true
    first true e = refl
    first false e = absurd (true≢false (sym e))

    more : (b : Bool) → list_any p ys ≡ true → (b || list_any p ys) ≡ true
    more true e = refl
    more false e = e

pairwise_in : {X : Type 0} (P Q : X → X → Type 0) (xs : List X)
    → ((x y : X) → Has xs x → Has xs y → P x y → Q x y) → IsPairwise P xs → IsPairwise Q xs
pairwise_in P Q [] go h = tt
pairwise_in P Q (x ∷ xs) go h = (
  all_from_has (Q x) xs
      (λ y k. go x y (inl refl) (inr k) (all-has (P x) xs y h.0 k)),
  pairwise_in P Q xs (λ y z k m. go y z (inr k) (inr m)) h.1,
)

-- ---- of a list of which no two tie

untie : {X : Type 0} (cmp : X → X → Ordering) → IsTotalOrder cmp → (xs : List X) → IsApart cmp xs
    → (a b : X) → Has xs a → Has xs b → is_eq (cmp a b) ≡ true → a ≡ b
untie cmp total [] apart a b h k e = absurd h
untie cmp total (x ∷ xs) apart a b h k e =
    elim h [
      | inl p ↦ elim k [
        | inl q ↦ sym p ∙ q
        | inr m ↦
            absurd (true≢false (sym (subst (λ z. is_eq (cmp z b) ≡ true) (sym p) e)
            ∙ all-has (λ z. is_eq (cmp x z) ≡ false) xs b apart.0 m))
      ]
      | inr n ↦ elim k [
        | inl q ↦ absurd (true≢false (sym (turned (subst (λ z. is_eq (cmp a z) ≡ true) (sym q) e))
            ∙ all-has (λ z. is_eq (cmp x z) ≡ false) xs a apart.0 n))
        | inr m ↦ untie cmp total xs apart.1 a b n m e
      ]
    ]
  where
    back : (o : Ordering) → is_eq o ≡ true → is_eq (ordering_reverse o) ≡ true
    back Less e = e
    back Equal e = e
    back Greater e = e

    turned : is_eq (cmp a x) ≡ true → is_eq (cmp x a) ≡ true
    turned same_one = ap is_eq (total.antisymm x a) ∙ back (cmp a x) same_one

-- the last element of a list that rises is the greatest
last_greatest : (xs : List Record) (r : Record) → Rises told.record_stamp_cmp xs → last xs ≡ Some r
    → (s : Record) → Has xs s → (s ≡ r) ⊎ (told.record_stamp_cmp s r ≡ Less)
last_greatest [] r up e s h = absurd h
last_greatest (x ∷ []) r up e s h = elim h [
  | inl p ↦ inl (sym p ∙ some_is x r e)
  | inr k ↦
      absurd k
]
  where
    some_is : (a b : Record) → last (a ∷ []) ≡ Some b → a ≡ b
    some_is a b e = cc
last_greatest (x ∷ y ∷ xs) r up e s h =
    let more = sym (last_more x y xs) ∙ e in
    elim h [
      | inl p ↦ inr (subst (λ z. told.record_stamp_cmp z r ≡ Less) p
          (all-has (λ z. told.record_stamp_cmp x z ≡ Less) (y ∷ xs) r up.0
          (has_from_get (y ∷ xs) _ r more)))
      | inr k ↦ last_greatest (y ∷ xs) r up.1 more s k
    ]

-- ---- as SQL compares

-- the second record is of the first one's node and time, and its stamp is later
abbrev pub is_above : Record → Record → Bool
is_above r s = told.is_at r.node r.time s && is_lt (told.record_stamp_cmp r s)

-- it is of that node and time, and its stamp is another
abbrev pub is_another : Record → Record → Bool
is_another r s = told.is_at r.node r.time s && not (is_eq (told.record_stamp_cmp r s))

regroup : (a b c d : Bool) → (a && (b && (c && d))) ≡ ((a && (b && c)) && d)
regroup true true c d = refl
regroup true false c d = refl
regroup false b c d = refl

at_as : (r s : Record) → IsNodeId r.node → IsNodeId s.node → (c : Bool)
    → (same (column (row_of s) 3) (column (row_of r) 3)
    && (same (column (row_of s) 4) (column (row_of r) 4)
    && (same (column (row_of s) 5) (column (row_of r) 5) && c))) ≡ (told.is_at r.node r.time s && c)
at_as r s p q c =
    ap₂ ◌&&◌ (equals (Bytes (node_id.canon s.node)) (Bytes (node_id.canon r.node)) refl
    ∙ nodes_as r.node s p q)
    (ap₂ ◌&&◌ (equals (Int (ticks_of s.time)) (Int (ticks_of r.time)) refl
    ∙ ap is_eq (value_cmp-Int (ticks_of s.time) (ticks_of r.time)))
    (ap (λ b. b && c) (equals (Int (pos (pico_of s.time))) (Int (pos (pico_of r.time))) refl
    ∙ ap is_eq (value_cmp-Int (pos (pico_of s.time)) (pos (pico_of r.time))))))
    ∙ (regroup (same_node s.node r.node) (int_eq (ticks_of s.time) (ticks_of r.time))
    (int_eq (pos (pico_of s.time)) (pos (pico_of r.time))) c
    ∙ ap (λ b. (same_node s.node r.node && b) && c) (same_moment s.time r.time))

later_by : (a b : ℤ) (m n : ℕ) → (is_ge (int_cmp a b)
    && (is_gt (int_cmp a b) || is_gt (int_cmp (pos m) (pos n))))
    ≡ is_lt (ordering_then (int_cmp b a) (nat_cmp n m))
later_by a b m n = grind (arith, nat_tests, ints)

other_by : (a b : ℤ) (m n : ℕ) → (is_ne (int_cmp a b) || is_ne (int_cmp (pos m) (pos n)))
    ≡ not (is_eq (ordering_then (int_cmp b a) (nat_cmp n m)))
other_by a b m n = grind (arith, nat_tests, ints)

later_as : (r s : Record) → IsNodeId r.node → IsNodeId s.node
    → is_later (row_of r) (row_of s) ≡ is_above r s
later_as r s p q =
    at_as r s p q _
    ∙ ap (λ b. told.is_at r.node r.time s
    && b) (ap₂ ◌&&◌ (ap is_true (compared Ge s.tick r.tick) ∙ truly _)
    (ap is_true (ap₂ (binary Or) (compared Gt s.tick r.tick)
    (compared Gt (pos s.origin) (pos r.origin))) ∙ either_of _ _)
    ∙ later_by s.tick r.tick s.origin r.origin)

other_as : (r s : Record) → IsNodeId r.node → IsNodeId s.node
    → is_other (row_of r) (row_of s) ≡ is_another r s
other_as r s p q =
    at_as r s p q _
    ∙ ap (λ b. told.is_at r.node r.time s
    && b) (ap is_true (ap₂ (binary Or) (compared Ne s.tick r.tick)
    (compared Ne (pos s.origin) (pos r.origin)))
    ∙ (either_of _ _ ∙ other_by s.tick r.tick s.origin r.origin))

live_as : (asked : HistoryUpdateType)
    → is_eq (value_cmp (binary (Compare Ne Binary) (Int (pos (update_number asked))) (Int (pos 4)))
    (Int (pos 1))) ≡ not (told.is_delete asked)
live_as asked = ap (λ v. is_eq (value_cmp v (Int (pos 1))))
    (compared Ne (pos (update_number asked)) (pos 4)) ∙ each asked
  where
    each : (a : HistoryUpdateType)
        → is_eq (value_cmp (from_truth (Some (is_ne (int_cmp (pos (update_number a)) (pos 4)))))
        (Int (pos 1))) ≡ not (told.is_delete a)
    each Insert = ap is_eq (value_cmp-Int (pos 1) (pos 1))
    each Replace = ap is_eq (value_cmp-Int (pos 1) (pos 1))
    each Update = ap is_eq (value_cmp-Int (pos 1) (pos 1))
    each Delete = ap is_eq (value_cmp-Int (pos 0) (pos 1))

up_to : (a t p q : ℤ) → pos 0 ≤ℤ p → p ≤ℤ pos 9999 → pos 0 ≤ℤ q → q ≤ℤ pos 9999
    → (is_le (int_cmp a t) && (is_lt (int_cmp a t) || is_le (int_cmp p q)))
    ≡ not (is_past Forward (moment_at t q) (moment_at a p))
up_to a t p q low high least most = grind (arith, nat_tests, ints)

down_to : (a t p q : ℤ) → pos 0 ≤ℤ p → p ≤ℤ pos 9999 → pos 0 ≤ℤ q → q ≤ℤ pos 9999
    → (is_ge (int_cmp a t) && (is_gt (int_cmp a t) || is_ge (int_cmp p q)))
    ≡ not (is_past Backward (moment_at t q) (moment_at a p))
down_to a t p q low high least most = grind (arith, nat_tests, ints)

-- ---- the records that the rows stand for

regroup_five : (a b c d e f : Bool)
    → (a && (b && (c && (d && (e && f))))) ≡ (a && (((b && c) && (d && e)) && f))
regroup_five true true true true e f = refl
regroup_five true true true false e f = refl
regroup_five true true false d e f = refl
regroup_five true false c d e f = refl
regroup_five false b c d e f = refl

-- a write of the node, beyond a place and up to a far time
abbrev shows : Direction → NodeId → ℤ → ℤ → Record → Bool
shows d node place far r = same_node r.node node
    && ((is_past d place r.time && not (is_past d far r.time)) && not (told.is_delete r.asked))

abbrev time_of : Record → ℤ
time_of r = r.time

-- by time, in the direction
abbrev by_time : Direction → Record → Record → Ordering
by_time d = on time_of (along d)

by_time_total : (d : Direction) → IsTotalOrder (by_time d)
by_time_total d = on_total time_of (along_total d)

current_order_total : IsTotalOrder current_order
current_order_total = then_total (on_total (λ c. column c 1) value_cmp_total)
    (on_total (λ c. column c 2) value_cmp_total)

moments_cmp : (s t : ℤ) → ordering_then (value_cmp (Int (ticks_of s)) (Int (ticks_of t)))
    (value_cmp (Int (pos (pico_of s))) (Int (pos (pico_of t)))) ≡ int_cmp s t
moments_cmp s t =
    ap₂ ordering_then (value_cmp-Int (ticks_of s) (ticks_of t))
    (value_cmp-Int (pos (pico_of s)) (pos (pico_of t)) ∙ numbers_cmp (pico_of s) (pico_of t))
    ∙ (in_order (ticks_of s) (ticks_of t) (pico_of s) (pico_of t) (pico_within s) (pico_within t)
    ∙ ap₂ int_cmp (whole_again s) (whole_again t))

held_live : (extra : Bool) (o : Option Record) (h : Held) → held_of extra (told.write o) ≡ Some h
    → (r : Record) × (o ≡ Some r) × (told.is_delete r.asked ≡ false)
held_live extra None h e = cc
held_live extra (Some r) h e = go (told.is_delete r.asked) refl e
  where
    go : (b : Bool) → told.is_delete r.asked ≡ b → held_of extra (cond b None (Some r)) ≡ Some h
        → (s : Record) × (Some r ≡ Some s) × (told.is_delete s.asked ≡ false)
    go true d k = cc
    go false d k = (r, refl, d)

held_is : (h : Held) (t : ℤ) (v : DataValue) (e : Bool) → h.time ≡ t → h.value ≡ v → h.extra ≡ e
    → h ≡ record { time = t; value = v; extra = e }
held_is h t v e p q r = rw (sym p, sym q, sym r) refl

pub read_value : (v : DataValue) → IsDataValue v → data_value.read (data_value.canon v) ≡ Ok (v, [])
unfolding data_value
read_value v h = subst (λ bs. data_value.read bs ≡ Ok (v, [])) (append-nil (data_value.canon v))
    (data_value_lawful.only (data_value.canon v) v [] (data_value_lawful.written v h))

module _ (R : Content) (l : IsLawfulContent R) where
  apart : IsApart told.record_stamp_cmp R
  apart = closed_stamps R l.closed

  own_node : (r : Record) → Has R r → IsNodeId r.node
  own_node r h = (each_record R l r h).0.node

  -- no record of its node and time is later
  abbrev is_top : Record → Bool
  is_top r = not (list_any (is_above r) R)

  abbrev tops : List Record
  tops = filter is_top R

  abbrev row : Record → Row
  row r = current_of (map row_of R) (row_of r)

  rows_are : currents_of (map row_of R) ≡ map row tops
  rows_are =
      ap (map (current_of (map row_of R))) (filter-map
      (λ c. not (list_any (is_later c) (map row_of R))) row_of R
      ∙ ap (map row_of) (filter_as _ is_top R
      (λ r h. ap not (any_as (is_later (row_of r)) (is_above r) row_of R
      (λ s k. later_as r s (own_node r h) (own_node s k))))))
      ∙ twice (current_of (map row_of R)) row_of tops

  latest_of : (r : Record) → Has R r → is_top r ≡ true → IsLatest R r
  latest_of r h top = record {
    there = h;
    above =
        λ s k node time. below s k (told.record_stamp_cmp r s) refl (off s k node time);
  }
    where
      off : (s : Record) → Has R s → s.node ≡ r.node → s.time ≡ r.time
          → is_lt (told.record_stamp_cmp r s) ≡ false
      off s k node time =
          subst (λ b. (b && is_lt (told.record_stamp_cmp r s)) ≡ false)
          (and_from (same_node s.node r.node) (int_eq s.time r.time)
          ((Decides-is_same node_code s.node r.node).1 node)
          ((Decides-int_eq s.time r.time).1 time))
          (any_none (is_above r) R s (flipped (list_any (is_above r) R) top) k)
        where
          flipped : (b : Bool) → not b ≡ true → b ≡ false
          flipped true e = absurd (true≢false (sym e))
          flipped false e = refl

      below : (s : Record) → Has R s → (o : Ordering) → told.record_stamp_cmp r s ≡ o
          → is_lt (told.record_stamp_cmp r s) ≡ false → (s ≡ r) ⊎ (told.record_stamp_cmp s r ≡ Less)
      below s k Less e n = absurd (true≢false (sym (ap is_lt e) ∙ n))
      below s k Equal e n = inl (sym
          (untie told.record_stamp_cmp stamp_total R apart r s h k (ap is_eq e)))
      below s k Greater e n = inr (stamp_total.antisymm s r ∙ ap ordering_reverse e)

  top_of : (r : Record) → IsLatest R r → is_top r ≡ true
  top_of r latest = ap not (any_from_none (is_above r) R
      (all_from_has (λ s. is_above r s ≡ false) R none))
    where
      go : (s : Record) → Has R s → (a b : Bool) → told.is_at r.node r.time s ≡ a
          → is_lt (told.record_stamp_cmp r s) ≡ b → (a && b) ≡ false
      go s h true true p q =
          let parts = and_parts (same_node s.node r.node) (int_eq s.time r.time) p in
          let less : told.record_stamp_cmp r s ≡ Less = is_less (told.record_stamp_cmp r s) q in
          elim (latest.above s h ((Decides-is_same node_code s.node r.node).0 parts.0)
          ((Decides-int_eq s.time r.time).0 parts.1)) [
            | inl e ↦ absurd (irreflexive told.record_stamp_cmp stamp_total r
                (subst (λ z. told.record_stamp_cmp r z ≡ Less) e less))
            | inr k ↦ absurd (asymmetric told.record_stamp_cmp stamp_total r s less k)
          ]
        where
          is_less : (o : Ordering) → is_lt o ≡ true → o ≡ Less
          is_less Less e = refl
          is_less Equal e = absurd (true≢false (sym e))
          is_less Greater e = absurd (true≢false (sym e))
      go s h true false p q = refl
      go s h false b p q = refl

      none : (s : Record) → Has R s → is_above r s ≡ false
      none s h = go s h (told.is_at r.node r.time s) (is_lt (told.record_stamp_cmp r s)) refl refl

  -- whether others stand at a record's node and time
  other_is : (r : Record) → Has R r
      → (list_any (is_another r) R ≡ true → HasOther R r)
      × (HasOther R r → list_any (is_another r) R ≡ true)
  other_is r h = (
    λ some.
        let s = any_there (is_another r) R some in
        let parts = and_parts (told.is_at r.node r.time s.0)
        (not (is_eq (told.record_stamp_cmp r s.0))) s.2 in
        let place = and_parts (same_node s.0.node r.node) (int_eq s.0.time r.time) parts.0 in (
          s.0,
          s.1,
          (Decides-is_same node_code s.0.node r.node).0 place.0,
          (Decides-int_eq s.0.time r.time).0 place.1,
          λ e. true≢false (sym parts.1
              ∙ ap not (subst (λ z. is_eq (told.record_stamp_cmp r z) ≡ true) (sym e) (tied r))),
        ),
    λ o.
        there_any (is_another r) R o.0 o.1
        (and_from (told.is_at r.node r.time o.0) (not (is_eq (told.record_stamp_cmp r o.0)))
        (and_from (same_node o.0.node r.node) (int_eq o.0.time r.time)
        ((Decides-is_same node_code o.0.node r.node).1 o.2)
        ((Decides-int_eq o.0.time r.time).1 o.3))
        (apart_yes o.0 o.1 o.4 (is_eq (told.record_stamp_cmp r o.0)) refl)),
  )
    where
      tied : (z : Record) → is_eq (told.record_stamp_cmp z z) ≡ true
      tied z = ap is_eq (tied_itself stamp_total z)

      apart_yes : (s : Record) → Has R s → (s ≡ r → ⊥) → (b : Bool)
          → is_eq (told.record_stamp_cmp r s) ≡ b → not b ≡ true
      apart_yes s k no_same true e =
          absurd (no_same (sym (untie told.record_stamp_cmp stamp_total R apart r s h k e)))
      apart_yes s k no_same false e = refl

  extra_as : (r : Record) → Has R r
      → list_any (is_other (row_of r)) (map row_of R) ≡ list_any (is_another r) R
  extra_as r h = any_as (is_other (row_of r)) (is_another r) row_of R
      (λ s k. other_as r s (own_node r h) (own_node s k))

  -- the live value of a record that is the latest of its node and time
  abbrev shown : Record → Held
  shown r = record {
    time = r.time;
    value = r.value;
    extra =
        list_any (is_other (row_of r)) (map row_of R);
  }

  current_is : (r : Record) → Has R r → is_top r ≡ true → told.is_delete r.asked ≡ false
      → told.live_value R r.node r.time ≡ Some (shown r)
  current_is r h top live =
      let w = latest_written R r apart (latest_of r h top) live in
      let same_extra : w.0.extra ≡ list_any (is_other (row_of r)) (map row_of R) =
      one_answer w.0.extra (list_any (is_another r) R) w.4 (other_is r h)
      ∙ sym (extra_as r h) in
      w.1 ∙ ap Some (held_is w.0 r.time r.value
      (list_any (is_other (row_of r)) (map row_of R)) w.3 w.2 same_extra)

  -- what its row shows
  row_shows : (r : Record) → Has R r → helds_in (value_columns (row r)) ≡ shown r ∷ []
  row_shows r h =
      ap (map made) (ap values_in (read_value r.value (each_record R l r h).0.value))
      ∙ ap₂ (λ t e. record { time = t; value = r.value; extra = e } ∷ []) (whole_again r.time)
      (marked (list_any (is_other (row_of r)) (map row_of R)))
    where
      made : DataValue → Held
      made v = record {
        time = moment (ticks_of r.time) (pico_of r.time);
        value = v;
        extra =
            not (int_eq (int_in (flag (list_any (is_other (row_of r)) (map row_of R)))) (pos 0));
      }

      marked : (b : Bool) → not (int_eq (int_in (flag b)) (pos 0)) ≡ b
      marked true = refl
      marked false = refl

  module _ (node : NodeId) (d : Direction) (place far : ℤ) where
    abbrev here : List Record
    here = filter (shows d node place far) tops

    abbrev inside : List Record
    inside = sort_by (by_time d) here

    -- one of them, in parts
    record IsInside (r : Record) : Type 0 where
      pub there : Has R r
      pub top : is_top r ≡ true
      pub own : r.node ≡ node
      pub past : is_past d place r.time ≡ true
      pub within : not (is_past d far r.time) ≡ true
      pub live : told.is_delete r.asked ≡ false

    in_here : (r : Record) → Has here r → IsInside r
    in_here r h =
        let p = has_from_filter (shows d node place far) tops r h in
        let q = has_from_filter is_top R r p.0 in
        let first = and_parts (same_node r.node node) _ p.1 in
        let second = and_parts (is_past d place r.time && not (is_past d far r.time))
        (not (told.is_delete r.asked)) first.1 in
        let third = and_parts (is_past d place r.time) (not (is_past d far r.time)) second.0 in
        record {
          there = q.0;
          top = q.1;
          own =
              (Decides-is_same node_code r.node node).0 first.0;
          past = third.0;
          within =
              third.1;
          live = flipped (told.is_delete r.asked) second.1;
        }
      where
        flipped : (b : Bool) → not b ≡ true → b ≡ false
        flipped true e = absurd (true≢false (sym e))
        flipped false e = refl

    to_here : (r : Record) → IsInside r → Has here r
    to_here r i =
        has-filter (shows d node place far) tops r (has-filter is_top R r i.there i.top)
        (and_from (same_node r.node node) ((is_past d place r.time && not (is_past d far r.time))
        && not (told.is_delete r.asked)) ((Decides-is_same node_code r.node node).1 i.own)
        (and_from (is_past d place r.time && not (is_past d far r.time))
        (not (told.is_delete r.asked)) (and_from (is_past d place r.time)
        (not (is_past d far r.time)) i.past i.within) (ap not i.live)))

    -- no two of them have one time
    times_apart : IsApart (by_time d) here
    times_apart = pairwise_in (λ a b. is_eq (told.record_stamp_cmp a b) ≡ false)
        (λ a b. is_eq (by_time d a b) ≡ false) here
        (λ a b h k e. go a b (in_here a h) (in_here b k) e (along d a.time b.time) refl)
        (pairwise-filter _ (shows d node place far) tops (pairwise-filter _ is_top R apart))
      where
        equal_times : (way : Direction) (s t : ℤ) → along way s t ≡ Equal → s ≡ t
        equal_times Forward s t e = grind (arith, nat_tests, ints)
        equal_times Backward s t e = grind (arith, nat_tests, ints)

        go : (a b : Record) → IsInside a → IsInside b → is_eq (told.record_stamp_cmp a b) ≡ false
            → (o : Ordering) → along d a.time b.time ≡ o → is_eq o ≡ false
        go a b i j e Less p = refl
        go a b i j e Greater p = refl
        go a b i j e Equal p =
            let same_time = equal_times d a.time b.time p in
            let up = (latest_of a i.there i.top).above b j.there (j.own ∙ sym i.own)
            (sym same_time) in
            let down = (latest_of b j.there j.top).above a i.there (i.own ∙ sym j.own) same_time in
            let tie : a ≡ b → ⊥ = λ q. true≢false (sym (ap is_eq (tied_itself stamp_total a))
            ∙ subst (λ z. is_eq (told.record_stamp_cmp a z) ≡ false) (sym q) e) in
            absurd (elim up [
              | inl q ↦ tie (sym q)
              | inr s ↦
                  elim down [
                    | inl q ↦ tie q
                    | inr t ↦
                        asymmetric told.record_stamp_cmp stamp_total a b t s
                  ]
            ])

    has_inside : (r : Record) → Has inside r → IsInside r
    has_inside r h = in_here r (has_from_sort_by (by_time d) (by_time_total d) here r h)

    abbrev stretch_here : List ℤ
    stretch_here = stretch d place far (times R node)

    abbrev is_live : ℤ → Bool
    is_live t = is_some (told.live_value R node t)

    to_stretch : (t : ℤ) → Has (times R node) t → is_past d place t ≡ true
        → not (is_past d far t) ≡ true → Has stretch_here t
    to_stretch t h p q = has-filter (λ u. not (is_past d far u)) _ t
        (has-filter (is_past d place) (in_direction d (times R node)) t
        ((has-in_direction d (times R node) t).1 h) p) q

    -- their times are those of the stretch at which something is live
    times_are : map time_of inside ≡ filter is_live stretch_here
    times_are =
        same_members (along d) (along_total d) (map time_of inside) (filter is_live stretch_here)
        (pairwise-map (λ a b. by_time d a b ≡ Less) (λ s t. along d s t ≡ Less) time_of
        (λ a b e. e) inside (rises-sort_by (by_time d) (by_time_total d) here times_apart))
        (pairwise-filter (λ s t. along d s t ≡ Less) is_live stretch_here
        (pairwise-filter (λ s t. along d s t ≡ Less) (λ u. not (is_past d far u)) _
        (pairwise-filter (λ s t. along d s t ≡ Less) (is_past d place)
        (in_direction d (times R node)) (turned_rise d (times R node) (times_rise R node)))))
        forth back
      where
        forth : (t : ℤ) → Has (map time_of inside) t → Has (filter is_live stretch_here) t
        forth t h =
            let r = has_from_map time_of inside t h in
            let i = has_inside r.0 r.1 in
            let now = subst (λ n. told.live_value R n r.0.time ≡ Some (shown r.0)) i.own
            (current_is r.0 i.there i.top i.live) in
            subst (Has (filter is_live stretch_here)) r.2
            (has-filter is_live stretch_here r.0.time
            (to_stretch r.0.time (time_there R node r.0 i.there
            ((Decides-is_same node_code r.0.node node).1 i.own)) i.past i.within)
            (ap is_some now))

        back : (t : ℤ) → Has (filter is_live stretch_here) t → Has (map time_of inside) t
        back t h =
            let p = has_from_filter is_live stretch_here t h in
            let q = has_from_filter (λ u. not (is_past d far u))
            (filter (is_past d place) (in_direction d (times R node))) t p.0 in
            let s = has_from_filter (is_past d place) (in_direction d (times R node)) t q.0 in
            go (told.live_value R node t) refl p.1 s.1 q.1
          where
            go : (o : Option Held) → told.live_value R node t ≡ o → is_some o ≡ true
                → is_past d place t ≡ true → not (is_past d far t) ≡ true
                → Has (map time_of inside) t
            go None e some past within = absurd (true≢false (sym some))
            go (Some x) e some past within =
                let r = held_live _ (last (told.versions R node t)) x e in
                let m = (story_has R node t r.0).0
                (has_from_get (told.versions R node t) _ r.0 r.1) in
                let latest : IsLatest R r.0 =
                record {
                  there = m.0;
                  above =
                      λ z k zn zt. last_greatest (told.versions R node t) r.0
                      (story_rises R node t apart) r.1 z
                      ((story_has R node t z).1 (k, zn ∙ m.1, zt ∙ m.2));
                } in
                subst (Has (map time_of inside)) m.2
                (has-map time_of inside r.0 (has-sort_by (by_time d) (by_time_total d) here r.0
                (to_here r.0 (record {
                  there = m.0;
                  top = top_of r.0 latest;
                  own = m.1;
                  past = subst (λ u. is_past d place u ≡ true) (sym m.2) past;
                  within = subst (λ u. not (is_past d far u) ≡ true) (sym m.2) within;
                  live = r.2;
                }))))

    -- what they show is what is live in the stretch
    shown_are : map shown inside ≡ flat_map (values_at R node) stretch_here
    shown_are =
        one_each inside (λ r h. let i = has_inside r h in
        subst (λ n. told.live_value R n r.time ≡ Some (shown r)) i.own
        (current_is r i.there i.top i.live))
        ∙ (ap (flat_map (values_at R node)) times_are
        ∙ flat_map-filter (values_at R node) is_live stretch_here
        (λ t e. nothing t (told.live_value R node t) refl e))
      where
        one_each : (rs : List Record) → ((r : Record) → Has rs r
            → told.live_value R node r.time ≡ Some (shown r))
            → map shown rs ≡ flat_map (values_at R node) (map time_of rs)
        one_each [] each = refl
        one_each (r ∷ rs) each = rw (each r (inl refl))
            (ap (λ hs. shown r ∷ hs) (one_each rs (λ z h. each z (inr h))))

        nothing : (t : ℤ) (o : Option Held) → told.live_value R node t ≡ o → is_some o ≡ false
            → values_at R node t ≡ []
        nothing t None e none = ap (λ x. cons_option x []) e
        nothing t (Some x) e none = absurd (true≢false none)

    rows_show : (rs : List Record) → ((r : Record) → Has rs r → Has R r)
        → flat_map helds_in (map value_columns (map row rs)) ≡ map shown rs
    rows_show [] each = refl
    rows_show (r ∷ rs) each = rw (row_shows r (each r (inl refl)))
        (ap (λ hs. shown r ∷ hs) (rows_show rs (λ z h. each z (inr h))))

    limited_map : (o : Option ℕ) (rs : List Record)
        → map shown (limited o rs) ≡ limited o (map shown rs)
    limited_map None rs = refl
    limited_map (Some n) rs = go n rs
      where
        go : (k : ℕ) (ys : List Record) → map shown (take k ys) ≡ take k (map shown ys)
        go zero ys = refl
        go (suc k) [] = refl
        go (suc k) (y ∷ ys) = ap (λ hs. shown y ∷ hs) (go k ys)

    -- the first rows that pass, in order, show the first live values of the stretch
    shown_by : (pass : Row → Bool) (row_cmp : Row → Row → Ordering) → IsTotalOrder row_cmp
        → ((r : Record) → Has tops r → pass (row r) ≡ shows d node place far r)
        → ((a b : Record) → row_cmp (row a) (row b) ≡ by_time d a b)
        → (limit : Option ℕ) (all rows : List Row) → IsPermutation (map row tops) all
        → IsPage pass row_cmp limit all rows
        → flat_map helds_in (map value_columns rows)
        ≡ limited limit (flat_map (values_at R node) stretch_here)
    shown_by pass row_cmp row_total tests orders limit all rows stand page =
        ap (λ rs. flat_map helds_in (map value_columns rs)) (page_of row pass row_cmp row_total
        (shows d node place far) (by_time d) (by_time_total d) limit tops all rows stand tests
        orders times_apart page)
        ∙ (rows_show (limited limit inside) (λ r h.
        (has_inside r (from_some limit inside r h)).there)
        ∙ (limited_map limit inside ∙ ap (limited limit) shown_are))

  after_as : (node : NodeId) (t q far : ℤ) (r : Record) → IsNodeId node → Has tops r
      → IsStartPlace Forward q → is_live_after (node_id.canon node) t q (ticks_of far)
      (pos (pico_of far)) (row r) ≡ shows Forward node (moment_at t q) far r
  after_as node t q far r ok h place =
      ap₂ ◌&&◌ (nodes_as node r ok (own_node r (has_from_filter is_top R r h).0))
      (ap₂ ◌&&◌ (ap is_true (compared Ge a t) ∙ truly _)
      (ap₂ ◌&&◌ (ap₂ holds_either (compared Gt a t) (compared Gt p q)
      ∙ first_of _ _)
      (ap₂ ◌&&◌ (ap is_true (compared Le a f) ∙ truly _)
      (ap₂ ◌&&◌ (ap₂ holds_either (compared Lt a f) (compared Le p g)
      ∙ first_of _ _) (live_as r.asked)))))
      ∙ (regroup_five (same_node r.node node) (is_ge (int_cmp a t))
      (is_gt (int_cmp a t) || is_gt (int_cmp p q)) (is_le (int_cmp a f))
      (is_lt (int_cmp a f) || is_le (int_cmp p g)) (not (told.is_delete r.asked))
      ∙ ap (λ b. same_node r.node node && (b && not (told.is_delete r.asked)))
      (ap₂ ◌&&◌ (after_by a t p q (omega (arith, ints))
      (omega (arith, ints, pico_within r.time)) place
      ∙ ap (is_past Forward (moment_at t q)) (whole_again r.time))
      (up_to a f p g (omega (arith, ints)) (omega (arith, ints, pico_within r.time))
      (omega (arith, ints)) (omega (arith, ints, pico_within far))
      ∙ ap₂ (λ x y. not (is_past Forward x y)) (whole_again far) (whole_again r.time))))
    where
      a : ℤ
      a = ticks_of r.time

      p : ℤ
      p = pos (pico_of r.time)

      f : ℤ
      f = ticks_of far

      g : ℤ
      g = pos (pico_of far)

  before_as : (node : NodeId) (t q far : ℤ) (r : Record) → IsNodeId node → Has tops r
      → IsStartPlace Backward q → is_live_before (node_id.canon node) t q (ticks_of far)
      (pos (pico_of far)) (row r) ≡ shows Backward node (moment_at t q) far r
  before_as node t q far r ok h place =
      ap₂ ◌&&◌ (nodes_as node r ok (own_node r (has_from_filter is_top R r h).0))
      (ap₂ ◌&&◌ (ap is_true (compared Le a t) ∙ truly _)
      (ap₂ ◌&&◌ (ap₂ holds_either (compared Lt a t) (compared Lt p q)
      ∙ first_of _ _)
      (ap₂ ◌&&◌ (ap is_true (compared Ge a f) ∙ truly _)
      (ap₂ ◌&&◌ (ap₂ holds_either (compared Gt a f) (compared Ge p g)
      ∙ first_of _ _) (live_as r.asked)))))
      ∙ (regroup_five (same_node r.node node) (is_le (int_cmp a t))
      (is_lt (int_cmp a t) || is_lt (int_cmp p q)) (is_ge (int_cmp a f))
      (is_gt (int_cmp a f) || is_ge (int_cmp p g)) (not (told.is_delete r.asked))
      ∙ ap (λ b. same_node r.node node && (b && not (told.is_delete r.asked)))
      (ap₂ ◌&&◌ (before_by a t p q (omega (arith, ints))
      (omega (arith, ints, pico_within r.time)) place
      ∙ ap (is_past Backward (moment_at t q)) (whole_again r.time))
      (down_to a f p g (omega (arith, ints)) (omega (arith, ints, pico_within r.time))
      (omega (arith, ints)) (omega (arith, ints, pico_within far))
      ∙ ap₂ (λ x y. not (is_past Backward x y)) (whole_again far) (whole_again r.time))))
    where
      a : ℤ
      a = ticks_of r.time

      p : ℤ
      p = pos (pico_of r.time)

      f : ℤ
      f = ticks_of far

      g : ℤ
      g = pos (pico_of far)

  found_in : (d : Direction) (node : NodeId) (t q far : ℤ) (limit : Option ℕ) (all rows : List Row)
      → IsNodeId node → IsStartPlace d q → IsPermutation (map row tops) all
      → AreNextCurrents d (node_id.canon node) t q (ticks_of far) (pos (pico_of far)) limit all rows
      → flat_map helds_in (map value_columns rows) ≡ limited limit (flat_map (values_at R node)
      (stretch d (moment_at t q) far (times R node)))
  found_in Forward node t q far limit all rows ok place stand page =
      shown_by node Forward (moment_at t q) far (is_live_after (node_id.canon node) t q
      (ticks_of far) (pos (pico_of far))) current_order current_order_total
      (λ r h. after_as node t q far r ok h place)
      (λ a b. moments_cmp a.time b.time) limit all rows stand page
  found_in Backward node t q far limit all rows ok place stand page =
      shown_by node Backward (moment_at t q) far (is_live_before (node_id.canon node) t q
      (ticks_of far) (pos (pico_of far))) (λ a b. current_order b a)
      (turned_total current_order current_order_total)
      (λ r h. before_as node t q far r ok h place)
      (λ a b. moments_cmp b.time a.time) limit all rows stand page

-- a query's rows, read as live values
pub currents_found : (d : Direction) (db : Trees) (node : NodeId) (bytes : List ℕ) (t q far : ℤ)
    (limit : Option ℕ) (rows : List Row) (items : List Held) → IsFilled db → AreKept db
    → IsNodeId node → bytes ≡ node_id.canon node → IsStartPlace d q
    → ShowValues (AreNextCurrents d bytes t q (ticks_of far) (pos (pico_of far)) limit
    (map current_columns (db 4))) rows → items ≡ flat_map helds_in rows
    → items ≡ limited limit (flat_map (values_at (content_in db) node)
    (stretch d (moment_at t q) far (times (content_in db) node)))
currents_found d db node bytes t q far limit rows items (R, l, stand) kept ok is place page read =
    let all : IsPermutation (map (row R l) (tops R l)) (map current_columns (db 4)) =
    subst (λ xs. IsPermutation xs (map current_columns (db 4))) (rows_are R l)
    (IsPermutation-trans _ _ _
    (currents_permuted (map row_of R) (cells (db 1)) stand) kept.currents) in
    let found = found_in R l d node t q far limit (map current_columns (db 4)) page.whole ok place
    all (subst (λ b. AreNextCurrents d b t q (ticks_of far) (pos (pico_of far)) limit
    (map current_columns (db 4)) page.whole) is page.are) in
    subst (λ S. items ≡ limited limit (flat_map (values_at S node)
    (stretch d (moment_at t q) far (times S node)))) (sym (content_is R db l stand))
    (read ∙ ap (flat_map helds_in) page.shown ∙ found)

-- of so many, or of all, the first so many
pub first_limited : {X : Type 0} (n : ℕ) (limit : Option ℕ) (items all : List X)
    → (limit ≡ None) ⊎ (limit ≡ Some n) → items ≡ limited limit all → take n items ≡ take n all
first_limited n limit items all (inl e) is = ap (take n) (is ∙ ap (λ o. limited o all) e)
first_limited n limit items all (inr e) is = ap (take n) (is ∙ ap (λ o. limited o all) e) ∙ go n all
  where
    go : {Y : Type 0} (k : ℕ) (xs : List Y) → take k (take k xs) ≡ take k xs
    go zero xs = refl
    go (suc k) [] = refl
    go (suc k) (x ∷ xs) = ap (λ l. x ∷ l) (go k xs)

-- a vector that covers the last numbers covers all
pub cut_all : (R : Content) (v : ℕ → ℕ) → ((o : ℕ) → vec R o ≤ v o) → cut R v ≡ R
cut_all R v covers = filter_all (λ r. not (told.is_beyond v r)) R
    (all_from_has (λ r. not (told.is_beyond v r) ≡ true) R
    (λ r h. ap not (below (v r.origin) r.number (omega
    (arith, vec_bounds R r h, covers r.origin)))))
  where
    below : (m n : ℕ) → n ≤ m → nat_lt m n ≡ false
    below m n le = grind (arith, nat_tests)

-- ---- the tables, in the words of the records

two_or_more : (xs : List Record) (r s : Record) → Has xs r → Has xs s → (s ≡ r → ⊥)
    → nat_lt 1 (length xs) ≡ true
two_or_more [] r s h k apart = absurd h
two_or_more (x ∷ []) r s h k apart = elim h [
  | inl e ↦
      elim k [ inl f ↦ absurd (apart (sym f ∙ e)) | inr m ↦ absurd m ]
  | inr m ↦ absurd m
]
two_or_more (x ∷ y ∷ xs) r s h k apart = lt-ltb 1 (length (x ∷ y ∷ xs)) (omega arith)

another_one : (xs : List Record) (r : Record) → Rises told.record_stamp_cmp xs → Has xs r
    → nat_lt 1 (length xs) ≡ true → (s : Record) × Has xs s × (s ≡ r → ⊥)
another_one [] r up h lt = absurd h
another_one (x ∷ []) r up h lt = absurd (true≢false (sym lt))
another_one (x ∷ y ∷ xs) r up h lt = elim h [
  | inl e ↦ (
    y,
    inr (inl refl),
    λ f.
        irreflexive told.record_stamp_cmp stamp_total x
        (subst (λ z. told.record_stamp_cmp x z ≡ Less) (f ∙ sym e) up.0.0),
  )
  | inr k ↦ (
    x,
    inl refl,
    λ f. irreflexive told.record_stamp_cmp stamp_total x
        (subst (λ z. told.record_stamp_cmp x z ≡ Less) (sym f)
        (all-has (λ z. told.record_stamp_cmp x z ≡ Less) (y ∷ xs) r up.0 k)),
  )
]

has_last : (xs : List Record) (r : Record) → last xs ≡ Some r → Has xs r
has_last xs r e = has_from_get xs _ r e

live_flag : (asked : HistoryUpdateType)
    → binary (Compare Ne Binary) (Int (pos (update_number asked))) (Int (pos 4))
    ≡ Int (pos (cond (told.is_delete asked) 0 1))
live_flag asked = compared Ne (pos (update_number asked)) (pos 4) ∙ each asked
  where
    each : (a : HistoryUpdateType)
        → from_truth (Some (is_ne (int_cmp (pos (update_number a)) (pos 4))))
        ≡ Int (pos (cond (told.is_delete a) 0 1))
    each Insert = refl
    each Replace = refl
    each Update = refl
    each Delete = refl

map_in : {X Y : Type 0} (f g : X → Y) (xs : List X) → ((x : X) → Has xs x → f x ≡ g x)
    → map f xs ≡ map g xs
map_in f g [] each = refl
map_in f g (x ∷ xs) each = ap₂ ◌∷◌ (each x (inl refl)) (map_in f g xs (λ y h. each y (inr h)))

module _ (R : Content) (l : IsLawfulContent R) where
  in_its_story : (r : Record) → Has R r → Has (told.versions R r.node r.time) r
  in_its_story r h = (story_has R r.node r.time r).1 (h, refl, refl)

  extra_is : (r : Record) → Has R r
      → (nat_lt 1 (length (told.versions R r.node r.time)) ≡ true) ↔ HasOther R r
  extra_is r h = (
    λ e.
        let s = another_one (told.versions R r.node r.time) r
        (story_rises R r.node r.time (apart R l)) (in_its_story r h) e in
        let k = (story_has R r.node r.time s.0).0 s.1 in
        (s.0, k.0, k.1, k.2, s.2),
    λ o. two_or_more (told.versions R r.node r.time) r o.0 (in_its_story r h)
        ((story_has R r.node r.time o.0).1 (o.1, o.2, o.3)) o.4,
  )

  row_is : (r : Record) → Has R r → row R l r ≡ current_row R r
  row_is r h =
      let extra : list_any (is_other (row_of r)) (map row_of R)
      ≡ nat_lt 1 (length (told.versions R r.node r.time)) =
      extra_as R l r h ∙ sym (one_answer (nat_lt 1 (length (told.versions R r.node r.time)))
      (list_any (is_another r) R) (extra_is r h) (other_is R l r h)) in
      rw (live_flag r.asked, extra) refl

  last_is_top : (r : Record) → last (told.versions R r.node r.time) ≡ Some r
      → Has R r × (is_top R l r ≡ true)
  last_is_top r e =
      let up = story_rises R r.node r.time (apart R l) in
      let there = (story_has R r.node r.time r).0 (has_last (told.versions R r.node r.time) r e) in (
        there.0,
        top_of R l r (record {
          there = there.0;
          above =
              λ s k node time. last_greatest (told.versions R r.node r.time) r up e s
              ((story_has R r.node r.time s).1 (k, node, time));
        }),
      )

  top_is_last : (r : Record) → Has R r → is_top R l r ≡ true
      → last (told.versions R r.node r.time) ≡ Some r
  top_is_last r h top = latest_last R r (apart R l) (latest_of R l r h top)

  once_each : (a b : Record) → is_eq (told.record_stamp_cmp a b) ≡ false → a ≡ b → ⊥
  once_each a b off e = true≢false (sym (ap is_eq (tied_itself stamp_total a))
      ∙ subst (λ z. is_eq (told.record_stamp_cmp a z) ≡ false) (sym e) off)

  pub currents_are : (db : Trees) → AreRecords R db → AreKept db
      → AreCurrents R (map current_columns (db 4))
  currents_are db stand kept = record {
    records = tops R l;
    are = subst (λ rows. IsPermutation rows (map current_columns (db 4)))
        (rows_are R l ∙ map_in (row R l) (current_row R) (tops R l)
        (λ r h. row_is r (has_from_filter (is_top R l) R r h).0))
        (IsPermutation-trans (currents_of (map row_of R)) (currents_of (cells (db 1)))
        (map current_columns (db 4))
        (currents_permuted (map row_of R) (cells (db 1)) stand) kept.currents);
    each = λ r. (
      λ h. let k = has_from_filter (is_top R l) R r h in top_is_last r k.0 k.1,
      λ e. let k = last_is_top r e in has-filter (is_top R l) R r k.0 k.1,
    );
    once = pairwise_in (λ a b. is_eq (told.record_stamp_cmp a b) ≡ false) (λ a b. a ≡ b → ⊥)
        (tops R l) (λ a b h k off. once_each a b off)
        (pairwise-filter _ (is_top R l) R (apart R l));
  }

  -- ---- last numbers

  abbrev is_newest : Record → Bool
  is_newest r = not (list_any (λ s. is_newer (row_of r) (row_of s)) R)

  newest_row : (r : Record) → Has R r → is_newest r ≡ true → r.number ≡ vec R r.origin
  newest_row r h top = elim (vec_attained R r.origin) [
    | inl zero_is ↦ let b = vec_bounds R r h in omega (arith, b, zero_is)
    | inr w ↦
        let s = w.0 in
        let off = any_none (λ z. is_newer (row_of r) (row_of z)) R s (unflipped _ top) w.1 in
        let b = vec_bounds R r h in
        elim (cases_lt r.number s.number) [
          | inl lt ↦ absurd (true≢false
              (sym (newer_is r s ∙ is_above_number s.origin r.origin s.number r.number w.2.0 lt)
              ∙ off))
          | inr le ↦ omega (arith, b, w.2.1, le)
        ]
  ]
    where
      unflipped : (b : Bool) → not b ≡ true → b ≡ false
      unflipped true e = absurd (true≢false (sym e))
      unflipped false e = refl

  row_newest : (r : Record) → Has R r → r.number ≡ vec R r.origin → is_newest r ≡ true
  row_newest r h e = ap not (any_from_none (λ s. is_newer (row_of r) (row_of s)) R
      (all_from_has (λ s. is_newer (row_of r) (row_of s) ≡ false) R none))
    where
      none : (s : Record) → Has R s → is_newer (row_of r) (row_of s) ≡ false
      none s k = elim (cases_Bool (is_eq (int_cmp (pos s.origin) (pos r.origin)))) [
        | inl same_origin ↦
            let from = same_origins s.origin r.origin same_origin in
            let b = vec_bounds R s k in
            let le : s.number ≤ r.number = omega (arith, b, e, ap (vec R) from) in
            newer_is r s ∙ not_above s.number r.number
            (is_eq (int_cmp (pos s.origin) (pos r.origin))) le
        | inr other ↦ newer_is r s
            ∙ ap (λ b. b && is_gt (int_cmp (pos s.number) (pos r.number))) other
      ]

  vectors_are : vectors_of (map row_of R) ≡ map (λ r. last_of (row_of r)) (filter is_newest R)
  vectors_are =
      ap (map last_of) (filter-map (λ c. not (list_any (is_newer c) (map row_of R))) row_of R
      ∙ ap (map row_of) (filter_as _ is_newest R
      (λ r h. ap not (any_as (is_newer (row_of r)) (λ s. is_newer (row_of r) (row_of s)) row_of R
      (λ s k. refl)))))
      ∙ twice last_of row_of (filter is_newest R)

  last_row_is : (r : Record) → Has R r → r.number ≡ vec R r.origin
      → last_of (row_of r) ≡ last_row R r
  last_row_is r h e = ap₂ (λ n t. Int (pos r.origin) ∷ Int (pos n) ∷ Int t ∷ []) e
      (last_of_last R r l.closed h e)

  pub lasts_are : (db : Trees) → AreRecords R db → AreKept db
      → AreLasts R (map vector_columns (db 6))
  lasts_are db stand kept = record {
    records = filter is_newest R;
    are = subst (λ rows. IsPermutation rows (map vector_columns (db 6)))
        (vectors_are ∙ map_in (λ r. last_of (row_of r)) (last_row R) (filter is_newest R)
        (λ r h. let k = has_from_filter is_newest R r h in
        last_row_is r k.0 (newest_row r k.0 k.1)))
        (IsPermutation-trans (vectors_of (map row_of R)) (vectors_of (cells (db 1)))
        (map vector_columns (db 6))
        (vectors_permuted (map row_of R) (cells (db 1)) stand) kept.vectors);
    each = λ r. (
      λ h. let k = has_from_filter is_newest R r h in (k.0, newest_row r k.0 k.1),
      λ k. has-filter is_newest R r k.0 (row_newest r k.0 k.1),
    );
    once = pairwise_in (λ a b. is_eq (told.record_stamp_cmp a b) ≡ false) (λ a b. a ≡ b → ⊥)
        (filter is_newest R) (λ a b h k off. once_each a b off)
        (pairwise-filter _ is_newest R (apart R l));
  }
