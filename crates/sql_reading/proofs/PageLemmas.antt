-- What the first rows in an order stand for.
use Rattle.std.proofs.Common.{◌≡◌, ℕ, ℤ, pos, ◌≤ℤ◌, Bool, true, false, ◌&&◌, ◌||◌, List, [], ◌∷◌, map, filter, take, Option, Some, None, refl, sym, ap, ap₂, subst, ◌∙◌, inl, inr, arith, Ordering, Less, Equal, Greater, is_eq, is_gt, is_lt, IsPermutation, zero, suc}
use Rattle.std.specs.List.{flat_map}
use Rattle.std.specs.Cmp.{IsTotalOrder}
use Rattle.std.specs.Ordering.{int_cmp, ordering_then, is_ge, is_le}
use Rattle.std.proofs.lemmas.Cmp.{on_total, then_total, int_cmp_total}
use Rattle.std.proofs.lemmas.Bool.{and_parts, and_from}
use Rattle.std.proofs.lemmas.Bool.Decides.{nat_tests}
use Rattle.std.proofs.lemmas.Int.{ints}
use Rattle.std.proofs.lemmas.List.Sorted.{IsPermutation-trans, IsPermutation-map}
use Rattle.ua_binary.specs.Binary.{node_id, IsNodeId}
use Rattle.ua_binary.specs.declared.values.NodeId.{NodeId}
use Rattle.sqlite_value.specs.Order.{Row, column, value_cmp}
use Rattle.sqlite_value.specs.declared.value.Value.TheVariants.{Int}
use Rattle.sqlite_value.specs.declared.keys.Collation.TheVariants.{Binary}
use Rattle.sqlite_value.proofs.OrderLemmas.{value_cmp_total, value_cmp-Int}
use Rattle.sqlite_sql.specs.Query.{limited}
use Rattle.sqlite_sql.specs.Ops.{binary, is_true, from_truth, test}
use Rattle.sqlite_sql.specs.declared.ops.BinaryOp.TheVariants.{Compare, Or}
use Rattle.sqlite_sql.specs.declared.ops.CompareOp.{CompareOp}
use Rattle.sqlite_sql.specs.declared.ops.CompareOp.TheVariants.{Gt, Ge, Lt, Le}
use Rattle.sqlite_trees.specs.Tree.{Trees, IsAscending}
use Rattle.sqlite_keyed.proofs.SortLemmas.{IsPermutation-sort_by, sorted_unique}
use Rattle.sqlite_keyed.proofs.ListLemmas.{filter-map, IsPermutation-filter, ascending-map, ascending_weaker}
use Rattle.records.specs.Lists.{Has, Rises, IsApart, sort_by}
use Rattle.records.specs.Same.{same_node}
use Rattle.records.specs.Records.{record_stamp_cmp}
use Rattle.records.specs.Moments.{ticks_of, pico_of, whole_again, pico_within}
use Rattle.records.specs.declared.record.Record.{Record}
use Rattle.records.specs.Contents.{Content}
use Rattle.records.proofs.Orders.{stamp_total}
use Rattle.records.proofs.CloseLemmas.{closed_stamps}
use Rattle.records.proofs.Moments.{in_order}
use Rattle.records.proofs.ContentLemmas.{pairwise_weaker}
use Rattle.records.proofs.Sorting.{all-has, has-filter, has_from_filter, has-sort_by, has_from_sort_by, rises-sort_by, pairwise-filter}
use Rattle.archive.specs.Reading.{times, is_of, is_past}
use Rattle.archive.specs.Store.{IsLawfulContent}
use Rattle.archive.specs.declared.reading.Direction.{Direction}
use Rattle.archive.specs.declared.reading.Direction.TheVariants.{Forward, Backward}
use Rattle.archive.proofs.SetLemmas.{has-once, has_from_once}
use Rattle.archive.proofs.Turning.{has-map, has_from_map}
use Rattle.sql_tables.specs.Words.{cells, holds_either, is_after, is_before, moment_order, IsPage, AreNextRows}
use Rattle.sql_tables.specs.Rows.{row_of, records_in, content_in, AreRecords, IsFilled}
use Rattle.sql_reading.specs.Walking.{moment_at, IsStartPlace, IsNextTime, first_time, time_order, walk_cmp, records_beyond}
use Rattle.sql_tables.proofs.RowLemmas.{each_record, records_back, content_is}
use Rattle.sql_reading.proofs.StoryLemmas.{sort_same, ascends, row_stamp_total, numbers_cmp, stamps_as, nodes_as, filter_as}
use Rattle.sql_reading.proofs.WalkLemmas.{turned_total}

-- the first rows that pass, in an order, are those of the first elements that pass, in theirs
module _ {X : Type 0} (row : X → Row) where
  take_rows : (n : ℕ) (xs : List X) → take n (map row xs) ≡ map row (take n xs)
  take_rows zero xs = refl
  take_rows (suc n) [] = refl
  take_rows (suc n) (x ∷ xs) = ap (λ l. row x ∷ l) (take_rows n xs)

  some_rows : (o : Option ℕ) (xs : List X) → limited o (map row xs) ≡ map row (limited o xs)
  some_rows None xs = refl
  some_rows (Some n) xs = take_rows n xs

  pub page_of : (pass : Row → Bool) (row_cmp : Row → Row → Ordering)
      (row_total : IsTotalOrder row_cmp) (p : X → Bool) (cmp : X → X → Ordering)
      (total : IsTotalOrder cmp) (limit : Option ℕ) (xs : List X) (all rows : List Row)
      → IsPermutation (map row xs) all → ((x : X) → Has xs x → pass (row x) ≡ p x)
      → ((a b : X) → row_cmp (row a) (row b) ≡ cmp a b) → IsApart cmp (filter p xs)
      → IsPage pass row_cmp limit all rows
      → rows ≡ map row (limited limit (sort_by cmp (filter p xs)))
  page_of pass row_cmp row_total p cmp total limit xs all rows stand tests orders apart page =
      let here = filter p xs in
      let sorted = sort_by cmp here in
      let here_rows : filter pass (map row xs) ≡ map row here =
      filter-map pass row xs ∙ ap (map row) (filter_as _ p xs tests) in
      let some : IsPermutation (map row here) page.ordered =
      IsPermutation-trans _ _ _ (subst (λ ys. IsPermutation ys (filter pass all)) here_rows
      (IsPermutation-filter pass (map row xs) all stand)) page.same in
      let again : IsPermutation sorted here =
      subst (λ ys. IsPermutation ys here) (sort_same cmp here)
      (IsPermutation-sort_by cmp total here) in
      let same : IsPermutation (map row sorted) page.ordered =
      IsPermutation-trans _ _ _ (IsPermutation-map row sorted here again) some in
      let up : IsAscending (λ a b. row_cmp a b ≡ Less) (map row sorted) =
      ascending-map (λ a b. row_cmp a b ≡ Less) row sorted
      (ascending_weaker (λ a b. cmp a b ≡ Less) (λ a b. row_cmp (row a) (row b) ≡ Less)
      (λ a b h. orders a b ∙ h) sorted (ascends _ sorted (rises-sort_by cmp total here apart)))
      in
      let is : page.ordered ≡ map row sorted =
      sorted_unique row_cmp row_total (map row sorted) page.ordered up same page.sorted in
      page.front ∙ (ap (limited limit) is ∙ some_rows limit sorted)

from_take : {X : Type 0} (n : ℕ) (xs : List X) (z : X) → Has (take n xs) z → Has xs z
from_take zero xs z h = absurd h
from_take (suc n) [] z h = h
from_take (suc n) (x ∷ xs) z h = elim h [ inl e ↦ inl e | inr k ↦ inr (from_take n xs z k) ]

pub from_some : {X : Type 0} (o : Option ℕ) (xs : List X) (z : X) → Has (limited o xs) z → Has xs z
from_some None xs z h = h
from_some (Some n) xs z h = from_take n xs z h

-- and so the first records
pub page_found : (pass : Row → Bool) (row_cmp : Row → Row → Ordering)
    (row_total : IsTotalOrder row_cmp) (p : Record → Bool) (cmp : Record → Record → Ordering)
    (total : IsTotalOrder cmp) (limit : Option ℕ)
    (R : Content) (db : Trees) (rows : List Row) → IsLawfulContent R → AreRecords R db
    → ((r : Record) → Has R r → pass (row_of r) ≡ p r)
    → ((a b : Record) → row_cmp (row_of a) (row_of b) ≡ cmp a b) → IsApart cmp (filter p R)
    → IsPage pass row_cmp limit (cells (db 1)) rows
    → flat_map records_in rows ≡ limited limit (sort_by cmp (filter p R))
page_found pass row_cmp row_total p cmp total limit R db rows l stand tests orders apart page =
    let sorted = sort_by cmp (filter p R) in
    ap (flat_map records_in) (page_of row_of pass row_cmp row_total p cmp total limit R
    (cells (db 1)) rows stand tests orders apart page)
    ∙ records_back (limited limit sorted) (λ r h.
    each_record R l r (has_from_filter p R r
    (has_from_sort_by cmp total (filter p R) r (from_some limit sorted r h))).0)

-- ---- the order by moment

pub time_order_total : IsTotalOrder time_order
time_order_total = then_total (on_total (λ (r : Record). r.time) int_cmp_total) stamp_total

moment_order_total : IsTotalOrder moment_order
moment_order_total = then_total (on_total (λ c. column c 4) value_cmp_total)
    (then_total (on_total (λ c. column c 5) value_cmp_total) row_stamp_total)

then_assoc : (a b c : Ordering) → ordering_then a (ordering_then b c)
    ≡ ordering_then (ordering_then a b) c
then_assoc Less b c = refl
then_assoc Equal b c = refl
then_assoc Greater b c = refl

moments_as : (a b : Record) → moment_order (row_of a) (row_of b) ≡ time_order a b
moments_as a b =
    then_assoc (value_cmp (Int (ticks_of a.time)) (Int (ticks_of b.time)))
    (value_cmp (Int (pos (pico_of a.time))) (Int (pos (pico_of b.time)))) _
    ∙ ap₂ ordering_then (ap₂ ordering_then (value_cmp-Int (ticks_of a.time) (ticks_of b.time))
    (value_cmp-Int (pos (pico_of a.time)) (pos (pico_of b.time))
    ∙ numbers_cmp (pico_of a.time) (pico_of b.time))
    ∙ (in_order (ticks_of a.time) (ticks_of b.time) (pico_of a.time) (pico_of b.time)
    (pico_within a.time) (pico_within b.time)
    ∙ ap₂ int_cmp (whole_again a.time) (whole_again b.time))) (stamps_as a b)

pub untied : (a b : Record) → is_eq (record_stamp_cmp a b) ≡ false → is_eq (time_order a b) ≡ false
untied a b h = go (int_cmp a.time b.time)
  where
    go : (o : Ordering) → is_eq (ordering_then o (record_stamp_cmp a b)) ≡ false
    go Less = refl
    go Equal = h
    go Greater = refl

pub untied_back : (a b : Record) → is_eq (record_stamp_cmp a b) ≡ false
    → is_eq (time_order b a) ≡ false
untied_back a b h = untied b a (ap is_eq (stamp_total.antisymm b a) ∙ go (record_stamp_cmp a b) h)
  where
    go : (o : Ordering) → is_eq o ≡ false
        → is_eq (Rattle.std.specs.Ordering.ordering_reverse o) ≡ false
    go Less e = refl
    go Equal e = e
    go Greater e = refl

-- ---- what passes

pub truly : (b : Bool) → is_true (from_truth (Some b)) ≡ b
truly true = refl
truly false = refl

pub either_of : (a b : Bool) → is_true (binary Or (from_truth (Some a)) (from_truth (Some b)))
    ≡ (a || b)
unfolding binary
either_of true true = refl
either_of true false = refl
either_of false true = refl
either_of false false = refl

-- the first one of two that is true
pub first_of : (a b : Bool) → holds_either (from_truth (Some a)) (from_truth (Some b)) ≡ (a || b)
first_of true b = refl
first_of false b = truly b

pub compared : (op : CompareOp) (m n : ℤ)
    → binary (Compare op Binary) (Int m) (Int n) ≡ from_truth (Some (test op (int_cmp m n)))
unfolding binary
compared op m n = ap (λ o. from_truth (Some (test op o))) (value_cmp-Int m n)

pub after_by : (a t p q : ℤ) → pos 0 ≤ℤ p → p ≤ℤ pos 9999 → IsStartPlace Forward q
    → (is_ge (int_cmp a t) && (is_gt (int_cmp a t) || is_gt (int_cmp p q)))
    ≡ is_past Forward (moment_at t q) (moment_at a p)
after_by a t p q low high place = grind (arith, nat_tests, ints)

pub before_by : (a t p q : ℤ) → pos 0 ≤ℤ p → p ≤ℤ pos 9999 → IsStartPlace Backward q
    → (is_le (int_cmp a t) && (is_lt (int_cmp a t) || is_lt (int_cmp p q)))
    ≡ is_past Backward (moment_at t q) (moment_at a p)
before_by a t p q low high place = grind (arith, nat_tests, ints)

abbrev pub beyond_place : Direction → NodeId → ℤ → Record → Bool
beyond_place d node place r = same_node r.node node && is_past d place r.time

after_as : (node : NodeId) (t q : ℤ) (r : Record) → IsNodeId node → IsNodeId r.node
    → IsStartPlace Forward q → is_after (node_id.canon node) t q (row_of r)
    ≡ beyond_place Forward node (moment_at t q) r
after_as node t q r ok own place =
    ap₂ ◌&&◌ (nodes_as node r ok own) (ap₂ ◌&&◌ (ap is_true (compared Ge a t) ∙ truly _)
    (ap₂ holds_either (compared Gt a t) (compared Gt p q) ∙ first_of _ _)
    ∙ (after_by a t p q (omega (arith, ints)) (omega (arith, ints, pico_within r.time)) place
    ∙ ap (is_past Forward (moment_at t q)) (whole_again r.time)))
  where
    a : ℤ
    a = ticks_of r.time

    p : ℤ
    p = pos (pico_of r.time)

before_as : (node : NodeId) (t q : ℤ) (r : Record) → IsNodeId node → IsNodeId r.node
    → IsStartPlace Backward q → is_before (node_id.canon node) t q (row_of r)
    ≡ beyond_place Backward node (moment_at t q) r
before_as node t q r ok own place =
    ap₂ ◌&&◌ (nodes_as node r ok own) (ap₂ ◌&&◌ (ap is_true (compared Le a t) ∙ truly _)
    (ap₂ holds_either (compared Lt a t) (compared Lt p q) ∙ first_of _ _)
    ∙ (before_by a t p q (omega (arith, ints)) (omega (arith, ints, pico_within r.time)) place
    ∙ ap (is_past Backward (moment_at t q)) (whole_again r.time)))
  where
    a : ℤ
    a = ticks_of r.time

    p : ℤ
    p = pos (pico_of r.time)

-- ---- the next time

pub time_there : (R : Content) (node : NodeId) (r : Record) → Has R r → same_node r.node node ≡ true
    → Has (times R node) r.time
time_there R node r h e = has-once _ r.time (has-map (λ (s : Record). s.time) _ r
    (has-filter (is_of node) R r h e))

pub at_time : (R : Content) (node : NodeId) (t : ℤ) → Has (times R node) t
    → (r : Record) × Has R r × (same_node r.node node ≡ true) × (r.time ≡ t)
at_time R node t h =
    let p = has_from_map (λ (s : Record). s.time) (filter (is_of node) R) t (has_from_once _ t h) in
    let q = has_from_filter (is_of node) R p.0 p.1 in (p.0, q.0, q.1, p.2)

-- of the records beyond a place, in their order by moment, the first has the next time
pub next_by : (d : Direction) (R : Content) (node : NodeId) (place : ℤ)
    (cmp : Record → Record → Ordering) (total : IsTotalOrder cmp)
    → ((a b : Record) → cmp a b ≡ Less → is_past d b.time a.time ≡ false)
    → IsApart cmp (filter (beyond_place d node place) R)
    → IsNextTime d place (times R node) (first_time
    (sort_by cmp (filter (beyond_place d node place) R)))
next_by d R node place cmp total goes apart = go (sort_by cmp (filter beyond R)) refl
  where
    beyond : Record → Bool
    beyond = beyond_place d node place

    member : (r : Record) → Has R r → same_node r.node node ≡ true → is_past d place r.time ≡ true
        → Has (sort_by cmp (filter beyond R)) r
    member r h e p = has-sort_by cmp total (filter beyond R) r
        (has-filter beyond R r h (and_from (same_node r.node node) (is_past d place r.time) e p))

    untrue : (b : Bool) → (b ≡ true → ⊥) → b ≡ false
    untrue true f = absurd (f refl)
    untrue false f = refl

    not_past_itself : (way : Direction) (t : ℤ) → is_past way t t ≡ false
    not_past_itself Forward t = grind (arith, nat_tests, ints)
    not_past_itself Backward t = grind (arith, nat_tests, ints)

    go : (xs : List Record) → sort_by cmp (filter beyond R) ≡ xs
        → IsNextTime d place (times R node) (first_time xs)
    go [] e = λ t h. untrue (is_past d place t) (λ p. let r = at_time R node t h in
        subst (λ l. Has l r.0) e (member r.0 r.1 r.2
        (subst (λ u. is_past d place u ≡ true) (sym r.3) p)))
    go (x ∷ xs) e =
        let in_it = has_from_filter beyond R x (has_from_sort_by cmp total (filter beyond R) x
        (subst (λ l. Has l x) (sym e) (inl refl))) in
        let parts = and_parts (same_node x.node node) (is_past d place x.time) in_it.1 in
        let up : Rises cmp (x ∷ xs) =
        subst (Rises cmp) e (rises-sort_by cmp total (filter beyond R) apart) in (
          time_there R node x in_it.0 parts.0,
          parts.1,
          λ s h p.
              let r = at_time R node s h in
              subst (λ u. is_past d u x.time ≡ false) r.3
              (elim (subst (λ l. Has l r.0) e (member r.0 r.1 r.2
              (subst (λ u. is_past d place u ≡ true) (sym r.3) p))) [
                | inl same ↦ subst (λ (y : Record). is_past d y.time x.time ≡ false) same
                    (not_past_itself d x.time)
                | inr k ↦ goes x r.0 (all-has (λ y. cmp x y ≡ Less) xs r.0 up.0 k)
              ]),
        )

pub forward_goes : (a b : Record) → time_order a b ≡ Less → is_past Forward b.time a.time ≡ false
forward_goes a b e = go (int_cmp a.time b.time) refl e
  where
    go : (o : Ordering) → int_cmp a.time b.time ≡ o → ordering_then o (record_stamp_cmp a b) ≡ Less
        → is_past Forward b.time a.time ≡ false
    go Less p h = grind (arith, nat_tests, ints)
    go Equal p h = grind (arith, nat_tests, ints)
    go Greater p h = absurd (let q = h in cc)

pub backward_goes : (a b : Record) → time_order b a ≡ Less → is_past Backward b.time a.time ≡ false
backward_goes a b e = go (int_cmp b.time a.time) refl e
  where
    go : (o : Ordering) → int_cmp b.time a.time ≡ o → ordering_then o (record_stamp_cmp b a) ≡ Less
        → is_past Backward b.time a.time ≡ false
    go Less p h = grind (arith, nat_tests, ints)
    go Equal p h = grind (arith, nat_tests, ints)
    go Greater p h = absurd (let q = h in cc)

-- no two of a node's records beyond a place tie
pub apart_beyond : (d : Direction) (R : Content) (node : NodeId) (place : ℤ)
    → IsApart record_stamp_cmp R → IsApart (walk_cmp d) (filter (beyond_place d node place) R)
apart_beyond Forward R node place apart =
    pairwise-filter _ (beyond_place Forward node place) R (pairwise_weaker _ _ untied R apart)
apart_beyond Backward R node place apart =
    pairwise-filter _ (beyond_place Backward node place) R (pairwise_weaker _ _ untied_back R apart)

-- the rows beyond a place, as IsPage has them, are the records there
pub rows_found : (d : Direction) (db : Trees) (node : NodeId) (bytes : List ℕ) (ticks pico : ℤ)
    (limit : Option ℕ) (rows : List Row) (items : List Record) → IsFilled db → IsNodeId node
    → bytes ≡ node_id.canon node → IsStartPlace d pico
    → AreNextRows d bytes ticks pico limit (cells (db 1)) rows → items ≡ flat_map records_in rows
    → items ≡ limited limit (records_beyond (content_in db) node d (moment_at ticks pico))
rows_found Forward db node bytes ticks pico limit rows items (R, l, stand) ok is place page read =
    let p = beyond_place Forward node (moment_at ticks pico) in
    let found = page_found (is_after (node_id.canon node) ticks pico) moment_order
    moment_order_total p time_order time_order_total limit R db rows l stand
    (λ r h. after_as node ticks pico r ok (each_record R l r h).0.node place) moments_as
    (apart_beyond Forward R node (moment_at ticks pico) (closed_stamps R l.closed))
    (subst (λ b. IsPage (is_after b ticks pico) moment_order limit (cells (db 1)) rows) is page)
    in
    subst (λ S. items ≡ limited limit (records_beyond S node Forward (moment_at ticks pico)))
    (sym (content_is R db l stand)) (read ∙ found)
rows_found Backward db node bytes ticks pico limit rows items (R, l, stand) ok is place page read =
    let p = beyond_place Backward node (moment_at ticks pico) in
    let cmp : Record → Record → Ordering = λ a b. time_order b a in
    let found = page_found (is_before (node_id.canon node) ticks pico) (λ a b. moment_order b a)
    (turned_total moment_order moment_order_total) p cmp
    (turned_total time_order time_order_total) limit R db rows l stand
    (λ r h. before_as node ticks pico r ok (each_record R l r h).0.node place)
    (λ a b. moments_as b a)
    (apart_beyond Backward R node (moment_at ticks pico) (closed_stamps R l.closed))
    (subst (λ b. IsPage (is_before b ticks pico) (λ a c. moment_order c a) limit
    (cells (db 1)) rows) is page) in
    subst (λ S. items ≡ limited limit (records_beyond S node Backward (moment_at ticks pico)))
    (sym (content_is R db l stand)) (read ∙ found)
