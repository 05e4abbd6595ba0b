-- What the rows of one node and time stand for.
use Rattle.std.proofs.Common.{◌≡◌, ℕ, ◌<◌, ◌≤◌, length, arith, ℤ, pos, Bool, true, false, ◌&&◌, cond, List, [], ◌∷◌, map, filter, refl, sym, ap, ap₂, subst, ◌∙◌, inl, inr, Ordering, Less, is_eq, is_gt, IsPermutation, Ok, append-nil, nat_lt, ◌==◌, Greater, Equal}
use Rattle.std.specs.List.{flat_map, list_any}
use Rattle.std.proofs.Common.{◌||◌}
use Rattle.std.proofs.lemmas.Cmp.{tied_itself, int_cmp_total}
use Rattle.std.proofs.lemmas.List.Sorted.{list_any-IsPermutation}
use Rattle.std.specs.Ordering.{int_cmp, nat_cmp, int_eq, ordering_then}
use Rattle.std.specs.Bool.{Decides, one_answer}
use Rattle.std.specs.Cmp.{IsTotalOrder}
use Rattle.std.specs.Str.{bytes_eq}
use Rattle.std.proofs.lemmas.Cmp.{on_total, then_total}
use Rattle.std.proofs.lemmas.Bool.{ltb-true, ltb-false, eqb-true, eq-eqb, true≢false, and_parts, and_from}
use Rattle.std.proofs.lemmas.Bool.Decides.{Decides-int_eq}
use Rattle.records.specs.Moments.{moment, ticks_of, pico_of, whole_again}
use Rattle.records.proofs.Sizes.{fields_length}
use Rattle.sql_tables.proofs.WriteLemmas.{same_value}
use Rattle.std.proofs.lemmas.Slice.Eq.{bytes_eq-Decides}
use Rattle.std.proofs.lemmas.Map.Text.{is_eq-slice_cmp}
use Rattle.std.proofs.lemmas.List.Sorted.{IsPermutation-trans, IsPermutation-map}
use Rattle.ua_binary.specs.Binary.{node_id, IsNodeId}
use Rattle.ua_binary.specs.declared.values.NodeId.{NodeId}
use Rattle.ua_binary.proofs.Lawful.{node_id_lawful}
use Rattle.sqlite_value.specs.Order.{Row, column, value_cmp}
use Rattle.sqlite_value.specs.declared.value.Value.TheVariants.{Blob as Bytes}
use Rattle.sqlite_value.proofs.OrderLemmas.{value_cmp_total, value_cmp-Int, value_cmp-Blob}
use Rattle.sqlite_trees.specs.Tree.{Trees, IsAscending}
use Rattle.sqlite_keyed.specs.Lists as keyed
use Rattle.sqlite_keyed.proofs.SortLemmas.{IsPermutation-sort_by, sorted_unique}
use Rattle.sqlite_keyed.proofs.ListLemmas.{filter-map, IsPermutation-flat_map, IsPermutation-filter, ascending-map, ascending_weaker}
use Rattle.records.specs.Lists.{Has, IsPairwise, sort_by, insert_sorted}
use Rattle.records.specs.Same.{same_node, same_record}
use Rattle.records.proofs.SameParts.{record_code, node_code}
use Rattle.records.specs.Records as told
use Rattle.records.specs.Contents.{Content}
use Rattle.records.specs.Spelling.{fields, longest}
use Rattle.records.specs.declared.record.Record.{Record}
use Rattle.records.proofs.Same.{Decides-is_same}
use Rattle.records.proofs.CloseLemmas.{closed_stamps}
use Rattle.records.proofs.LatestLemmas.{story_rises}
use Rattle.records.proofs.Sorting.{has_from_filter, has_from_sort_by}
use Rattle.records.proofs.Orders.{stamp_total}
use Rattle.archive.specs.Store.{IsLawfulContent}
use Rattle.sql_tables.specs.Words.{cells, is_at, is_named, row_stamp_cmp}
use Rattle.sql_tables.specs.Rows.{row_of, records_in, content_in, AreRecords, IsFilled}
use Rattle.sql_tables.specs.State.{IsStory}
use Rattle.sql_tables.proofs.RowLemmas.{each_record, records_back, content_is}

pub same_pos : (m n : ℕ) → pos m ≡ pos n → m ≡ n
same_pos m n e = cc

insert_same : {X : Type 0} (cmp : X → X → Ordering) (x : X) (xs : List X)
    → keyed.insert_sorted cmp x xs ≡ insert_sorted cmp x xs
insert_same cmp x [] = refl
insert_same cmp x (y ∷ ys) = ap (λ l. cond (is_gt (cmp x y)) (y ∷ l) (x ∷ y ∷ ys))
    (insert_same cmp x ys)

pub sort_same : {X : Type 0} (cmp : X → X → Ordering) (xs : List X)
    → keyed.sort_by cmp xs ≡ sort_by cmp xs
sort_same cmp [] = refl
sort_same cmp (x ∷ xs) = insert_same cmp x (keyed.sort_by cmp xs)
    ∙ ap (insert_sorted cmp x) (sort_same cmp xs)

pub ascends : {X : Type 0} (R : X → X → Type 0) (xs : List X) → IsPairwise R xs → IsAscending R xs
ascends R [] h = tt
ascends R (x ∷ xs) h = (h.0, ascends R xs h.1)

pub row_stamp_total : IsTotalOrder row_stamp_cmp
row_stamp_total = then_total (on_total (λ c. column c 2) value_cmp_total)
    (on_total (λ c. column c 0) value_cmp_total)

pub numbers_cmp : (m n : ℕ) → int_cmp (pos m) (pos n) ≡ nat_cmp m n
numbers_cmp m n = go (nat_lt m n) (m == n) (nat_lt n m) refl refl refl
  where
    go : (a b c : Bool) → nat_lt m n ≡ a → (m == n) ≡ b → nat_lt n m ≡ c
        → cond a Less (cond c Greater Equal) ≡ cond a Less (cond b Equal Greater)
    go true b c p q r = refl
    go false true true p q r = let e = eqb-true m n q in let l = ltb-true n m r in
        absurd (omega arith)
    go false true false p q r = refl
    go false false true p q r = refl
    go false false false p q r = let f = ltb-false m n p in let g = ltb-false n m r in
        let e : m ≡ n = omega arith in absurd (true≢false (sym (eq-eqb m n e) ∙ q))

-- rows compare by stamp as their records do
pub stamps_as : (a b : Record) → row_stamp_cmp (row_of a) (row_of b) ≡ told.record_stamp_cmp a b
stamps_as a b = ap₂ ordering_then (value_cmp-Int a.tick b.tick)
    (value_cmp-Int (pos a.origin) (pos b.origin) ∙ numbers_cmp a.origin b.origin)

read_node : (n : NodeId) → IsNodeId n → node_id.read (node_id.canon n) ≡ Ok (n, [])
unfolding node_id
read_node n h = subst (λ bs. node_id.read bs ≡ Ok (n, [])) (append-nil (node_id.canon n))
    (node_id_lawful.only (node_id.canon n) n [] (node_id_lawful.written n h))

same_spelled : (a b : NodeId) → IsNodeId a → IsNodeId b → node_id.canon a ≡ node_id.canon b → a ≡ b
same_spelled a b p q e = sym (ap (λ (x : NodeId × List ℕ). x.0)
    (same_value (sym (read_node b q) ∙ (ap node_id.read (sym e) ∙ read_node a p))))

-- two moments are one where their ticks and their picoseconds are
pub same_moment : (s t : ℤ) → (int_eq (ticks_of s) (ticks_of t)
    && int_eq (pos (pico_of s)) (pos (pico_of t))) ≡ int_eq s t
same_moment s t = one_answer (int_eq (ticks_of s) (ticks_of t)
    && int_eq (pos (pico_of s)) (pos (pico_of t))) (int_eq s t) parts (Decides-int_eq s t)
  where
    parts : Decides (int_eq (ticks_of s) (ticks_of t) && int_eq (pos (pico_of s)) (pos (pico_of t)))
        (s ≡ t)
    parts = (
      λ e.
          let both = and_parts (int_eq (ticks_of s) (ticks_of t))
          (int_eq (pos (pico_of s)) (pos (pico_of t))) e in
          let ticks : ticks_of s ≡ ticks_of t =
          (Decides-int_eq (ticks_of s) (ticks_of t)).0 both.0 in
          let pico : pico_of s ≡ pico_of t =
          same_pos (pico_of s) (pico_of t)
          ((Decides-int_eq (pos (pico_of s)) (pos (pico_of t))).0 both.1) in
          sym (whole_again s) ∙ (ap₂ moment ticks pico ∙ whole_again t),
      λ e. and_from (int_eq (ticks_of s) (ticks_of t)) (int_eq (pos (pico_of s)) (pos (pico_of t)))
          ((Decides-int_eq (ticks_of s) (ticks_of t)).1 (ap ticks_of e))
          ((Decides-int_eq (pos (pico_of s)) (pos (pico_of t))).1 (ap (λ z. pos (pico_of z)) e)),
    )

-- the spelling of a node is that of no other
pub nodes_as : (node : NodeId) (r : Record) → IsNodeId node → IsNodeId r.node
    → is_eq (value_cmp (Bytes (node_id.canon r.node)) (Bytes (node_id.canon node)))
    ≡ same_node r.node node
nodes_as node r p q = ap is_eq (value_cmp-Blob (node_id.canon r.node) (node_id.canon node))
    ∙ is_eq-slice_cmp (node_id.canon r.node) (node_id.canon node)
    ∙ one_answer _ _ by_bytes (Decides-is_same node_code r.node node)
  where
    by_bytes : Decides (bytes_eq (node_id.canon r.node) (node_id.canon node)) (r.node ≡ node)
    by_bytes = (
      λ e. same_spelled r.node node q p ((bytes_eq-Decides _ _).0 e),
      λ e. (bytes_eq-Decides _ _).1 (ap node_id.canon e),
    )

-- the rows of this node and time are those of the records of it
is_at_as : (node : NodeId) (time : ℤ) (r : Record) → IsNodeId node → IsNodeId r.node
    → is_at (node_id.canon node) (ticks_of time) (pos (pico_of time)) (row_of r)
    ≡ told.is_at node time r
is_at_as node time r p q =
    ap₂ ◌&&◌ (nodes_as node r p q) (ap₂ ◌&&◌
    (ap is_eq (value_cmp-Int (ticks_of r.time) (ticks_of time)))
    (ap is_eq (value_cmp-Int (pos (pico_of r.time)) (pos (pico_of time))))
    ∙ same_moment r.time time)

pub filter_as : {X : Type 0} (p q : X → Bool) (xs : List X) → ((x : X) → Has xs x → p x ≡ q x)
    → filter p xs ≡ filter q xs
filter_as p q [] same = refl
filter_as p q (x ∷ xs) same = rw (same x (inl refl), filter_as p q xs (λ z h. same z (inr h))) refl

-- the records of a node and time, by the rows that a query found
pub story_found : (R : Content) (db : Trees) (node : NodeId) (time : ℤ) (rows : List Row)
    → IsLawfulContent R → AreRecords R db → IsNodeId node
    → IsStory (node_id.canon node) (ticks_of time) (pos (pico_of time)) (cells (db 1)) rows
    → flat_map records_in rows ≡ told.versions R node time
story_found R db node time rows l stand ok at =
    let here = filter (told.is_at node time) R in
    let here_rows : filter (is_at (node_id.canon node) (ticks_of time) (pos (pico_of time)))
    (map row_of R) ≡ map row_of here =
    filter-map (is_at (node_id.canon node) (ticks_of time) (pos (pico_of time))) row_of R
    ∙ ap (map row_of) (filter_as _ (told.is_at node time) R
    (λ r h. is_at_as node time r ok (each_record R l r h).0.node)) in
    let some : IsPermutation (map row_of here) rows =
    IsPermutation-trans _ _ _ (subst
    (λ xs. IsPermutation xs (filter
    (is_at (node_id.canon node) (ticks_of time) (pos (pico_of time))) (cells (db 1)))) here_rows
    (IsPermutation-filter (is_at (node_id.canon node) (ticks_of time) (pos (pico_of time)))
    (map row_of R) (cells (db 1)) stand)) at.same in
    let sorted : IsPermutation (told.versions R node time) here =
    subst (λ xs. IsPermutation xs here) (sort_same told.record_stamp_cmp here)
    (IsPermutation-sort_by told.record_stamp_cmp stamp_total here) in
    let same : IsPermutation (map row_of (told.versions R node time)) rows =
    IsPermutation-trans _ _ _ (IsPermutation-map row_of (told.versions R node time) here sorted)
    some in
    let up : IsAscending (λ a b. row_stamp_cmp a b ≡ Less)
    (map row_of (told.versions R node time)) =
    ascending-map (λ a b. row_stamp_cmp a b ≡ Less) row_of (told.versions R node time)
    (ascending_weaker (λ a b. told.record_stamp_cmp a b ≡ Less)
    (λ a b. row_stamp_cmp (row_of a) (row_of b) ≡ Less) (λ a b h. stamps_as a b ∙ h)
    (told.versions R node time) (ascends _ (told.versions R node time)
    (story_rises R node time (closed_stamps R l.closed)))) in
    let is : rows ≡ map row_of (told.versions R node time) =
    sorted_unique row_stamp_cmp row_stamp_total
    (map row_of (told.versions R node time)) rows up same at.sorted in
    ap (flat_map records_in) is ∙ records_back (told.versions R node time)
    (λ r h. each_record R l r (has_from_filter (told.is_at node time) R r
    (has_from_sort_by told.record_stamp_cmp stamp_total here r h)).0)

-- a query's rows, read as records
pub records_found : (db : Trees) (node : NodeId) (time : ℤ) (bytes : List ℕ) (rows : List Row)
    (items : List Record) → IsFilled db → IsNodeId node → bytes ≡ node_id.canon node
    → IsStory bytes (ticks_of time) (pos (pico_of time)) (cells (db 1)) rows
    → items ≡ flat_map records_in rows → items ≡ told.versions (content_in db) node time
records_found db node time bytes rows items (R, l, stand) ok is at read =
    read ∙ story_found R db node time rows l stand ok
    (subst (λ b. IsStory b (ticks_of time) (pos (pico_of time)) (cells (db 1)) rows) is at)
    ∙ ap (λ S. told.versions S node time) (sym (content_is R db l stand))

none_there : (R : Content) (node : NodeId) (time : ℤ) → ((r : Record) → Has R r → r.node ≡ node → ⊥)
    → told.versions R node time ≡ []
none_there R node time none = ap (sort_by told.record_stamp_cmp) (go R none)
  where
    go : (S : Content) → ((r : Record) → Has S r → r.node ≡ node → ⊥)
        → filter (told.is_at node time) S ≡ []
    go [] none = refl
    go (r ∷ S) none = by (same_node r.node node) refl (go S (λ z h. none z (inr h)))
      where
        by : (b : Bool) → same_node r.node node ≡ b → filter (told.is_at node time) S ≡ []
            → cond (b && int_eq r.time time) (r ∷ filter (told.is_at node time) S)
            (filter (told.is_at node time) S) ≡ []
        by true e more = absurd (none r (inl refl) ((Decides-is_same node_code r.node node).0 e))
        by false e more = more

pub node_within : (r : Record) → length (node_id.canon r.node) ≤ length (fields.canon r)
node_within r = omega (arith, fields_length r)

-- a node that is too long for a record has none
pub none_found : (db : Trees) (node : NodeId) (time : ℤ) → IsFilled db
    → longest < length (node_id.canon node) → [] ≡ told.versions (content_in db) node time
none_found db node time (R, l, stand) long =
    sym (ap (λ S. told.versions S node time) (content_is R db l stand)
    ∙ none_there R node time (λ r h e. let fits = (l.records r h).size in let in_it =
    node_within r in
    let too : longest < length (node_id.canon r.node) =
    subst (λ n. longest < length (node_id.canon n)) (sym e) long in
    absurd (omega (arith, fits, in_it, too))))

-- ---- the record of a name

abbrev named : ℕ → ℕ → Record → Bool
named origin number r = int_eq (pos r.origin) (pos origin) && int_eq (pos r.number) (pos number)

named_as : (origin number : ℕ) (r : Record)
    → is_named (pos origin) (pos number) (row_of r) ≡ named origin number r
named_as origin number r = ap₂ ◌&&◌ (ap is_eq (value_cmp-Int (pos r.origin) (pos origin)))
    (ap is_eq (value_cmp-Int (pos r.number) (pos number)))

any_named : (c : Record) (R : List Record)
    → list_any (same_record c) (filter (named c.origin c.number) R) ≡ list_any (same_record c) R
any_named c [] = refl
any_named c (r ∷ R) = go (named c.origin c.number r) (same_record c r) refl refl (any_named c R)
  where
    itself : same_record c r ≡ true → named c.origin c.number r ≡ true
    itself e = subst (λ (x : Record). named c.origin c.number x ≡ true)
        ((Decides-is_same record_code c r).0 e) (ap₂ ◌&&◌
        (ap is_eq (tied_itself int_cmp_total (pos c.origin)))
        (ap is_eq (tied_itself int_cmp_total (pos c.number))))

    go : (a b : Bool) → named c.origin c.number r ≡ a → same_record c r ≡ b
        → list_any (same_record c) (filter (named c.origin c.number) R) ≡ list_any (same_record c) R
        → list_any (same_record c) (cond a (r ∷ filter (named c.origin c.number) R)
        (filter (named c.origin c.number) R)) ≡ (b || list_any (same_record c) R)
    go true b p q more = rw (q, more) refl
    go false true p q more = absurd (true≢false (sym (itself q) ∙ p))
    go false false p q more = more

-- whether a record is among those that the rows of its name stand for
pub held_found : (db : Trees) (c : Record) (rows : List Row) (items : List Record) → IsFilled db
    → IsPermutation (filter (is_named (pos c.origin) (pos c.number)) (cells (db 1))) rows
    → items ≡ flat_map records_in rows
    → list_any (same_record c) items ≡ list_any (same_record c) (content_in db)
held_found db c rows items (R, l, stand) same read =
    let test = is_named (pos c.origin) (pos c.number) in
    let told_rows : filter test (map row_of R) ≡ map row_of (filter (named c.origin c.number) R) =
    filter-map test row_of R ∙ ap (map row_of)
    (filter_as (λ r. test (row_of r)) (named c.origin c.number) R
    (λ r h. named_as c.origin c.number r)) in
    let some : IsPermutation (map row_of (filter (named c.origin c.number) R)) rows =
    IsPermutation-trans _ _ _ (subst
    (λ xs. IsPermutation xs (filter test (cells (db 1)))) told_rows
    (IsPermutation-filter test (map row_of R) (cells (db 1)) stand)) same in
    let back = records_back (filter (named c.origin c.number) R)
    (λ r h. each_record R l r (has_from_filter (named c.origin c.number) R r h).0) in
    let them : IsPermutation (filter (named c.origin c.number) R) (flat_map records_in rows) =
    subst (λ xs. IsPermutation xs (flat_map records_in rows)) back
    (IsPermutation-flat_map records_in
    (map row_of (filter (named c.origin c.number) R)) rows some) in
    ap (list_any (same_record c)) read
    ∙ (sym (list_any-IsPermutation (same_record c) (filter (named c.origin c.number) R)
    (flat_map records_in rows) them) ∙ (any_named c R
    ∙ sym (ap (list_any (same_record c)) (content_is R db l stand))))
