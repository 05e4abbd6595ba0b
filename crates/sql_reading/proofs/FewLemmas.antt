-- That rows of a lawful content are all read, and that a walk over its times ends.
use Rattle.std.proofs.Common.{◌≡◌, ◌⊎◌, inl, inr, ℕ, ◌≤◌, zero, suc, ℤ, Bool, true, false, not, cond, List, [], ◌∷◌, length, map, filter, take, Option, Some, None, Ok, Err, Result, refl, sym, ap, subst, ◌∙◌, arith, IsPermutation, Ordering}
use Rattle.std.specs.List.{flat_map, dedup, dedup_from, list_any}
use Rattle.std.specs.Ordering.{int_eq, int_cmp, is_gt}
use Rattle.std.proofs.lemmas.List.{length-map, length-append, length-reverse}
use Rattle.std.proofs.lemmas.List.Sorted.{IsPermutation-sym}
use Rattle.sqlite_value.specs.Order.{Row}
use Rattle.sqlite_sql.specs.Query.{limited}
use Rattle.sqlite_trees.specs.Tree.{Trees}
use Rattle.sqlite.specs.State.{State, HasCleanDisk}
use Rattle.ua_binary.specs.declared.values.NodeId.{NodeId}
use Rattle.ua_variant.specs.DataValue.{data_value}
use Rattle.records.specs.Lists.{Has, sort_by, insert_sorted}
use Rattle.records.specs.Records.{name_cmp}
use Rattle.records.specs.Moments.{ticks_of, pico_of, pico_within}
use Rattle.records.specs.Contents.{Content}
use Rattle.records.specs.Spelling.{record_at}
use Rattle.records.specs.declared.record.Record.{Record}
use Rattle.records.specs.declared.fault.RecordFault.{RecordFault}
use Rattle.records.specs.declared.fault.RecordFault.TheVariants as memory
use Rattle.records.proofs.Sorting.{has-permutation, has_from_filter}
use Rattle.archive.proofs.Turning.{has_from_map}
use Rattle.archive.specs.Fault.{of_record}
use Rattle.archive.specs.Store.{IsLawfulContent}
use Rattle.archive.specs.Reading.{times, is_of, in_direction, is_past}
use Rattle.archive.specs.declared.fault.StoreFault.TheVariants.{Refused}
use Rattle.archive.specs.declared.reading.Direction.{Direction}
use Rattle.archive.specs.declared.reading.Direction.TheVariants.{Forward, Backward}
use Rattle.sql_tables.specs.Words.{cells, columns_of, IsPage, AreNextRows}
use Rattle.sql_tables.specs.Derived.{is_later, current_of, currents_of, current_columns}
use Rattle.sql_tables.specs.State.{shown_of, MayBeStopped, AreWhole, LeavesUnchanged}
use Rattle.sql_tables.specs.Rows.{row_of, records_in, content_in, spelled, found, IsFilled, HasNoRecords}
use Rattle.sql_tables.specs.Currents.{AreNextCurrents, ShowValues, value_columns}
use Rattle.sql_tables.proofs.RowLemmas.{each_record}
use Rattle.sql_reading.specs.Readable.{IsReadable, HasUnreadable}
use Rattle.sql_reading.specs.Walking.{stretch}
use Rattle.sql_reading.proofs.ReadableLemmas.{never_opening}
use Rattle.sql_reading.proofs.CurrentLemmas.{read_value}

-- ---- rows of a lawful content's records are read

pub all_read : (db : Trees) (rows : List Row) → IsFilled db
    → ((row : Row) → Has rows row → Has (cells (db 1)) row) → HasNoRecords rows → ⊥
all_read db rows (R, l, stand) among (row, there, none) =
    let r = has_from_map row_of R row (has-permutation (cells (db 1)) (map row_of R) row
    (IsPermutation-sym (map row_of R) (cells (db 1)) stand) (among row there)) in
    none r.0 (each_record R l r.0 r.1) (ap shown_of (sym r.2))

has_from_take : {X : Type 0} (n : ℕ) (xs : List X) (x : X) → Has (take n xs) x → Has xs x
has_from_take zero xs x h = absurd h
has_from_take (suc n) [] x h = absurd h
has_from_take (suc n) (y ∷ ys) x (inl e) = inl e
has_from_take (suc n) (y ∷ ys) x (inr h) = inr (has_from_take n ys x h)

has_from_limited : (limit : Option ℕ) (rows : List Row) (row : Row) → Has (limited limit rows) row
    → Has rows row
has_from_limited None rows row h = h
has_from_limited (Some n) rows row h = has_from_take n rows row h

pub among_sorted : (pass : Row → Bool) (all rows : List Row) → IsPermutation (filter pass all) rows
    → (row : Row) → Has rows row → Has all row
among_sorted pass all rows same row h = (has_from_filter pass all row
    (has-permutation rows (filter pass all) row (IsPermutation-sym (filter pass all) rows same) h)).0

pub among_page : (pass : Row → Bool) (cmp : Row → Row → Ordering) (limit : Option ℕ)
    (all rows : List Row) → IsPage pass cmp limit all rows → (row : Row) → Has rows row
    → Has all row
among_page pass cmp limit all rows page row h =
    among_sorted pass all page.ordered page.same row (has_from_limited limit page.ordered row
    (subst (λ rs. Has rs row) page.front h))

pub among_next : (d : Direction) (node : List ℕ) (time pico : ℤ) (limit : Option ℕ)
    (all rows : List Row) → AreNextRows d node time pico limit all rows → (row : Row) → Has rows row
    → Has all row
among_next Forward node time pico limit all rows page = among_page _ _ limit all rows page
among_next Backward node time pico limit all rows page = among_page _ _ limit all rows page

among_currents : (d : Direction) (node : List ℕ) (time pico far far_pico : ℤ) (limit : Option ℕ)
    (all rows : List Row) → AreNextCurrents d node time pico far far_pico limit all rows
    → (row : Row) → Has rows row → Has all row
among_currents Forward node time pico far far_pico limit all rows page =
    among_page _ _ limit all rows page
among_currents Backward node time pico far far_pico limit all rows page =
    among_page _ _ limit all rows page

-- what is shown of a row of currents2 that follows from a record's shows a value
readable : (R : Content) (rows : List Row) (r : Record) → IsLawfulContent R → Has R r
    → IsReadable (value_columns (current_of rows (row_of r)))
readable R rows r l h = record {
  time = (ticks_of r.time, refl);
  pico = (pico_of r.time, refl, pico_within r.time);
  extra = (_, refl);
  bytes = data_value.canon r.value;
  spelled = refl;
  value = (_, read_value r.value (each_record R l r h).0.value);
}

pub currents_read : (d : Direction) (db : Trees) (node : List ℕ) (time pico far far_pico : ℤ)
    (limit : Option ℕ) (rows : List Row) → AreWhole db
    → ShowValues (AreNextCurrents d node time pico far far_pico limit
    (map current_columns (db 4))) rows → HasUnreadable rows → ⊥
currents_read d db node time pico far far_pico limit rows whole page (c, there, none) =
    let all = cells (db 1) in
    let of = has_from_map value_columns page.whole c (subst (λ rs. Has rs c) page.shown there) in
    let top = λ (r : Row). not (list_any (is_later r) all) in
    let held = among_currents d node time pico far far_pico limit (map current_columns (db 4))
    page.whole page.are of.0 of.1 in
    let follows = has-permutation (map current_columns (db 4)) (currents_of all) of.0
    (IsPermutation-sym (currents_of all) (map current_columns (db 4)) whole.kept.currents) held in
    let from = has_from_map (current_of all) (filter top all) of.0 follows in
    let row = (has_from_filter top all from.0 from.1).0 in
    let R = whole.filled.0 in
    let r = has_from_map row_of R from.0 (has-permutation all (map row_of R) from.0
    (IsPermutation-sym (map row_of R) all whole.filled.2) row) in
    none (subst IsReadable (ap value_columns from.2 ∙ of.2)
    (subst (λ x. IsReadable (value_columns (current_of all x))) r.2
    (readable R all r.0 whole.filled.1 r.1)))

-- what rows that aren't read are told as
pub unread_told : {A B : Type 0} (a b : State) (v : A) (P : A → Type 0) (fault : RecordFault)
    (N : Type 0) (Q : B → Type 0) → LeavesUnchanged a b (Ok v) P → (fault ≡ memory.OutOfMemory) ⊎ N
    → (HasCleanDisk b → N → AreWhole a.now.trees → ⊥)
    → LeavesUnchanged {A = B} a b (Err (of_record fault)) Q
unread_told a b v P fault N Q h told never = record {
  answer = λ clean. tt;
  kept = λ clean ok. h.kept clean refl;
  met = never_opening fault;
  refused = λ clean is. go clean told is;
  crash = h.crash;
}
  where
    go : HasCleanDisk b → (fault ≡ memory.OutOfMemory) ⊎ N → of_record fault ≡ Refused
        → MayBeStopped a b ⊎ (AreWhole a.now.trees → ⊥)
    go clean (inl memory_out) is = absurd (let bad = sym (ap of_record memory_out) ∙ is in cc)
    go clean (inr none) is = inr (never clean none)

-- ---- how many times there are

kept_few : {X : Type 0} (p : X → Bool) (xs : List X) → length (filter p xs) ≤ length xs
kept_few p [] = omega arith
kept_few {X} p (x ∷ xs) = go (p x) (kept_few p xs)
  where
    go : (b : Bool) → length (filter p xs) ≤ length xs
        → length (cond b (x ∷ filter p xs) (filter p xs)) ≤ suc (length xs)
    go true few = omega (arith, few)
    go false few = omega (arith, few)

inserted : {X : Type 0} (cmp : X → X → Ordering) (x : X) (xs : List X)
    → length (insert_sorted cmp x xs) ≡ suc (length xs)
inserted cmp x [] = refl
inserted {X} cmp x (y ∷ ys) = go (is_gt (cmp x y)) (inserted cmp x ys)
  where
    go : (b : Bool) → length (insert_sorted cmp x ys) ≡ suc (length ys)
        → length (cond b (y ∷ insert_sorted cmp x ys) (x ∷ y ∷ ys)) ≡ suc (suc (length ys))
    go true e = ap suc e
    go false e = refl

sorted_many : {X : Type 0} (cmp : X → X → Ordering) (xs : List X)
    → length (sort_by cmp xs) ≡ length xs
sorted_many cmp [] = refl
sorted_many cmp (x ∷ xs) = inserted cmp x (sort_by cmp xs) ∙ ap suc (sorted_many cmp xs)

once_from : (k : ℤ) (ts : List ℤ)
    → length (dedup_from int_eq k ts) ≤ suc (length ts)
once_from k [] = omega arith
once_from k (t ∷ ts) = go (int_eq t k) (once_from k ts) (once_from t ts)
  where
    go : (b : Bool) → length (dedup_from int_eq k ts) ≤ suc (length ts)
        → length (dedup_from int_eq t ts) ≤ suc (length ts)
        → length (cond b (dedup_from int_eq k ts)
        (k ∷ dedup_from int_eq t ts)) ≤ suc (suc (length ts))
    go true p q = omega (arith, p)
    go false p q = omega (arith, q)

once_few : (ts : List ℤ) → length (dedup int_eq ts) ≤ length ts
once_few [] = omega arith
once_few (t ∷ ts) = once_from t ts

one_each : (rows : List Row) → length (flat_map records_in rows) ≤ length rows
one_each [] = omega arith
one_each (row ∷ rows) =
    omega (
      arith,
      length-append (records_in row) (flat_map records_in rows),
      at_most (record_at
          (spelled row)),
      one_each rows,
    )
  where
    at_most : (r : Result Record RecordFault) → length (found r) ≤ 1
    at_most (Ok r) = omega arith
    at_most (Err e) = omega arith

few_times : (db : Trees) (node : NodeId) → length (times (content_in db) node) ≤ length (db 1)
few_times db node =
    let R = content_in db in
    let mine = filter (is_of node) R in
    let at = map (λ (r : Record). r.time) mine in
    omega (
      arith,
      once_few (sort_by int_cmp at),
      sorted_many int_cmp at,
      length-map mine (λ (r : Record). r.time),
      kept_few (is_of node) R,
      sorted_many name_cmp (flat_map records_in (cells (db 1))),
      one_each (cells (db 1)),
      length-map (db 1) columns_of,
    )

turned : (d : Direction) (ts : List ℤ) → length (in_direction d ts) ≡ length ts
turned Forward ts = refl
turned Backward ts = length-reverse ts

-- there are no more times in a stretch than records
pub few_beyond : (db : Trees) (node : NodeId) (d : Direction) (place far : ℤ)
    → length (stretch d place far (times (content_in db) node)) ≤ length (db 1)
few_beyond db node d place far =
    let ts = times (content_in db) node in
    let beyond = filter (is_past d place) (in_direction d ts) in
    omega (
      arith,
      kept_few (λ t. not (is_past d far t)) beyond,
      kept_few (is_past d place) (in_direction d ts),
      turned d ts,
      few_times db node,
    )
