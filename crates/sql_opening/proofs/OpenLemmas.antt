-- Records that come in turn are a closed content.
use Rattle.std.proofs.Common.{◌≡◌, ℕ, ◌+◌, ◌≤◌, ◌<◌, nat_lt, ◌==◌, pos, ◌≤ℤ◌, ◌<ℤ◌, int_lt, Bool, true, false, ◌&&◌, cond, List, [], ◌∷◌, ◌++◌, refl, sym, ap, subst, ◌∙◌, arith, inl, inr, eq-eqb, ◌⊎◌, is_gt, append_assoc, append-nil}
use Rattle.std.proofs.lemmas.Bool.{and_parts, eqb-true, ltb-true, true≢false}
use Rattle.std.proofs.lemmas.Int.{ints}
use Rattle.std.specs.List.{AllByRecursion}
use Rattle.records.specs.Lists.{Has, sort_by}
use Rattle.std.specs.List.{flat_map}
use Rattle.sql_tables.specs.Rows.{records_in}
use Rattle.records.specs.Records.{name_cmp}
use Rattle.records.specs.Contents.{Content, IsClosed, IsNext, vec, last_tick, put}
use Rattle.records.specs.Spelling.{IsRecord}
use Rattle.records.specs.declared.record.Record.{Record}
use Rattle.records.proofs.ChangeLemmas.{vec_next_own, vec_next_other, last_next_own, last_next_other}
use Rattle.records.proofs.LearnLemmas.{closed-next, lt_from_test}
use Rattle.records.proofs.PutLemmas.{has_from_put}
use Rattle.archive.specs.Store.{IsLawfulContent}
use Rattle.std.proofs.Common.{map, IsPermutation}
use Rattle.std.proofs.lemmas.List.Sorted.{IsPermutation-sym}
use Rattle.sqlite_value.specs.Order.{Row}
use Rattle.sqlite_trees.specs.Tree.{Trees}
use Rattle.records.proofs.Sorting.{all-has}
use Rattle.sql_tables.specs.Words.{cells}
use Rattle.sql_tables.specs.Rows.{row_of, content_in, AreRecords, IsFilled}
use Rattle.sql_tables.proofs.RowLemmas.{content_is, records_back, record_again}
use Rattle.sql_tables.specs.Rows.{IsNoRecords}
use Rattle.sql_tables.specs.Words.{name_order}
use Rattle.sql_tables.proofs.Texts.{all_text}
use Rattle.sql_tables.proofs.QueryLemmas.{begins_named}
use Rattle.sql_schema.specs.Tables.{IsArchiveSchema}
use Rattle.sql_schema.proofs.StandingLemmas.{archive_as}
use Rattle.std.proofs.Common.{rules, IsSorted}
use Rattle.records.specs.declared.fault.RecordFault.{RecordFault}
use Rattle.records.specs.declared.fault.RecordFault.TheVariants as memory
use Rattle.archive.specs.Fault.{of_record}
use Rattle.sql_tables.specs.State.{shown_of}
use Rattle.sql_tables.proofs.QueryLemmas.{shown_all}
use Rattle.std.proofs.Common.{Result, Ok, Err, IfOk, IfErr, not, negsuc, length}
use Rattle.std.proofs.lemmas.Slice.Eq.{bytes_eq-Decides}
use Rattle.std.proofs.lemmas.List.Sorted.{length_permutation, All-permutation}
use Rattle.std.proofs.lemmas.List.Elements.{recursion_from_All, All-from_recursion}
use Rattle.sqlite_value.specs.Order.{column}
use Rattle.sqlite_value.specs.declared.value.Value.{Value}
use Rattle.sqlite_value.specs.declared.value.Value.TheVariants.{Null, Int, Real, Text, Blob as Bytes}
use Rattle.sqlite.specs.Effect.{Database}
use Rattle.sqlite.specs.State.{State, HasCleanDisk, IsUnchanged, Begins, Survives}
use Rattle.sqlite.proofs.StateLemmas.{survives_then}
use Rattle.sqlite.proofs.Callers.{one_permutation}
use Rattle.archive.specs.declared.fault.StoreFault.{StoreFault}
use Rattle.archive.specs.declared.fault.StoreFault.TheVariants.{OutOfMemory, WrongArchive, WrongReplica, Refused}
use Rattle.archive.specs.Store.{IsOfOpening, fault_in}
use Rattle.archive.specs.Listed.{is_broken}
use Rattle.sql_tables.specs.Rows.{IsStored, meta_row, meta_columns, meta_cells}
use Rattle.sql_tables.specs.State.{MayBeStopped, AreWhole, LeavesUnchanged, Found, FoundOr, Holds, IsNewArchive}
use Rattle.sql_tables.proofs.AskLemmas.{stops_behind}
use Rattle.std.proofs.Common.{max, ap₂}
use Rattle.std.specs.Int.{int_max}
use Rattle.std.proofs.lemmas.List.{map-append}
use Rattle.std.proofs.lemmas.Int.{clamps}
use Rattle.sqlite_keyed.proofs.ListLemmas.{all-append}
use Rattle.records.specs.Contents.{top}
use Rattle.records.proofs.ContentsParts.{number_from}
use Rattle.sql_opening.specs.Latest.{Remembers, Raises}
use Rattle.sql_opening.specs.declared.checking.Mark.{Mark}
use Rattle.sql_opening.specs.declared.checking.Walk.{Walk}
use Rattle.sql_opening.specs.Opening.{mark_of, nowhere, comes_next, are_in_turn, mark_behind, HasWalked, HasChecked, AreOutOfTurn, BeginOutOfTurn, has_number, has_bytes, judged_row, judged_as, checked_meta, AnyReason, AreNoStores, IsNoStore, Opens, OpensAll}

-- the content ends with this mark: its origin's last number and tick, and no later origin
record Ends (P : Content) (m : Mark) : Type 0 where
  number : vec P m.origin ≡ m.number
  tick : last_tick P m.origin ≡ m.tick
  later : (origin : ℕ) → m.origin < origin → (vec P origin ≡ 0) × (last_tick P origin ≡ pos 0)
  names : (z : Record) → Has P z → (z.origin < m.origin)
      ⊎ ((z.origin ≡ m.origin) × (z.number ≤ m.number))

put_last : (r : Record) (P : Content) → ((z : Record) → Has P z → is_gt (name_cmp r z) ≡ true)
    → put r P ≡ P ++ r ∷ []
put_last r [] above = refl
put_last r (x ∷ P) above = rw (above x (inl refl))
    (ap (λ l. x ∷ l) (put_last r P (λ z h. above z (inr h))))

above_other : (r z : Record) → z.origin < r.origin → is_gt (name_cmp r z) ≡ true
above_other r z l = grind arith

above_same : (r z : Record) → z.origin ≡ r.origin → z.number < r.number
    → is_gt (name_cmp r z) ≡ true
above_same r z e l = grind (arith, e)

abbrev Follows : Content → Mark → Record → Type 0
Follows P m r = IsNext P r × ((z : Record) → Has P z → is_gt (name_cmp r z) ≡ true)

next_in : (P : Content) (m : Mark) (r : Record) → Ends P m → IsRecord r → comes_next m r ≡ true
    → Follows P m r
next_in P m r at ok h = go (nat_lt m.origin r.origin) refl h
  where
    tick_from : pos 1 ≤ℤ r.tick
    tick_from = ok.1.0

    go : (b : Bool) → nat_lt m.origin r.origin ≡ b
        → cond b (r.number == 1) ((m.origin == r.origin) && (r.number == (m.number + 1))
        && int_lt m.tick r.tick) ≡ true → Follows P m r
    go true p e =
        let up = ltb-true m.origin r.origin p in
        let first = eqb-true r.number 1 e in
        let none = at.later r.origin up in (
          record {
            number = first ∙ sym (ap (λ n. n + 1) none.0);
            rises =
                subst (λ t. t <ℤ r.tick) (sym none.1) (grind (arith, ints, tick_from));
            within =
                ok.1.1;
          },
          λ z has. above_other r z (elim
              (at.names z has) [ inl l ↦ omega (arith, l, up) | inr s ↦ omega (arith, s.0, up) ]),
        )
    go false p e =
        let parts = and_parts ((m.origin == r.origin) && (r.number == (m.number + 1)))
        (int_lt m.tick r.tick) e in
        let more = and_parts (m.origin == r.origin) (r.number == (m.number + 1)) parts.0 in
        let same = eqb-true m.origin r.origin more.0 in
        let number = eqb-true r.number (m.number + 1) more.1 in
        let rises = lt_from_test m.tick r.tick parts.1 in (
          record {
            number = number ∙ ap (λ n. n + 1) (sym at.number ∙ ap (vec P) same);
            rises =
                subst (λ t. t <ℤ r.tick) (sym at.tick ∙ ap (last_tick P) same) rises;
            within =
                ok.1.1;
          },
          λ z has. elim (at.names z has) [
            | inl l ↦
                above_other r z (subst (λ o. z.origin < o) same l)
            | inr s ↦
                above_same r z (s.0 ∙ same) (omega (arith, s.1, number))
          ],
        )

ends_then : (P : Content) (m : Mark) (r : Record) → Ends P m → IsNext P r → comes_next m r ≡ true
    → Ends (put r P) (mark_of r)
ends_then P m r at next h = record {
  number = vec_next_own P r next;
  tick = last_next_own P r next;
  later = λ origin up.
      let apart : r.origin ≡ origin → ⊥ = λ e. absurd (omega (arith, e, up)) in
      let none = at.later origin (omega (arith, up, not_below)) in
      (vec_next_other P r origin apart ∙ none.0, last_next_other P r origin apart ∙ none.1);
  names = λ z has. elim (has_from_put r P z has) [
    | inl e ↦ inr (
      sym (ap (λ (x : Record). x.origin) e),
      omega (arith, ap (λ (x : Record). x.number) e),
    )
    | inr old ↦ placed z (at.names z old)
  ];
}
  where
    which : (m.origin < r.origin) ⊎ ((m.origin ≡ r.origin) × (r.number ≡ m.number + 1))
    which = go (nat_lt m.origin r.origin) refl h
      where
        go : (b : Bool) → nat_lt m.origin r.origin ≡ b
            → cond b (r.number == 1) ((m.origin == r.origin) && (r.number == (m.number + 1))
            && int_lt m.tick r.tick) ≡ true
            → (m.origin < r.origin) ⊎ ((m.origin ≡ r.origin) × (r.number ≡ m.number + 1))
        go true p e = inl (ltb-true m.origin r.origin p)
        go false p e = let parts =
            and_parts ((m.origin == r.origin) && (r.number == (m.number + 1)))
            (int_lt m.tick r.tick) e in let more =
            and_parts (m.origin == r.origin) (r.number == (m.number + 1)) parts.0 in
            inr (eqb-true m.origin r.origin more.0, eqb-true r.number (m.number + 1) more.1)

    not_below : m.origin ≤ r.origin
    not_below = elim which [ inl l ↦ omega (arith, l) | inr s ↦ omega (arith, s.0) ]

    placed : (z : Record) → (z.origin < m.origin) ⊎ ((z.origin ≡ m.origin) × (z.number ≤ m.number))
        → (z.origin < r.origin) ⊎ ((z.origin ≡ r.origin) × (z.number ≤ r.number))
    placed z (inl l) = inl (omega (arith, l, not_below))
    placed z (inr s) = elim which [
      | inl l ↦ inl (omega (arith, l, s.0))
      | inr e ↦
          inr (s.0 ∙ e.0, omega (arith, s.1, e.1))
    ]

turn : (P : Content) (m : Mark) (rs : List Record) → IsClosed P → Ends P m
    → ((r : Record) → Has rs r → IsRecord r) → are_in_turn m rs ≡ true → IsClosed (P ++ rs)
turn P m [] closed at each h = subst IsClosed (sym (append-nil P)) closed
turn P m (r ∷ rs) closed at each h =
    let parts = and_parts (comes_next m r) (are_in_turn (mark_of r) rs) h in
    let both = next_in P m r at (each r (inl refl)) parts.0 in
    let last = put_last r P both.1 in
    let more = turn (put r P) (mark_of r) rs (closed-next P r closed both.0)
    (ends_then P m r at both.0 parts.0) (λ z has. each z (inr has)) parts.1 in
    subst IsClosed (ap (λ l. l ++ rs) last ∙ append_assoc P (r ∷ []) rs) more

nothing_closed : IsClosed []
nothing_closed = record {
  ordered = tt;
  numbers = λ r h. absurd h;
  whole =
      λ o n a b. absurd (omega (arith, a, b));
  ticks = λ r h. absurd h;
  rising = λ r s h. absurd h;
}

-- records that come in turn are a lawful content
pub lawful_in_turn : (rs : List Record) → ((r : Record) → Has rs r → IsRecord r)
    → are_in_turn nowhere rs ≡ true → IsLawfulContent rs
lawful_in_turn rs each h = record {
  closed = turn [] nowhere rs nothing_closed
      (record {
        number = refl;
        tick = refl;
        later = λ o up. (refl, refl);
        names =
            λ z has. absurd has;
      }) each h;
  records = λ r has. (each r has).0;
}

-- what a walk over all rows has shown
pub checked_is : (db : Trees) (walk : Walk) → HasChecked db walk
    → IsFilled db × Remembers (content_in db) walk.latest.numbers walk.latest.tick
checked_is db walk (rows, same, w) =
    let is : map row_of w.items ≡ rows = w.spelled ∙ shown_all (db 1) rows same in
    let lawful = lawful_in_turn w.items (λ r has. all-has IsRecord w.items r w.each has) w.turn in
    let stands : AreRecords w.items db =
    subst (λ xs. IsPermutation xs (cells (db 1))) (sym is)
    (IsPermutation-sym (cells (db 1)) rows same) in (
      (w.items, lawful, stands),
      subst (λ R. Remembers R walk.latest.numbers walk.latest.tick)
          (sym (content_is w.items db lawful stands)) w.remembered,
    )

-- rows that were gone over are those of a lawful content
pub walked_lawful : (rows : List Row) (walk : Walk) → HasWalked rows walk
    → (R : Content) × IsLawfulContent R × (map row_of R ≡ map shown_of rows)
walked_lawful rows walk w = (
  w.items,
  lawful_in_turn w.items (λ r has. all-has IsRecord w.items r w.each has) w.turn,
  w.spelled,
)

-- ---- one row more

turn_more : (m : Mark) (rs : List Record) (r : Record) → are_in_turn m rs ≡ true
    → comes_next (mark_behind m rs) r ≡ true → are_in_turn m (rs ++ r ∷ []) ≡ true
turn_more m [] r h next = rw next refl
turn_more m (x ∷ rs) r h next = let parts =
    and_parts (comes_next m x) (are_in_turn (mark_of x) rs) h in
    rw parts.0 (turn_more (mark_of x) rs r parts.1 next)

mark_more : (m : Mark) (rs : List Record) (r : Record) → mark_behind m (rs ++ r ∷ []) ≡ mark_of r
mark_more m [] r = refl
mark_more m (x ∷ rs) r = mark_more (mark_of x) rs r

vec_end : (R : Content) (r : Record) (o : ℕ) → vec (R ++ r ∷ []) o ≡ max (vec R o) (number_from o r)
vec_end [] r o = omega arith
vec_end (x ∷ R) r o = omega (arith, vec_end R r o)

top_end : (R : Content) (r : Record) → top (R ++ r ∷ []) ≡ int_max (top R) r.tick
top_end [] r = omega (arith, ints, clamps)
top_end (x ∷ R) r = omega (arith, ints, clamps, top_end R r)

pub walked_more : (rows : List Row) (row : Row) (before after : Walk) (r : Record)
    → HasWalked rows before → IsRecord r → shown_of row ≡ row_of r → comes_next before.last r ≡ true
    → after.last ≡ mark_of r
    → Raises r true before.latest.numbers before.latest.tick after.latest.numbers after.latest.tick
    → HasWalked (rows ++ row ∷ []) after
walked_more rows row before after r w ok is next last up = record {
  items = w.items ++ r ∷ [];
  spelled = map-append row_of w.items (r ∷ []) ∙ ap₂ ◌++◌ w.spelled (ap (λ c. c ∷ []) (sym is))
      ∙ sym (map-append shown_of rows (row ∷ []));
  each = all-append IsRecord w.items (r ∷ []) w.each (ok, tt);
  turn = turn_more nowhere w.items r w.turn (subst (λ m. comes_next m r ≡ true) w.mark next);
  mark = last ∙ sym (mark_more nowhere w.items r);
  remembered = record {
    lasts = λ o. up.lasts o ∙ (ap (λ n. max n (number_from o r)) (w.remembered.lasts o)
        ∙ sym (vec_end w.items r o));
    newest = up.newest ∙ (ap (λ t. int_max t r.tick) w.remembered.newest ∙ sym (top_end w.items r));
  };
}

-- ---- rows that aren't those of records in turn

-- the last of rows in turn is that of a record that comes next
last_in_turn : (rows : List Row) (row : Row) (m : Mark) (items : List Record)
    → map row_of items ≡ map shown_of (rows ++ row ∷ []) → AllByRecursion IsRecord items
    → are_in_turn m items ≡ true
    → (front : List Record) × (r : Record) × (map row_of front ≡ map shown_of rows)
    × AllByRecursion IsRecord front × IsRecord r × (shown_of row ≡ row_of r)
    × (comes_next (mark_behind m front) r ≡ true)
last_in_turn [] row m [] is each turn = absurd (search rules)
last_in_turn [] row m (r ∷ []) is each turn = let same : shown_of row ≡ row_of r = cc in
    ([], r, refl, tt, each.0, same, (and_parts (comes_next m r) true turn).0)
last_in_turn [] row m (r ∷ s ∷ items) is each turn = absurd (search rules)
last_in_turn (x ∷ rows) row m [] is each turn = absurd (search rules)
last_in_turn (x ∷ rows) row m (r ∷ items) is each turn =
    let parts = and_parts (comes_next m r) (are_in_turn (mark_of r) items) turn in
    let head : row_of r ≡ shown_of x = cc in
    let rest : map row_of items ≡ map shown_of (rows ++ row ∷ []) = cc in
    let more = last_in_turn rows row (mark_of r) items rest each.1 parts.1 in
    (r ∷ more.0, more.1, ap₂ ◌∷◌ head more.2, (each.0, more.3), more.4, more.5, more.6)

same_items : (a b : List Record) → AllByRecursion IsRecord a → AllByRecursion IsRecord b
    → map row_of a ≡ map row_of b → a ≡ b
same_items a b every each is = sym (records_back a (λ r has. all-has IsRecord a r every has))
    ∙ ap (flat_map records_in) is ∙ records_back b (λ r has. all-has IsRecord b r each has)

same_one : (a b : Record) → IsRecord a → IsRecord b → row_of a ≡ row_of b → a ≡ b
same_one a b one other is = let both : a ∷ [] ≡ b ∷ [] =
    sym (record_again a one) ∙ ap records_in is ∙ record_again b other in cc

pub no_turn : (rows : List Row) (row : Row) (fault : StoreFault)
    → (fault ≡ OutOfMemory) ⊎ ((fault ≡ Refused) × IsNoRecords row)
    → (fault ≡ OutOfMemory) ⊎ AreOutOfTurn (rows ++ row ∷ [])
no_turn rows row fault (inl memory) = inl memory
no_turn rows row fault (inr none) =
    inr (inl (λ items is each turn. let last = last_in_turn rows row nowhere items is each turn in
    none.1 last.1 last.4 last.5))

pub not_next : (rows : List Row) (row : Row) (walk : Walk) (r : Record) → HasWalked rows walk
    → IsRecord r → shown_of row ≡ row_of r → comes_next walk.last r ≡ false
    → AreOutOfTurn (rows ++ row ∷ [])
not_next rows row walk r w ok is late = inl (λ items spelled each turn.
    let last = last_in_turn rows row nowhere items spelled each turn in
    let front = same_items w.items last.0 w.each last.3 (w.spelled ∙ sym last.2) in
    let same = same_one r last.1 ok last.4 (sym is ∙ last.5) in
    let next = ap (λ m. comes_next m r) (w.mark ∙ ap (mark_behind nowhere) front)
    ∙ (ap (comes_next (mark_behind nowhere last.0)) same ∙ last.6) in
    absurd (true≢false (sym next ∙ late)))

-- a fault of reading a row, as one of the store
pub unread_as : (row : Row) (e : RecordFault) → (e ≡ memory.OutOfMemory) ⊎ IsNoRecords row
    → (of_record e ≡ OutOfMemory) ⊎ ((of_record e ≡ Refused) × IsNoRecords row)
unread_as row memory.OutOfMemory h = inl refl
unread_as row memory.Binary (inl is) = absurd (search rules)
unread_as row memory.Binary (inr none) = inr (refl, none)
unread_as row memory.BadField (inl is) = absurd (search rules)
unread_as row memory.BadField (inr none) = inr (refl, none)
unread_as row memory.NotCanonical (inl is) = absurd (search rules)
unread_as row memory.NotCanonical (inr none) = inr (refl, none)

-- the rows that a walk was given begin so
pub begins_out : (old new : State) (rows : List Row) → IsArchiveSchema old.now.schema
    → IsUnchanged old new → Begins all_text [] new rows → AreOutOfTurn rows
    → BeginOutOfTurn old.now.trees
begins_out old new rows known same begins so =
    record {
      rows = rows;
      rest = found.0;
      all =
          subst (λ (t : Trees). IsPermutation (cells (t 1)) (rows ++ found.0))
          (ap (λ (d : Database). d.trees) same.0.now_is) found.1;
      named = found.2;
      so = so;
    }
  where
    still : IsUnchanged new new
    still = (
      record {
        was_open = same.0.is_open;
        is_open = same.0.is_open;
        now_is =
            refl;
        committed_is = refl;
        mode = refl;
      },
      record { changes = refl; last_rowid = refl },
      refl,
    )

    found : (rest : List Row) × IsPermutation (cells (new.now.trees 1)) (rows ++ rest)
        × IsSorted name_order (rows ++ rest)
    found = begins_named new rows
        (archive_as (ap (λ (d : Database). d.schema) same.0.now_is) known) still
        begins

-- ---- whose store it is

number_is : (v : Value) (n : ℕ) → has_number v n ≡ true → v ≡ Int (pos n)
number_is Null n e = absurd (true≢false (sym e))
number_is (Int (pos m)) n e = ap (λ k. Int (pos k)) (eqb-true m n e)
number_is (Int (negsuc m)) n e = absurd (true≢false (sym e))
number_is (Real x) n e = absurd (true≢false (sym e))
number_is (Text t) n e = absurd (true≢false (sym e))
number_is (Bytes b) n e = absurd (true≢false (sym e))

bytes_are : (v : Value) (bytes : List ℕ) → has_bytes v bytes ≡ true → v ≡ Bytes bytes
bytes_are Null b e = absurd (true≢false (sym e))
bytes_are (Int m) b e = absurd (true≢false (sym e))
bytes_are (Real x) b e = absurd (true≢false (sym e))
bytes_are (Text t) b e = absurd (true≢false (sym e))
bytes_are (Bytes c) b e = ap Bytes ((bytes_eq-Decides c b).0 e)

pub judged_permuted : (format : ℕ) (id : List ℕ) (own : ℕ) (xs ys : List Row) → IsPermutation xs ys
    → judged_as format id own ys ≡ judged_as format id own xs
judged_permuted format id own [] [] same = refl
judged_permuted format id own [] (y ∷ ys) same =
    absurd (omega (arith, length_permutation [] (y ∷ ys) same))
judged_permuted format id own (x ∷ []) ys same =
    ap (judged_as format id own) (one_permutation x ys same)
judged_permuted format id own (x ∷ z ∷ xs) [] same =
    absurd (omega (arith, length_permutation (x ∷ z ∷ xs) [] same))
judged_permuted format id own (x ∷ z ∷ xs) (y ∷ []) same =
    absurd (omega (arith, length_permutation (x ∷ z ∷ xs) (y ∷ []) same))
judged_permuted format id own (x ∷ z ∷ xs) (y ∷ w ∷ ys) same = refl

pub four_columns : (rows : List Row) (found : List Row)
    → IsPermutation (map meta_columns rows) found → AllByRecursion (λ r. length r ≡ 4) found
four_columns rows found same = recursion_from_All (λ r. length r ≡ 4) found
    (All-permutation (λ r. length r ≡ 4) (map meta_columns rows) found same
    (All-from_recursion (λ r. length r ≡ 4) (map meta_columns rows) (each rows)))
  where
    each : (rs : List Row) → AllByRecursion (λ r. length r ≡ 4) (map meta_columns rs)
    each [] = tt
    each (r ∷ rs) = (refl, each rs)

row_passed : (format : ℕ) (id : List ℕ) (own : ℕ) (a b c d : Value)
    → judged_row format id own (a ∷ b ∷ c ∷ d ∷ []) ≡ Ok tt
    → a ∷ b ∷ c ∷ d ∷ [] ≡ Int (pos 1) ∷ Int (pos format) ∷ Bytes id ∷ Int (pos own) ∷ []
row_passed format id own a b c d e =
    go (has_bytes c id) (has_number d own) (has_number a 1 && has_number b format) refl refl refl e
  where
    go : (x y z : Bool) → has_bytes c id ≡ x → has_number d own ≡ y
        → (has_number a 1 && has_number b format) ≡ z
        → ◌≡◌ {A = Result Unit StoreFault} (cond (not x) (Err WrongArchive)
        (cond (not y) (Err WrongReplica) (cond (not z) (Err Refused) (Ok tt)))) (Ok tt)
        → a ∷ b ∷ c ∷ d ∷ [] ≡ Int (pos 1) ∷ Int (pos format) ∷ Bytes id ∷ Int (pos own) ∷ []
    go true true true p q r e =
        let both = and_parts (has_number a 1) (has_number b format) r in
        let is_c = bytes_are c id p in
        let is_d = number_is d own q in
        let is_a = number_is a 1 both.0 in
        let is_b = number_is b format both.1 in
        ap (λ v. v ∷ b ∷ c ∷ d ∷ []) is_a ∙ ap (λ v. Int (pos 1) ∷ v ∷ c ∷ d ∷ []) is_b
        ∙ ap (λ v. Int (pos 1) ∷ Int (pos format) ∷ v ∷ d ∷ []) is_c
        ∙ ap (λ v. Int (pos 1) ∷ Int (pos format) ∷ Bytes id ∷ v ∷ []) is_d
    go true true false p q r e = absurd cc
    go true false z p q r e = absurd cc
    go false y z p q r e = absurd cc

pub meta_passed : (format : ℕ) (id : List ℕ) (own : ℕ) (rows : List Row)
    → judged_as format id own (map meta_columns rows) ≡ Ok tt
    → map meta_columns rows ≡ (Int (pos 1) ∷ Int (pos format) ∷ Bytes id ∷ Int (pos own) ∷ []) ∷ []
meta_passed format id own [] e = absurd cc
meta_passed format id own (r ∷ []) e =
    ap (λ x. x ∷ []) (row_passed format id own (column r 0) (column r 2) (column r 3)
    (column r 4) e)
meta_passed format id own (r ∷ s ∷ rows) e = absurd cc

pub opened_by : {A : Type 0} (id : List ℕ) (own : ℕ) (a b c : State) (P : Trees → A → Type 0)
    (result : Result A StoreFault)
    → Found a b (Ok (Ok tt)) (λ told. told ≡ checked_meta id own (meta_cells a.now.trees))
    → FoundOr (BeginOutOfTurn b.now.trees) b c result (λ l. IsFilled b.now.trees × P b.now.trees l)
    → (HasCleanDisk c → HasCleanDisk b) → Opens id own a c (P a.now.trees) result
opened_by {A} id own a b c P result one two early = record {
  opened = λ clean. go result (one.kept (early clean) refl) (one.answer (early clean))
      (two.kept clean) (two.answer clean);
  wrong = λ clean. never result two.met;
  refused = λ clean. why result (one.kept (early clean) refl) (two.refused clean);
  crash = survives_then a b c _ _ _ (λ clean db none. none)
      (λ clean db none. none) one.crash two.crash;
}
  where
    go : (r : Result A StoreFault) → Holds a b
        → Ok tt ≡ checked_meta id own (meta_cells a.now.trees)
        → (is_broken (fault_in r) ≡ false → Holds b c)
        → IfOk r (λ l. IsFilled b.now.trees × P b.now.trees l)
        → IfOk r (λ l. Holds a c × IsStored id own a.now.trees × P a.now.trees l)
    go (Ok l) s is more filled =
        let t = more refl in
        let same = ap (λ (d : Database). d.trees) s.same in
        let all = subst (λ d. IsFilled d × P d l) same filled in (
          record { rests = t.rests; same = t.same ∙ s.same },
          record {
            content = all.0.0;
            lawful = all.0.1;
            stands =
                record { meta = meta_passed 2 id own (a.now.trees 0) (sym is); records = all.0.2 };
          },
          all.1,
        )
    go (Err f) s is more filled = tt

    why : (r : Result A StoreFault) → Holds a b
        → IfErr r (λ f. f ≡ Refused → MayBeStopped b c ⊎ BeginOutOfTurn b.now.trees)
        → IfErr r (λ f. f ≡ Refused → MayBeStopped a c ⊎ AreNoStores id own a.now.trees)
    why (Ok l) s h = tt
    why (Err f) s h = λ is. elim (h is) [
      | inl stopped ↦ inl (stops_behind a b c _ one.crash stopped)
      | inr so ↦ inr (inr (subst BeginOutOfTurn (ap (λ (d : Database). d.trees) s.same) so))
    ]

    never : (r : Result A StoreFault) → IfErr r (λ f. IsOfOpening f → ⊥)
        → IfErr r (λ f. IsOfOpening f → checked_meta id own (meta_cells a.now.trees) ≡ Err f)
    never (Ok t) h = tt
    never (Err f) h = λ o. absurd (h o)

-- where nothing is said of why we refuse
pub any_reason : (P : Type 0) → P ⊎ AnyReason
any_reason P = inr tt

-- the ways in which a walk is refused
pub walked_told : {A : Type 0} (a b : State) (fault : StoreFault) (P : A → Type 0)
    → (fault ≡ OutOfMemory) ⊎ (fault ≡ Refused)
    → (HasCleanDisk b → (fault ≡ OutOfMemory) ⊎ BeginOutOfTurn a.now.trees)
    → (HasCleanDisk b → Holds a b) → Survives a b (λ _. ⊥)
    → FoundOr (BeginOutOfTurn a.now.trees) {A = A} a b (Err fault) P
walked_told a b fault P named why kept crash = record {
  answer = λ clean. tt;
  kept = λ clean ok. kept clean;
  met = own named;
  refused = λ clean is. go is (why clean);
  crash = crash;
}
  where
    own : (fault ≡ OutOfMemory) ⊎ (fault ≡ Refused) → IsOfOpening fault → ⊥
    own (inl e) (inl o) = absurd (let bad = sym e ∙ o in cc)
    own (inl e) (inr o) = absurd (let bad = sym e ∙ o in cc)
    own (inr e) (inl o) = absurd (let bad = sym e ∙ o in cc)
    own (inr e) (inr o) = absurd (let bad = sym e ∙ o in cc)

    go : fault ≡ Refused → (fault ≡ OutOfMemory) ⊎ BeginOutOfTurn a.now.trees
        → MayBeStopped a b ⊎ BeginOutOfTurn a.now.trees
    go is (inl e) = absurd (let bad = sym e ∙ is in cc)
    go is (inr so) = inr so

pub walked_failed : {A : Type 0} (O : Type 0) (a c : State) (fault : StoreFault) (P : A → Type 0)
    → Found {A = A} a c (Err fault) P → FoundOr O {A = A} a c (Err fault) P
walked_failed O a c fault P h = record {
  answer = h.answer;
  kept = h.kept;
  met = h.met;
  refused = λ clean is. elim (h.refused clean is) [ inl stopped ↦ inl stopped | inr n ↦ absurd n ];
  crash = h.crash;
}

-- the ways in which an opening is refused
pub opened_err : {A B : Type 0} (id : List ℕ) (own : ℕ) (a b : State) (fault : StoreFault)
    (P : A → Type 0) (Q : B → Type 0) → Found {A = A} a b (Err fault) P
    → Opens {A = B} id own a b Q (Err fault)
opened_err id own a b fault P Q h = record {
  opened = λ clean. tt;
  wrong = λ clean o. absurd (h.met o);
  refused = λ clean is. elim (h.refused clean is) [ inl stopped ↦ inl stopped | inr n ↦ absurd n ];
  crash = h.crash;
}

pub opened_told : {B : Type 0} (id : List ℕ) (own : ℕ) (a b : State) (fault : StoreFault)
    (Q : B → Type 0)
    → Found a b (Ok (Err fault)) (λ told. told ≡ checked_meta id own (meta_cells a.now.trees))
    → Opens {A = B} id own a b Q (Err fault)
opened_told id own a b fault Q h = record {
  opened = λ clean. tt;
  wrong = λ clean o. sym (h.answer clean);
  refused = λ clean is. inr (inl (sym (h.answer clean) ∙ ap (λ f. Err f) is));
  crash = h.crash;
}

pub opened_all_err : {A B : Type 0} (id : List ℕ) (own : ℕ) (a b : State) (fault : StoreFault)
    (P : A → Type 0) (Q : B → Type 0) → Opens {A = A} id own a b P (Err fault)
    → OpensAll {A = B} id own a b Q (Err fault)
opened_all_err id own a b fault P Q h = record {
  opened = λ clean. tt;
  wrong = h.wrong;
  refused = λ clean is. elim (h.refused clean is)
      [ inl stopped ↦ inl stopped | inr none ↦ inr (inl none) ];
  crash = h.crash;
}

pub opened_kept_err : {A B C : Type 0} (id : List ℕ) (own : ℕ) (a b c : State) (v : A)
    (fault : StoreFault) (P : A → Type 0) (Q : B → Type 0) (S : C → Type 0)
    → Opens id own a b P (Ok v) → LeavesUnchanged {A = B} b c (Err fault) Q
    → OpensAll {A = C} id own a c S (Err fault)
opened_kept_err id own a b c v fault P Q S one two = record {
  opened = λ clean. tt;
  wrong = λ clean o. absurd (two.met o);
  refused = λ clean is. go (one.opened (omega (arith, two.crash.clean, clean))).0
      (two.refused clean is);
  crash = survives_then a b c _ _ _ (λ clean db none. none)
      (λ clean db none. none) one.crash two.crash;
}
  where
    go : Holds a b → MayBeStopped b c ⊎ (AreWhole b.now.trees → ⊥)
        → MayBeStopped a c ⊎ IsNoStore id own a.now.trees
    go s (inl stopped) = inl (stops_behind a b c _ one.crash stopped)
    go s (inr so) = inr (inr (subst (λ d. AreWhole d → ⊥)
        (ap (λ (d : Database). d.trees) s.same) so))

-- tables without records hold nothing
pub nothing_in : (db : Trees) → db 1 ≡ [] → content_in db ≡ []
nothing_in db none = ap (λ rows. sort_by name_cmp (flat_map records_in (cells rows))) none

same_number : (n : ℕ) → (n == n) ≡ true
same_number n = eq-eqb n n refl

pub own_row : (id : List ℕ) (own : ℕ) → checked_meta id own (meta_row id own ∷ []) ≡ Ok tt
own_row id own = rw ((bytes_eq-Decides id id).1 refl, same_number own) refl

-- new tables are those of their archive and replica
pub new_is_own : (id : List ℕ) (own : ℕ) (db : Trees) → IsNewArchive id (pos own) db
    → checked_meta id own (meta_cells db) ≡ Ok tt
new_is_own id own db new = ap (λ rows. checked_meta id own (map meta_columns rows)) new.meta
    ∙ own_row id own
