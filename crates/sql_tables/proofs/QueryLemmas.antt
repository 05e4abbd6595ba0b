-- What the queries answer.
use Rattle.std.proofs.Common.{◌≡◌, ℕ, ℤ, pos, negsuc, List, [], ◌∷◌, ◌++◌, map, filter, flat_map, codes, cond, Bool, true, false, ◌&&◌, Some, None, refl, sym, ap, ap₂, subst, ◌∙◌, IsPermutation, IsSorted, Ordering, is_eq, is_lt}
use Rattle.std.specs.List.{list_all, AllByRecursion}
use Rattle.std.specs.Ordering.{ordering_then}
use Rattle.std.proofs.lemmas.List.Elements.{recursion_from_All, All-from_recursion}
use Rattle.std.proofs.lemmas.List.Sorted.{All-permutation, IsPermutation-map}
use Rattle.sqlite_value.specs.declared.value.Value.{Value}
use Rattle.sqlite_value.specs.declared.value.Value.TheVariants.{Null, Int, Real, Text, Blob}
use Rattle.sqlite_value.specs.declared.keys.Collation.TheVariants.{Binary}
use Rattle.sqlite_value.specs.declared.keys.Key.{Key}
use Rattle.sqlite_value.specs.Keys.{ascending}
use Rattle.sqlite_value.specs.Order.{Row, column, value_cmp}
use Rattle.sqlite_value.proofs.OrderLemmas.{value_cmp-Null, then-Equal}
use Rattle.sqlite_sql.specs.Ops.{binary, is_true, from_truth, is_null}
use Rattle.sqlite_sql.specs.Term.{Term, case, lit, col, op2, holds}
use Rattle.sqlite_sql.specs.declared.ops.BinaryOp.TheVariants.{Compare, Or}
use Rattle.sqlite_sql.specs.declared.ops.CompareOp.TheVariants.{Eq, Gt, Ge, Lt, Le}
use Rattle.sqlite_sql.specs.Query.{Query, inner, end, Output, output, output_cmp, key_cmp, page, limited, as_count, IsAnswer}
use Rattle.sqlite_sql.specs.Program.{overlay}
use Rattle.sqlite_trees.specs.Tree.{Trees}
use Rattle.sqlite_trees.proofs.ListLemmas.{filter-map, pull_back}
use Rattle.sqlite_keyed.proofs.ListLemmas.{filter_all, all_of}
use Rattle.sqlite_exec.proofs.RowsLemmas.{IsSorted-map}
use Rattle.sqlite_exec.proofs.RunLemmas.{limited-map}
use Rattle.sqlite_exec.proofs.PartitionLemmas.{IsSorted-from_map}
use Rattle.sqlite_schema.specs.declared.command.Command.TheVariants.{Select}
use Rattle.sqlite_schema.specs.declared.schema.Schema.{Schema}
use Rattle.sqlite_schema.specs.declared.schema.Table.{Table}
use Rattle.sqlite_schema.specs.declared.schema.Index.{Index}
use Rattle.sqlite_schema.specs.declared.schema.View.{View}
use Rattle.sql_schema.specs.Tables.{first_table}
use Rattle.sqlite_tied.specs.Compute.{everything}
use Rattle.sqlite.specs.Effect.{Database}
use Rattle.sqlite_resolve.specs.declared.compiled.Compiled.{Compiled}
use Rattle.sqlite.specs.Listing.{understood, reads_listing, IsSourceOf}
use Rattle.sqlite.specs.State.{State, Shown, Begins, IsStatement, ShowsRows, IsUnchanged}
use Rattle.sqlite.specs.Clock.{timed}
use Rattle.sqlite.proofs.Callers.{IsPlain, EndsIn, command_of, reads_as, begins_shown}
use Rattle.sql_schema.specs.Tables.{archive_schema, IsArchiveSchema}
use Rattle.sql_tables.specs.Words.{columns_of, cells, is_at, is_named, is_behind, is_after, is_before, IsPage, name_order, moment_order, row_stamp_cmp}
use Rattle.sql_tables.specs.State.{AreAt, HasMeta, shown_of}
use Rattle.sql_tables.specs.Rows.{meta_columns, meta_cells}
use Rattle.sql_tables.specs.Derived.{current_columns, vector_columns}
use Rattle.sql_tables.specs.Keeping.{is_vector_of}
use Rattle.sql_tables.specs.Currents.{is_live_after, is_live_before, current_order, value_columns, ShowValues}
use Rattle.sql_tables.proofs.Texts.{lives_after_text, lives_before_text, at_text, since_text, after_text, before_text, all_text, whose_text, named_text, last_text}

-- a query on one table
abbrev pub simple : ℕ → List Term → List Term → List (Term × Key) → Term → Query
simple table filter project order limit = record {
  from = inner table end;
  filter = filter;
  group = None;
  project = project;
  distinct = false;
  collations = [];
  order = order;
  limit = limit;
  offset = lit (Int (pos 0));
}

picked : {A B C : Type 0} (f : B → C) (g : A → B) (p : A → Bool) (xs : List A)
    → map f (flat_map (λ r. cond (p r) (g r ∷ []) []) xs) ≡ map (λ r. f (g r)) (filter p xs)
picked f g p [] = refl
picked f g p (x ∷ xs) = go (p x) (picked f g p xs)
  where
    go : (b : Bool) → map f (flat_map (λ r. cond (p r) (g r ∷ []) []) xs)
        ≡ map (λ r. f (g r)) (filter p xs)
        → map f (cond b (g x ∷ []) [] ++ flat_map (λ r. cond (p r) (g r ∷ []) []) xs)
        ≡ map (λ r. f (g r)) (cond b (x ∷ filter p xs) (filter p xs))
    go true more = ap (λ l. f (g x) ∷ l) more
    go false more = more

pub repaired : {A : Type 0} (f : A → A) (xs : List A) → AllByRecursion (λ x. f x ≡ x) xs
    → map f xs ≡ xs
repaired f [] all = refl
repaired f (x ∷ xs) all = ap₂ ◌∷◌ all.0 (repaired f xs all.1)

filter_alike : {A : Type 0} (p q : A → Bool) → ((x : A) → p x ≡ q x) → (xs : List A)
    → filter p xs ≡ filter q xs
filter_alike p q same [] = refl
filter_alike p q same (x ∷ xs) = rw (same x, filter_alike p q same xs)

itself : (xs : List Row) → map (λ c. c) xs ≡ xs
itself [] = refl
itself (x ∷ xs) = ap (λ l. x ∷ l) (itself xs)

sorted_alike : (f g : Row → Row → Ordering) → ((a b : Row) → f a b ≡ g a b) → (xs : List Row)
    → IsSorted f xs → IsSorted g xs
sorted_alike f g same xs h k d p q = sym (ap is_lt (same _ _)) ∙ h k d p q

module _ (table : ℕ) (tests project : List Term) (order : List (Term × Key)) (limit : Term)
    (params : Row) (full narrow : Row → Row) (pass : Row → Bool) (key : Row → Row)
    (shows : (r : Row) → output (simple table tests project order limit) (params ∷ r ∷ [])
    ≡ (key (full r), narrow (full r)))
    (passes : (r : Row) → list_all (holds (params ∷ r ∷ [])) tests ≡ pass (full r)) where
  abbrev q : Query
  q = simple table tests project order limit

  -- what a query on one table answers: the rows that pass, in order, and of those the page, of each
  -- of which some columns are shown
  pub answered_in_part : (db : Trees) (rows : List Row) → IsAnswer q (overlay db []) params rows
      → (all : List Row) × IsPermutation (filter pass (map full (overlay db [] table))) all
      × IsSorted (λ a b. key_cmp 0 (map (λ k. k.1) order) (key a) (key b)) all
      × (rows ≡ page q params (map narrow all))
  answered_in_part db rows a =
      let es = overlay db [] table in
      let keeps = λ (r : Row). list_all (holds (params ∷ r ∷ [])) tests in
      let made = λ (r : Row). output q (params ∷ r ∷ []) in
      let front = λ (o : Output). o.1 in
      let by_key = λ (x y : Row). key_cmp 0 (map (λ k. k.1) order) (key x) (key y) in
      let kept : a.kept ≡ map made (filter keeps es) =
      a.distinct ∙ ap (map (output q)) a.grouped
      ∙ picked (output q) (λ r. params ∷ r ∷ []) keeps es in
      let back = pull_back made a.kept a.ordered a.same (filter keeps es) kept in
      let sorted = sorted_alike (λ x y. output_cmp q (made x) (made y))
      (λ x y. by_key (full x) (full y))
      (λ x y. ap₂ (output_cmp q) (shows x) (shows y)) back.0
      (IsSorted-from_map (output_cmp q) made back.0
      (subst (IsSorted (output_cmp q)) back.2 a.sorted)) in
      let passed : filter pass (map full es) ≡ map full (filter keeps es) =
      filter-map pass full es
      ∙ ap (map full) (sym (filter_alike keeps (λ r. pass (full r)) passes es)) in (
        map full back.0,
        subst (λ xs. IsPermutation xs (map full back.0)) (sym passed)
            (IsPermutation-map full (filter keeps es) back.0 back.1),
        IsSorted-map by_key full back.0 sorted,
        a.shown ∙ ap (page q params) (ap (map front) back.2 ∙ seconds back.0),
      )
    where
      seconds : (rs : List Row) → map (λ (o : Output). o.1)
          (map (λ r. output (simple table tests project order limit) (params ∷ r ∷ [])) rs)
          ≡ map narrow (map full rs)
      seconds [] = refl
      seconds (r ∷ rs) = ap₂ ◌∷◌ (ap (λ (o : Output). o.1) (shows r)) (seconds rs)

module _ (table : ℕ) (tests project : List Term) (order : List (Term × Key)) (limit : Term)
    (params : Row) (shown : Row → Row) (pass : Row → Bool) (key : Row → Row)
    (shows : (r : Row) → output (simple table tests project order limit) (params ∷ r ∷ [])
    ≡ (key (shown r), shown r))
    (passes : (r : Row) → list_all (holds (params ∷ r ∷ [])) tests ≡ pass (shown r)) where
  abbrev whole : Query
  whole = simple table tests project order limit

  -- the same of a query that shows each column
  pub answered : (db : Trees) (rows : List Row) → IsAnswer whole (overlay db []) params rows
      → (all : List Row) × IsPermutation (filter pass (map shown (overlay db [] table))) all
      × IsSorted (λ a b. key_cmp 0 (map (λ k. k.1) order) (key a) (key b)) all
      × (rows ≡ page whole params all)
  answered db rows a =
      let all = answered_in_part table tests project order limit params shown (λ c. c) pass key
      shows passes db rows a in
      (all.0, all.1, all.2, all.3 ∙ ap (page whole params) (itself all.0))

abbrev pub eq : Term → Term → Term
eq a b = op2 (Compare Eq Binary) a b

abbrev pub each : List Term
each = col 1 1 ∷ col 1 2 ∷ col 1 3 ∷ col 1 4 ∷ col 1 5 ∷ col 1 6 ∷ col 1 7 ∷ col 1 8 ∷ col 1 9 ∷ []

abbrev pub names : List (List ℕ)
names = codes "origin" ∷ codes "number" ∷ codes "tick" ∷ codes "node" ∷ codes "time" ∷ codes "pico"
    ∷ codes "asked" ∷ codes "who" ∷ codes "value" ∷ []

abbrev pub at_tests : List Term
at_tests = eq (col 1 4) (col 0 0) ∷ eq (col 1 5) (col 0 1) ∷ eq (col 1 6) (col 0 2) ∷ []

abbrev pub by_stamp : List (Term × Key)
by_stamp = (col 1 3, ascending Binary) ∷ (col 1 1, ascending Binary) ∷ []

abbrev pub all_rows : Term
all_rows = lit (Int (negsuc 0))

at_is : (indexed : Bool) → (command_of (understood (archive_schema indexed) at_text)
    ≡ Select (record { lets = []; body = simple 1 at_tests each by_stamp all_rows }) names)
    × (reads_listing (archive_schema indexed) at_text ≡ false)
unfolding understood everything
at_is indexed = (refl, refl)

pub at_plain : (indexed : Bool) → IsPlain (understood (archive_schema indexed) at_text)
unfolding understood everything
at_plain indexed = (refl, refl)

truly : (b : Bool) → is_true (from_truth (Some b)) ≡ b
truly true = refl
truly false = refl

-- SQL's = against a value that is not NULL
pub equals : (v w : Value) → is_null w ≡ false
    → is_true (binary (Compare Eq Binary) v w) ≡ is_eq (value_cmp v w)
unfolding binary
equals Null Null some = absurd (let e = some in cc)
equals Null (Int n) some = rw value_cmp-Null refl
equals Null (Real x) some = rw value_cmp-Null refl
equals Null (Text t) some = rw value_cmp-Null refl
equals Null (Blob b) some = rw value_cmp-Null refl
equals (Int n) w some = rw some (truly _)
equals (Real x) w some = rw some (truly _)
equals (Text t) w some = rw some (truly _)
equals (Blob b) w some = rw some (truly _)

both_true : (a b : Bool) → (a && (b && true)) ≡ (a && b)
both_true true true = refl
both_true true false = refl
both_true false b = refl

one_true : (a : Bool) → (a && true) ≡ a
one_true true = refl
one_true false = refl

-- the rows of this node, time and picoseconds, by stamp
pub finds_at : (old new : State) (node : List ℕ) (time pico : ℤ) (rows : List Row)
    → IsArchiveSchema old.now.schema
    → Shown at_text (Blob node ∷ Int time ∷ Int pico ∷ []) old new rows
    → AreAt node time pico old rows
finds_at old new node time pico rows has h =
    let params = Blob node ∷ Int time ∷ Int pico ∷ [] in
    let got = reads_as at_text params old new (archive_schema has.0) has.1 _ (at_is has.0).0
    (at_plain has.0) (at_is has.0).1 rows h
    in
    let all = answered 1 at_tests each by_stamp all_rows params columns_of (is_at node time pico)
    (λ c. column c 2 ∷ column c 0 ∷ []) (λ r. refl)
    (λ r. rw (
      equals (column r 4) (Blob node) refl,
      equals (column r 5) (Int time) refl,
      equals (column r 6) (Int pico) refl,
    ) (ap
    (λ b. is_eq (value_cmp (column r 4) (Blob node)) && b) (both_true _ _))) old.now.trees rows
    (got.answer Null) in
    let same : rows ≡ all.0 = all.3 in
    record {
      same = subst (IsPermutation (filter (is_at node time pico) (cells (old.now.trees 1))))
          (sym same) all.1;
      sorted = subst (IsSorted row_stamp_cmp) (sym same)
          (sorted_alike (λ a b. key_cmp 0 (map (λ (k : Term × Key). k.1) by_stamp)
          (column a 2 ∷ column a 0 ∷ []) (column b 2 ∷ column b 0 ∷ [])) row_stamp_cmp
          (λ a b. ap (ordering_then (value_cmp (column a 2) (column b 2)))
          (then-Equal (value_cmp (column a 0) (column b 0)))) all.0 all.2);
    }

-- a query changes nothing
pub leaves_all : (sql : List ℕ) (params : Row) (old new : State) (rows : List Row)
    → IsPlain (understood old.now.schema sql) → Shown sql params old new rows → IsUnchanged old new
unfolding Shown
leaves_all sql params old new rows plain h =
    let none = (subst IsPlain h.1.is plain).0 in
    let full = timed params h.0.formats h.1.now in
    (subst (ShowsRows old new sql h.0 full rows) none h.2).3

all_kept : (pass : Row → Bool) (rows : List Row)
    → AllByRecursion (λ c. shown_of c ≡ c) (filter pass (cells rows))
all_kept pass [] = tt
all_kept pass (r ∷ rows) = go (pass (columns_of r)) (all_kept pass rows)
  where
    go : (b : Bool) → AllByRecursion (λ c. shown_of c ≡ c) (filter pass (cells rows))
        → AllByRecursion (λ c. shown_of c
        ≡ c) (cond b (columns_of r ∷ filter pass (cells rows)) (filter pass (cells rows)))
    go true more = (refl, more)
    go false more = more

-- what a query shows of rows is those rows
pub shown_whole : (pass : Row → Bool) (rows all : List Row)
    → IsPermutation (filter pass (cells rows)) all → map shown_of all ≡ all
shown_whole pass rows all same =
    repaired shown_of all (recursion_from_All (λ c. shown_of c ≡ c) all
    (All-permutation (λ c. shown_of c ≡ c) (filter pass (cells rows)) all same
    (All-from_recursion (λ c. shown_of c ≡ c) (filter pass (cells rows)) (all_kept pass rows))))

-- ---- all rows of records

abbrev by_name : List (Term × Key)
by_name = (col 1 1, ascending Binary) ∷ (col 1 2, ascending Binary) ∷ []

abbrev IsAllIn : Schema → Type 0
IsAllIn schema = (command_of (understood schema all_text)
    ≡ Select (record { lets = []; body = simple 1 [] each by_name all_rows }) names)
    × (reads_listing schema all_text ≡ false) × IsPlain (understood schema all_text)

all_is : (indexed : Bool) → IsAllIn (archive_schema indexed)
unfolding understood everything
all_is indexed = (refl, refl, (refl, refl))

all_in : (schema : Schema) → IsArchiveSchema schema → IsAllIn schema
all_in schema is = subst IsAllIn (sym is.1) (all_is is.0)

pub all_plain : (schema : Schema) → IsArchiveSchema schema → IsPlain (understood schema all_text)
all_plain schema known = (all_in schema known).2

pub every : (rows : List Row) → filter (λ _. true) rows ≡ rows
every rows = filter_all (λ _. true) rows (all_of (λ _. true ≡ true) (λ _. refl) rows)

pub finds_all : (old new : State) (rows : List Row) → IsArchiveSchema old.now.schema
    → Shown all_text [] old new rows → IsPermutation (cells (old.now.trees 1)) rows
finds_all old new rows has h =
    let got = reads_as all_text [] old new old.now.schema refl _ (all_in old.now.schema has).0
    (all_in old.now.schema has).2 (all_in old.now.schema has).1 rows h in
    let all = answered 1 [] each by_name all_rows [] columns_of (λ _. true)
    (λ c. column c 0 ∷ column c 1 ∷ []) (λ r. refl) (λ r. refl) old.now.trees rows
    (got.answer Null) in
    let same : rows ≡ all.0 = all.3 in
    subst (λ xs. IsPermutation xs rows) (every (cells (old.now.trees 1)))
    (subst (IsPermutation (filter (λ _. true) (cells (old.now.trees 1)))) (sym same) all.1)

-- by name
pub finds_in_order : (old new : State) (rows : List Row) → IsArchiveSchema old.now.schema
    → Shown all_text [] old new rows
    → IsPermutation (cells (old.now.trees 1)) rows × IsSorted name_order rows
finds_in_order old new rows has h =
    let got = reads_as all_text [] old new old.now.schema refl _ (all_in old.now.schema has).0
    (all_in old.now.schema has).2 (all_in old.now.schema has).1 rows h in
    let all = answered 1 [] each by_name all_rows [] columns_of (λ _. true)
    (λ c. column c 0 ∷ column c 1 ∷ []) (λ r. refl) (λ r. refl) old.now.trees rows
    (got.answer Null) in
    let same : rows ≡ all.0 = all.3 in
    let sorted = sorted_alike (λ a b.
    key_cmp 0 (map (λ (k : Term × Key). k.1) by_name) (column a 0 ∷ column a 1 ∷ [])
    (column b 0 ∷ column b 1 ∷ [])) name_order
    (λ a b. ap (ordering_then (value_cmp (column a 0) (column b 0)))
    (then-Equal (value_cmp (column a 1) (column b 1)))) all.0 all.2 in
    (finds_all old new rows has h, subst (IsSorted name_order) (sym same) sorted)

-- no more than the first rows need be read
pub begins_named : (s : State) (rows : List Row) → IsArchiveSchema s.now.schema → IsUnchanged s s
    → Begins all_text [] s rows
    → (rest : List Row) × IsPermutation (cells (s.now.trees 1)) (rows ++ rest)
    × IsSorted name_order (rows ++ rest)
begins_named s rows has same h = let found = finds_in_order s s (rows ++ read.0) has read.1 in
    (read.0, found.0, found.1)
  where
    ends : (c : Compiled) (db : Database) (it : IsStatement s all_text [] c)
        → IsSourceOf (reads_listing s.now.schema all_text) s.now db
        → EndsIn c.command db (timed [] c.formats it.now)
    ends c db it source = subst (λ k. EndsIn k db (timed [] c.formats it.now))
        (sym (ap command_of (sym it.is) ∙ (all_in s.now.schema has).0)) tt

    read : (rest : List Row) × Shown all_text [] s s (rows ++ rest)
    read = begins_shown all_text [] s s rows h same ends

pub shown_all : (rows all : List Row) → IsPermutation (cells rows) all → map shown_of all ≡ all
shown_all rows all same = shown_whole (λ _. true) rows all
    (subst (λ xs. IsPermutation xs all) (sym (every (cells rows))) same)

-- ---- the rows of meta

abbrev whose : List Term
whose = col 1 0 ∷ col 1 2 ∷ col 1 3 ∷ col 1 4 ∷ []

abbrev IsWhoseIn : Schema → Type 0
IsWhoseIn schema = (command_of (understood schema whose_text)
    ≡ Select (record { lets = []; body = simple 0 [] whose [] all_rows })
    (codes "one" ∷ codes "format" ∷ codes "archive" ∷ codes "replica" ∷ []))
    × (reads_listing schema whose_text ≡ false) × IsPlain (understood schema whose_text)

begun_is : (rest : List Table) (ix : List Index) (vs : List View)
    → IsWhoseIn (record { tables = first_table ∷ rest; indexes = ix; views = vs })
unfolding understood everything
begun_is rest ix vs = (refl, refl, (refl, refl))

whose_in : (schema : Schema) → HasMeta schema → IsWhoseIn schema
whose_in schema (rest, is) = subst IsWhoseIn (sym
    (ap (λ ts. record { tables = ts; indexes = schema.indexes; views = schema.views }) is))
    (begun_is rest schema.indexes schema.views)

pub whose_plain : (schema : Schema) → HasMeta schema → IsPlain (understood schema whose_text)
whose_plain schema known = (whose_in schema known).2

pub finds_whose : (old new : State) (rows : List Row) → HasMeta old.now.schema
    → Shown whose_text [] old new rows → IsPermutation (meta_cells old.now.trees) rows
finds_whose old new rows has h =
    let got = reads_as whose_text [] old new old.now.schema refl _ (whose_in old.now.schema has).0
    (whose_in old.now.schema has).2 (whose_in old.now.schema has).1 rows h in
    let all = answered 0 [] whose [] all_rows [] meta_columns (λ _. true) (λ c. []) (λ r. refl)
    (λ r. refl) old.now.trees rows (got.answer Null) in
    let same : rows ≡ all.0 = all.3 in
    subst (λ xs. IsPermutation xs rows) (every (meta_cells old.now.trees))
    (subst (IsPermutation (filter (λ _. true) (meta_cells old.now.trees))) (sym same) all.1)

-- ---- the row of a name

abbrev named_tests : List Term
named_tests = eq (col 1 1) (col 0 0) ∷ eq (col 1 2) (col 0 1) ∷ []

named_is : (indexed : Bool) → (command_of (understood (archive_schema indexed) named_text)
    ≡ Select (record { lets = []; body = simple 1 named_tests each [] all_rows }) names)
    × (reads_listing (archive_schema indexed) named_text ≡ false)
unfolding understood everything
named_is indexed = (refl, refl)

pub named_plain : (indexed : Bool) → IsPlain (understood (archive_schema indexed) named_text)
unfolding understood everything
named_plain indexed = (refl, refl)

pub finds_named : (old new : State) (origin number : ℤ) (rows : List Row)
    → IsArchiveSchema old.now.schema → Shown named_text (Int origin ∷ Int number ∷ []) old new rows
    → IsPermutation (filter (is_named origin number) (cells (old.now.trees 1))) rows
finds_named old new origin number rows has h =
    let params = Int origin ∷ Int number ∷ [] in
    let got = reads_as named_text params old new (archive_schema has.0) has.1 _ (named_is has.0).0
    (named_plain has.0)
    (named_is has.0).1 rows h in
    let all = answered 1 named_tests each [] all_rows params columns_of (is_named origin number)
    (λ c. []) (λ r. refl) (λ r.
    rw (equals (column r 1) (Int origin) refl, equals (column r 2) (Int number) refl)
    (both_true _ _)) old.now.trees rows (got.answer Null) in
    let same : rows ≡ all.0 = all.3 in
    subst (IsPermutation (filter (is_named origin number) (cells (old.now.trees 1))))
    (sym same) all.1

-- ---- the row of vectors of an origin

abbrev last_tests : List Term
last_tests = eq (col 1 0) (col 0 0) ∷ []

abbrev last_terms : List Term
last_terms = col 1 0 ∷ col 1 2 ∷ col 1 3 ∷ []

last_is : (indexed : Bool) → (command_of (understood (archive_schema indexed) last_text)
    ≡ Select (record { lets = []; body = simple 6 last_tests last_terms [] all_rows })
    (codes "origin" ∷ codes "number" ∷ codes "tick" ∷ []))
    × (reads_listing (archive_schema indexed) last_text ≡ false)
unfolding understood everything
last_is indexed = (refl, refl)

pub last_plain : (indexed : Bool) → IsPlain (understood (archive_schema indexed) last_text)
unfolding understood everything
last_plain indexed = (refl, refl)

pub finds_last : (old new : State) (origin : ℤ) (rows : List Row) → IsArchiveSchema old.now.schema
    → Shown last_text (Int origin ∷ []) old new rows
    → IsPermutation (filter (is_vector_of origin) (map vector_columns (old.now.trees 6))) rows
finds_last old new origin rows has h =
    let params = Int origin ∷ [] in
    let got = reads_as last_text params old new (archive_schema has.0) has.1 _ (last_is has.0).0
    (last_plain has.0) (last_is has.0).1
    rows h in
    let all = answered 6 last_tests last_terms [] all_rows params vector_columns
    (is_vector_of origin) (λ c. []) (λ r. refl) (λ r. one_true _) old.now.trees rows
    (got.answer Null) in
    let same_rows : rows ≡ all.0 = all.3 in
    subst (IsPermutation (filter (is_vector_of origin) (map vector_columns (old.now.trees 6))))
    (sym same_rows) all.1

-- ---- the rows of an origin behind a number

abbrev since_tests : List Term
since_tests = eq (col 1 1) (col 0 0) ∷ op2 (Compare Gt Binary) (col 1 2) (col 0 1) ∷ []

since_is : (indexed : Bool) → (command_of (understood (archive_schema indexed) since_text)
    ≡ Select (record { lets = []; body = simple 1 since_tests each by_name (col 0 2) }) names)
    × (reads_listing (archive_schema indexed) since_text ≡ false)
unfolding understood everything
since_is indexed = (refl, refl)

pub since_plain : (indexed : Bool) → IsPlain (understood (archive_schema indexed) since_text)
unfolding understood everything
since_plain indexed = (refl, refl)

pub finds_since : (old new : State) (origin number limit : ℤ) (rows : List Row)
    → IsArchiveSchema old.now.schema
    → Shown since_text (Int origin ∷ Int number ∷ Int limit ∷ []) old new rows
    → IsPage (is_behind origin number) name_order (as_count (Int limit))
    (cells (old.now.trees 1)) rows
finds_since old new origin number limit rows has h =
    let params = Int origin ∷ Int number ∷ Int limit ∷ [] in
    let got = reads_as since_text params old new (archive_schema has.0) has.1 _ (since_is has.0).0
    (since_plain has.0)
    (since_is has.0).1 rows h in
    let all = answered 1 since_tests each by_name (col 0 2) params columns_of
    (is_behind origin number) (λ c. column c 0 ∷ column c 1 ∷ []) (λ r. refl)
    (λ r. rw (equals (column r 1) (Int origin) refl) (both_true _ _)) old.now.trees rows
    (got.answer Null) in
    record {
      ordered = all.0;
      same = all.1;
      sorted = sorted_alike (λ a b.
          key_cmp 0 (map (λ (k : Term × Key). k.1) by_name) (column a 0 ∷ column a 1 ∷ [])
          (column b 0 ∷ column b 1 ∷ [])) name_order
          (λ a b. ap (ordering_then (value_cmp (column a 0) (column b 0)))
          (then-Equal (value_cmp (column a 1) (column b 1)))) all.0 all.2;
      front = all.3;
    }

-- ---- the next rows of a node

abbrev after_tests : List Term
after_tests = eq (col 1 4) (col 0 0) ∷ op2 (Compare Ge Binary) (col 1 5) (col 0 1)
    ∷ case (op2 (Compare Gt Binary) (col 1 5) (col 0 1)) (lit (Int (pos 1)))
    (op2 (Compare Gt Binary) (col 1 6) (col 0 2)) ∷ []

abbrev before_tests : List Term
before_tests = eq (col 1 4) (col 0 0) ∷ op2 (Compare Le Binary) (col 1 5) (col 0 1)
    ∷ case (op2 (Compare Lt Binary) (col 1 5) (col 0 1)) (lit (Int (pos 1)))
    (op2 (Compare Lt Binary) (col 1 6) (col 0 2)) ∷ []

abbrev down : Key
down = record { collation = Binary; descending = true }

abbrev up_moment : List (Term × Key)
up_moment = (col 1 5, ascending Binary) ∷ (col 1 6, ascending Binary) ∷ (col 1 3, ascending Binary)
    ∷ (col 1 1, ascending Binary) ∷ []

abbrev down_moment : List (Term × Key)
down_moment = (col 1 5, down) ∷ (col 1 6, down) ∷ (col 1 3, down) ∷ (col 1 1, down) ∷ []

after_is : (indexed : Bool) → (command_of (understood (archive_schema indexed) after_text)
    ≡ Select (record { lets = []; body = simple 1 after_tests each up_moment (col 0 3) }) names)
    × (reads_listing (archive_schema indexed) after_text ≡ false)
unfolding understood everything
after_is indexed = (refl, refl)

pub after_plain : (indexed : Bool) → IsPlain (understood (archive_schema indexed) after_text)
unfolding understood everything
after_plain indexed = (refl, refl)

before_is : (indexed : Bool) → (command_of (understood (archive_schema indexed) before_text)
    ≡ Select (record { lets = []; body = simple 1 before_tests each down_moment (col 0 3) }) names)
    × (reads_listing (archive_schema indexed) before_text ≡ false)
unfolding understood everything
before_is indexed = (refl, refl)

pub before_plain : (indexed : Bool) → IsPlain (understood (archive_schema indexed) before_text)
unfolding understood everything
before_plain indexed = (refl, refl)

abbrev by_moment : Row → Row
by_moment c = column c 4 ∷ column c 5 ∷ column c 2 ∷ column c 0 ∷ []

last_of_four : (a b c d : Ordering)
    → ordering_then a (ordering_then b (ordering_then c (ordering_then d Ordering.Equal)))
    ≡ ordering_then a (ordering_then b (ordering_then c d))
last_of_four a b c d = ap (λ o. ordering_then a (ordering_then b (ordering_then c o)))
    (then-Equal d)

pub finds_after : (old new : State) (node : List ℕ) (time pico count : ℤ) (rows : List Row)
    → IsArchiveSchema old.now.schema
    → Shown after_text (Blob node ∷ Int time ∷ Int pico ∷ Int count ∷ []) old new rows
    → IsPage (is_after node time pico) moment_order (as_count (Int count))
    (cells (old.now.trees 1)) rows
finds_after old new node time pico count rows has h =
    let params = Blob node ∷ Int time ∷ Int pico ∷ Int count ∷ [] in
    let got = reads_as after_text params old new (archive_schema has.0) has.1 _ (after_is has.0).0
    (after_plain has.0)
    (after_is has.0).1 rows h in
    let all = answered 1 after_tests each up_moment (col 0 3) params columns_of
    (is_after node time pico) by_moment (λ r. refl)
    (λ r. rw (equals (column r 4) (Blob node) refl)
    (ap (λ b. is_eq (value_cmp (column r 4) (Blob node)) && b) (both_true _ _))) old.now.trees
    rows (got.answer Null) in
    record {
      ordered = all.0;
      same = all.1;
      sorted = sorted_alike (λ a b.
          key_cmp 0 (map (λ (k : Term × Key). k.1) up_moment) (by_moment a) (by_moment b))
          moment_order (λ a b. last_of_four (value_cmp (column a 4) (column b 4))
          (value_cmp (column a 5) (column b 5)) (value_cmp (column a 2) (column b 2))
          (value_cmp (column a 0) (column b 0))) all.0 all.2;
      front = all.3;
    }

pub finds_before : (old new : State) (node : List ℕ) (time pico count : ℤ) (rows : List Row)
    → IsArchiveSchema old.now.schema
    → Shown before_text (Blob node ∷ Int time ∷ Int pico ∷ Int count ∷ []) old new rows
    → IsPage (is_before node time pico) (λ a b. moment_order b a) (as_count (Int count))
    (cells (old.now.trees 1)) rows
finds_before old new node time pico count rows has h =
    let params = Blob node ∷ Int time ∷ Int pico ∷ Int count ∷ [] in
    let got = reads_as before_text params old new (archive_schema has.0) has.1 _ (before_is has.0).0
    (before_plain has.0)
    (before_is has.0).1 rows h in
    let all = answered 1 before_tests each down_moment (col 0 3) params columns_of
    (is_before node time pico) by_moment (λ r. refl)
    (λ r. rw (equals (column r 4) (Blob node) refl)
    (ap (λ b. is_eq (value_cmp (column r 4) (Blob node)) && b) (both_true _ _))) old.now.trees
    rows (got.answer Null) in
    record {
      ordered = all.0;
      same = all.1;
      sorted = sorted_alike (λ a b.
          key_cmp 0 (map (λ (k : Term × Key). k.1) down_moment) (by_moment a) (by_moment b))
          (λ a b. moment_order b a) (λ a b.
          last_of_four (value_cmp (column b 4) (column a 4)) (value_cmp (column b 5) (column a 5))
          (value_cmp (column b 2) (column a 2)) (value_cmp (column b 0) (column a 0))) all.0 all.2;
      front = all.3;
    }

-- ---- the next live values of a node

abbrev value_terms : List Term
value_terms = col 1 2 ∷ col 1 3 ∷ col 1 7 ∷ col 1 8 ∷ []

abbrev value_names : List (List ℕ)
value_names = codes "time" ∷ codes "pico" ∷ codes "extra" ∷ codes "value" ∷ []

abbrev live_test : Term
live_test = eq (col 1 6) (lit (Int (pos 1)))

abbrev lives_after_tests : List Term
lives_after_tests =
    eq (col 1 1) (col 0 0) ∷ op2 (Compare Ge Binary) (col 1 2) (col 0 1)
    ∷ case (op2 (Compare Gt Binary) (col 1 2) (col 0 1)) (lit (Int (pos 1)))
    (op2 (Compare Gt Binary) (col 1 3) (col 0 2))
    ∷ op2 (Compare Le Binary) (col 1 2) (col 0 3)
    ∷ case (op2 (Compare Lt Binary) (col 1 2) (col 0 3)) (lit (Int (pos 1)))
    (op2 (Compare Le Binary) (col 1 3) (col 0 4)) ∷ live_test ∷ []

abbrev lives_before_tests : List Term
lives_before_tests =
    eq (col 1 1) (col 0 0) ∷ op2 (Compare Le Binary) (col 1 2) (col 0 1)
    ∷ case (op2 (Compare Lt Binary) (col 1 2) (col 0 1)) (lit (Int (pos 1)))
    (op2 (Compare Lt Binary) (col 1 3) (col 0 2))
    ∷ op2 (Compare Ge Binary) (col 1 2) (col 0 3)
    ∷ case (op2 (Compare Gt Binary) (col 1 2) (col 0 3)) (lit (Int (pos 1)))
    (op2 (Compare Ge Binary) (col 1 3) (col 0 4)) ∷ live_test ∷ []

abbrev up_time : List (Term × Key)
up_time = (col 1 2, ascending Binary) ∷ (col 1 3, ascending Binary) ∷ []

abbrev down_time : List (Term × Key)
down_time = (col 1 2, down) ∷ (col 1 3, down) ∷ []

lives_after_is : (indexed : Bool) → (command_of
    (understood (archive_schema indexed) lives_after_text)
    ≡ Select (record {
      lets = [];
      body =
          simple 4 lives_after_tests value_terms up_time (col 0 5);
    }) value_names)
    × (reads_listing (archive_schema indexed) lives_after_text ≡ false)
unfolding understood everything
lives_after_is indexed = (refl, refl)

pub lives_after_plain : (indexed : Bool)
    → IsPlain (understood (archive_schema indexed) lives_after_text)
unfolding understood everything
lives_after_plain indexed = (refl, refl)

lives_before_is : (indexed : Bool)
    → (command_of (understood (archive_schema indexed) lives_before_text)
    ≡ Select (record {
      lets = [];
      body =
          simple 4 lives_before_tests value_terms down_time (col 0 5);
    }) value_names)
    × (reads_listing (archive_schema indexed) lives_before_text ≡ false)
unfolding understood everything
lives_before_is indexed = (refl, refl)

pub lives_before_plain : (indexed : Bool)
    → IsPlain (understood (archive_schema indexed) lives_before_text)
unfolding understood everything
lives_before_plain indexed = (refl, refl)

abbrev by_time : Row → Row
by_time c = column c 1 ∷ column c 2 ∷ []

last_of_two : (a b : Ordering) → ordering_then a (ordering_then b Ordering.Equal)
    ≡ ordering_then a b
last_of_two a b = ap (ordering_then a) (then-Equal b)

pub finds_lives_after : (old new : State) (node : List ℕ) (time pico far far_pico count : ℤ)
    (rows : List Row) → IsArchiveSchema old.now.schema
    → Shown lives_after_text (Blob node ∷ Int time ∷ Int pico ∷ Int far ∷ Int far_pico ∷ Int count
    ∷ []) old new rows
    → ShowValues (IsPage (is_live_after node time pico far far_pico) current_order
    (as_count (Int count)) (map current_columns (old.now.trees 4))) rows
finds_lives_after old new node time pico far far_pico count rows has h =
    let params = Blob node ∷ Int time ∷ Int pico ∷ Int far ∷ Int far_pico ∷ Int count ∷ [] in
    let got = reads_as lives_after_text params old new (archive_schema has.0) has.1 _
    (lives_after_is has.0).0
    (lives_after_plain has.0) (lives_after_is has.0).1 rows h in
    let all = answered_in_part 4 lives_after_tests value_terms up_time (col 0 5) params
    current_columns value_columns (is_live_after node time pico far far_pico) by_time (λ r. refl)
    (λ r. rw (
      equals (column r 1) (Blob node) refl,
      equals (column r 6) (Int (pos 1)) refl,
      one_true (is_eq (value_cmp (column r 6) (Int (pos 1)))),
    ) refl) old.now.trees rows
    (got.answer Null) in
    record {
      whole = limited (as_count (Int count)) all.0;
      are = record {
        ordered = all.0;
        same = all.1;
        sorted = sorted_alike (λ a b.
            key_cmp 0 (map (λ (k : Term × Key). k.1) up_time) (by_time a) (by_time b)) current_order
            (λ a b. last_of_two (value_cmp (column a 1) (column b 1))
            (value_cmp (column a 2) (column b 2))) all.0 all.2;
        front = refl;
      };
      shown = all.3 ∙ limited-map value_columns (as_count (Int count)) all.0;
    }

pub finds_lives_before : (old new : State) (node : List ℕ) (time pico far far_pico count : ℤ)
    (rows : List Row) → IsArchiveSchema old.now.schema
    → Shown lives_before_text (Blob node ∷ Int time ∷ Int pico ∷ Int far ∷ Int far_pico ∷ Int count
    ∷ []) old new rows
    → ShowValues (IsPage (is_live_before node time pico far far_pico)
    (λ a b. current_order b a) (as_count (Int count)) (map current_columns (old.now.trees 4))) rows
finds_lives_before old new node time pico far far_pico count rows has h =
    let params = Blob node ∷ Int time ∷ Int pico ∷ Int far ∷ Int far_pico ∷ Int count ∷ [] in
    let got = reads_as lives_before_text params old new (archive_schema has.0) has.1 _
    (lives_before_is has.0).0
    (lives_before_plain has.0) (lives_before_is has.0).1 rows h in
    let all = answered_in_part 4 lives_before_tests value_terms down_time (col 0 5) params
    current_columns value_columns (is_live_before node time pico far far_pico) by_time (λ r. refl)
    (λ r. rw (
      equals (column r 1) (Blob node) refl,
      equals (column r 6) (Int (pos 1)) refl,
      one_true (is_eq (value_cmp (column r 6) (Int (pos 1)))),
    ) refl) old.now.trees rows
    (got.answer Null) in
    record {
      whole = limited (as_count (Int count)) all.0;
      are = record {
        ordered = all.0;
        same = all.1;
        sorted = sorted_alike (λ a b.
            key_cmp 0 (map (λ (k : Term × Key). k.1) down_time) (by_time a) (by_time b))
            (λ a b. current_order b a) (λ a b.
            last_of_two (value_cmp (column b 1) (column a 1)) (value_cmp (column b 2) (column a 2)))
            all.0 all.2;
        front = refl;
      };
      shown = all.3 ∙ limited-map value_columns (as_count (Int count)) all.0;
    }
