-- That tables which are whole are refused for no reason of our own.
use Rattle.std.proofs.Common.{◌≡◌, ◌<◌, ◌≤◌, ◌-◌, ◌^◌, inl, inr, ℕ, ℤ, suc, Bool, true, false, not, ◌&&◌, ◌||◌, cond, List, [], ◌∷◌, ◌++◌, length, map, filter, flat_map, take, refl, sym, ap, ap₂, subst, ◌∙◌, arith, IsPermutation, IsSorted, is_eq, Ordering, Less, Equal, ◌<ℤ◌}
use Rattle.std.specs.List.{list_any, AllByRecursion}
use Rattle.std.specs.Ordering.{int_cmp, on, is_lt}
use Rattle.std.specs.Cmp.{IsTotalOrder}
use Rattle.std.proofs.lemmas.Cmp.{on_total, tied_itself}
use Rattle.std.proofs.lemmas.Int.{ints}
use Rattle.std.proofs.lemmas.Bool.{true≢false}
use Rattle.std.proofs.lemmas.List.{length-map, length-append}
use Rattle.std.proofs.lemmas.List.Elements.{recursion_from_All, All-from_recursion}
use Rattle.std.proofs.lemmas.List.Sorted.{All-permutation, IsPermutation-sym, IsPermutation-map, length_permutation}
use Rattle.sqlite_value.specs.declared.value.Value.{Value}
use Rattle.sqlite_value.specs.declared.value.Value.TheVariants.{Null, Int, Real, Text, Blob}
use Rattle.sqlite_value.specs.declared.keys.Collation.TheVariants.{Binary}
use Rattle.sqlite_value.specs.Keys.{ascending}
use Rattle.sqlite_value.specs.Order.{Row, column, value_cmp}
use Rattle.sqlite_value.proofs.OrderLemmas.{value_cmp_total, value_cmp-Int, then-Equal}
use Rattle.sqlite_sql.specs.Term.{Term, Env, col, eval_all}
use Rattle.sqlite_sql.specs.Query.{Query, Join, inner, end, Output, output, output_cmp, key_cmp, matches, IsAnswer, IsSureStart}
use Rattle.sqlite_sql.specs.Program.{overlay, IsProgramStart}
use Rattle.sqlite_schema.specs.declared.schema.Schema.{Schema}
use Rattle.sqlite_schema.specs.declared.command.Command.TheVariants.{Select}
use Rattle.sqlite_typing.specs.Types.{accepts_program}
use Rattle.sqlite_exec.proofs.RowsLemmas.{IsSorted-map}
use Rattle.sqlite_exec.proofs.PartitionLemmas.{IsSorted-from_map}
use Rattle.sqlite_trees.specs.Tree.{Trees, IsAscending, rowid}
use Rattle.sqlite_trees.specs.View.{is_int}
use Rattle.sqlite_rules.specs.Lists.{Has}
use Rattle.sqlite_keyed.proofs.ListLemmas.{map-map, ascending-map, ascending-filter, all_map, all-filter, filter_none}
use Rattle.sqlite.specs.Listing.{understood}
use Rattle.sqlite.specs.Effect.{Database, ReadsFirst}
use Rattle.records.specs.Lists.{IsPairwise}
use Rattle.records.proofs.Sorting.{sorted_is, rises-sort_by}
use Rattle.sql_schema.specs.Tables.{archive_schema, IsArchiveSchema}
use Rattle.sql_tables.specs.Words.{cells, columns_of}
use Rattle.sql_tables.specs.Derived.{AreNumbered, is_later, is_newer, same, current_of, current_columns, last_of, vector_columns}
use Rattle.sql_tables.specs.State.{AreWhole}
use Rattle.sql_tables.specs.Agreeing.{command_in, AreUncountable, BeginsUncountable, AreRising}
use Rattle.sql_tables.proofs.Texts.{currents_held_text, vectors_held_text}
use Rattle.sql_tables.proofs.ApartLemmas.{all-permuted}
use Rattle.sql_tables.proofs.MadeLemmas.{picked}
use Rattle.sql_tables.proofs.KeepLemmas.{empty_by}
use Rattle.sql_tables.proofs.QueryLemmas.{equals, repaired}
use Rattle.sql_tables.proofs.AgreeLemmas.{listing, all_of_them, by_id, held_in, currents_held_is, vectors_held_is}

-- ---- numbers that rise

pairwise_of : {X : Type 0} (R : X → X → Type 0) (xs : List X) → IsAscending R xs → IsPairwise R xs
pairwise_of R [] up = tt
pairwise_of R (x ∷ xs) up = (up.0, pairwise_of R xs up.1)

all_front : {X : Type 0} (P : X → Type 0) (xs ys : List X) → AllByRecursion P (xs ++ ys)
    → AllByRecursion P xs
all_front P [] ys all = tt
all_front P (x ∷ xs) ys all = (all.0, all_front P xs ys all.1)

pairwise_front : {X : Type 0} (R : X → X → Type 0) (xs ys : List X) → IsPairwise R (xs ++ ys)
    → IsPairwise R xs
pairwise_front R [] ys up = tt
pairwise_front R (x ∷ xs) ys up = (all_front (R x) xs ys up.0, pairwise_front R xs ys up.1)

pub int_of : (v : Value) → is_int v ≡ true → (n : ℤ) × (v ≡ Int n)
int_of Null e = absurd (true≢false (sym e))
int_of (Int n) e = (n, refl)
int_of (Real x) e = absurd (true≢false (sym e))
int_of (Text t) e = absurd (true≢false (sym e))
int_of (Blob b) e = absurd (true≢false (sym e))

abbrev Below : Row → Row → Type 0
Below a b = value_cmp (rowid a) (rowid b) ≡ Less

ints_below : (i j : ℤ) → int_cmp i j ≡ Less → i <ℤ j
ints_below i j e = grind (arith, ints, e)

all_above : (r : Row) (i : ℤ) (rows : List Row) (ids : List ℤ) → rowid r ≡ Int i
    → AllByRecursion (Below r) rows → map (λ b. column b 0) rows ≡ map Int ids
    → AllByRecursion (λ j. i <ℤ j) ids
all_above r i [] [] is up are = tt
all_above r i [] (j ∷ ids) is up are = absurd (let no = are in cc)
all_above r i (b ∷ rows) [] is up are = absurd (let no = are in cc)
all_above r i (b ∷ rows) (j ∷ ids) is up are =
    let head : column b 0 ≡ Int j = cc in
    let tail : map (λ x. column x 0) rows ≡ map Int ids = cc in
    let less : value_cmp (Int i) (Int j) ≡ Less = ap₂ value_cmp (sym is) (sym head) ∙ up.0 in
    (ints_below i j (sym (value_cmp-Int i j) ∙ less), all_above r i rows ids is up.1 tail)

rising_ids : (rows : List Row) → IsPairwise Below rows
    → AllByRecursion (λ r. is_int (rowid r) ≡ true) rows → (ids : List ℤ) × AreRising rows ids
rising_ids [] up all = ([], record { are = refl; rising = tt })
rising_ids (r ∷ rows) up all =
    let more = rising_ids rows up.1 all.1 in
    let it = int_of (rowid r) all.0 in (
      it.0 ∷ more.0,
      record {
        are = ap₂ ◌∷◌ it.1 more.1.are;
        rising = (all_above r it.0 rows more.0 it.1 up.0 more.1.are, more.1.rising);
      },
    )

-- ---- rows by number, of a table that is numbered

kept_few : (p : Row → Bool) (rs : List Row) → length (filter p rs) ≤ length rs
kept_few p [] = omega arith
kept_few p (r ∷ rs) = go (p r) (kept_few p rs)
  where
    go : (b : Bool) → length (filter p rs) ≤ length rs
        → length (cond b (r ∷ filter p rs) (filter p rs)) ≤ suc (length rs)
    go true few = omega (arith, few)
    go false few = omega (arith, few)

by_rowid_total : IsTotalOrder (on rowid value_cmp)
by_rowid_total = on_total rowid value_cmp_total

made_alike : {A : Type 0} (f : A → Output) (xs : List A) → ((x : A) → (f x).0 ≡ (f x).1)
    → AllByRecursion (λ o. (o.1, o.1) ≡ o) (map f xs)
made_alike f [] same_parts = tt
made_alike f (x ∷ xs) same_parts =
    (ap (λ k. (k, (f x).1)) (sym (same_parts x)), made_alike f xs same_parts)

sorted_alike : (f g : Row → Row → Ordering)
    → ((a b : Row) → f a b ≡ g a b) → (xs : List Row) → IsSorted f xs → IsSorted g xs
sorted_alike f g alike xs h k d p q = sym (ap is_lt (alike _ _)) ∙ h k d p q

module _ (from : Join) (tests : List Term) (db : Trees) (es : List Row) (keep : Row → Bool)
    (env : Row → Env) (matched : matches db tests from ([] ∷ [])
    ≡ flat_map (λ r. cond (keep r) (env r ∷ []) []) es)
    (shows : (r : Row) → eval_all (col 1 0 ∷ []) (env r) ≡ column r 0 ∷ []) where
  abbrev q : Query
  q = listing from tests (col 1 0 ∷ []) by_id all_of_them

  abbrev key : Row → Row
  key r = column r 0 ∷ []

  -- all rows that such a query shows rise by their numbers
  by_number : (rows : List Row) → IsAnswer q db [] rows → AreNumbered es
      → IsPairwise Below rows × AllByRecursion (λ r. is_int (rowid r) ≡ true) rows
      × (length rows ≤ length es)
  by_number rows a ids =
      let made = λ (r : Row). output q (env r) in
      let kept : a.kept ≡ map made (filter keep es) =
      a.distinct ∙ ap (map (output q)) (a.grouped ∙ matched) ∙ picked (output q) env keep es in
      let twice : Output → Output = λ o. (o.1, o.1) in
      let alike : AllByRecursion (λ o. twice o ≡ o) a.kept =
      subst (AllByRecursion (λ o. twice o ≡ o)) (sym kept)
      (made_alike made (filter keep es) (λ r. refl)) in
      let whole = repaired twice a.ordered (permuted a.kept a.ordered a.same alike) in
      let sorted = IsSorted-from_map (output_cmp q) twice a.ordered
      (subst (IsSorted (output_cmp q)) (sym whole) a.sorted) in
      let front = λ (o : Output). o.1 in
      let keyed = IsSorted-map (key_cmp 0 (ascending Binary ∷ [])) front a.ordered sorted in
      let shown : rows ≡ map front a.ordered = a.shown in
      let keys : map front a.kept ≡ map key (filter keep es) =
      ap (map front) kept ∙ map-map front made (filter keep es)
      ∙ keys_of (filter keep es) in
      let same_rows : IsPermutation (map key (filter keep es)) rows =
      subst (IsPermutation (map key (filter keep es))) (sym shown)
      (subst (λ xs. IsPermutation xs (map front a.ordered)) keys
      (IsPermutation-map front a.kept a.ordered a.same)) in
      let up : IsSorted (on rowid value_cmp) rows = sorted_alike (key_cmp 0 (ascending Binary ∷ []))
      (on rowid value_cmp) (λ x y. then-Equal (value_cmp (column x 0) (column y 0))) rows
      (subst (IsSorted (key_cmp 0 (ascending Binary ∷ []))) (sym shown) keyed) in
      let differ = pairwise_of (λ x y. is_eq (value_cmp (rowid x) (rowid y)) ≡ false)
      (map key (filter keep es))
      (ascending-map (λ x y. is_eq (value_cmp (rowid x) (rowid y)) ≡ false) key (filter keep es)
      (ascending-filter (λ x y. is_eq (value_cmp (rowid x) (rowid y)) ≡ false) keep es ids.apart))
      in
      let is = sorted_is (on rowid value_cmp) by_rowid_total (map key (filter keep es)) rows differ
      same_rows up in (
        subst (IsPairwise Below) (sym is)
            (rises-sort_by (on rowid value_cmp) by_rowid_total (map key (filter keep es)) differ),
        all-permuted (on rowid value_cmp) by_rowid_total (λ r. is_int (rowid r) ≡ true)
            (map key (filter keep es)) rows same_rows
            (all_map (λ r. is_int (rowid r) ≡ true) key (filter keep es)
            (all-filter (λ r. is_int (rowid r) ≡ true) keep es ids.keyed)),
        omega (
          arith,
          length_permutation _ _ same_rows,
          length-map (filter keep es) key,
          kept_few keep es,
        ),
      )
    where
      permuted : (xs ys : List Output) → IsPermutation xs ys
          → AllByRecursion (λ o. (o.1, o.1) ≡ o) xs → AllByRecursion (λ o. (o.1, o.1) ≡ o) ys
      permuted xs ys same_outputs all =
          recursion_from_All (λ o. (o.1, o.1) ≡ o) ys
          (All-permutation (λ o. (o.1, o.1) ≡ o) xs ys same_outputs
          (All-from_recursion (λ o. (o.1, o.1) ≡ o) xs all))

      keys_of : (rs : List Row) → map (λ r. eval_all (col 1 0 ∷ []) (env r)) rs ≡ map key rs
      keys_of [] = refl
      keys_of (r ∷ rs) = ap₂ ◌∷◌ (shows r) (keys_of rs)

  -- so no first rows of it are refused
  pub countable : (rows tail : List Row) → IsAnswer q db [] (rows ++ tail) → AreNumbered es
      → length es < 2 ^ 64 - 1 → AreUncountable rows → ⊥
  countable rows tail a ids few (inl never) =
      let it = by_number (rows ++ tail) a ids in
      let found = rising_ids rows (pairwise_front Below rows tail it.0)
      (all_front (λ r. is_int (rowid r) ≡ true) rows tail it.1) in never found.0 found.1
  countable rows tail a ids few (inr many) =
      let it = by_number (rows ++ tail) a ids in
      omega (arith, it.2, length-append rows tail, few, many)

-- ---- the texts that are counted

second : {A B : Type 0} → A × B → B
second (a, b) = b

start_in : (q : Query) (db : Trees) (rows : List Row) → IsSureStart q db [] rows
    → (tail : List Row) × IsAnswer q db [] (rows ++ tail)
start_in q db rows (tail, sure) = (tail, sure Null)

first_is : (indexed : Bool) (sql : List ℕ) (q : Query) (names : List (List ℕ)) (db : Trees)
    (rows : List Row)
    → command_in (understood (archive_schema indexed) sql)
    ≡ Select (record { lets = []; body = q }) names
    → ReadsFirst (command_in (understood (archive_schema indexed) sql))
    (record { schema = archive_schema indexed; trees = db }) [] rows
    → (tail : List Row) × IsAnswer q (overlay db []) [] (rows ++ tail)
first_is indexed sql q names db rows is shown =
    start_in q (overlay db []) rows
    (second {A = accepts_program (archive_schema indexed) [] q [] ≡ true}
    {B = IsProgramStart [] q db [] rows}
    (subst (λ c. ReadsFirst c (record { schema = archive_schema indexed; trees = db }) [] rows) is
    shown))

held_countable : (t : ℕ) (db : Trees) (rows tail : List Row)
    → IsAnswer (held_in t) (overlay db []) [] (rows ++ tail) → overlay db [] t ≡ db t
    → AreNumbered (db t) → length (db t) < 2 ^ 64 - 1 → AreUncountable rows → ⊥
held_countable t db rows tail a seen ids few =
    countable (inner t end) [] (overlay db []) (overlay db [] t) (λ _. true) (λ r. [] ∷ r ∷ []) refl
    (λ r. refl) rows tail a (subst AreNumbered (sym seen) ids)
    (subst (λ rs. length rs < 2 ^ 64 - 1) (sym seen) few)

module _ (d : Database) (has : IsArchiveSchema d.schema) where
  abbrev as_archive : Database
  as_archive = record { schema = archive_schema has.0; trees = d.trees }

  pub as_archive_is : d ≡ as_archive
  as_archive_is =
      ap (λ (s : Schema). let w : Database = record { schema = s; trees = d.trees } in w) has.1

  begun_in : (sql : List ℕ) → BeginsUncountable sql d → BeginsUncountable sql as_archive
  begun_in sql = subst (λ x. BeginsUncountable sql x) as_archive_is

  pub currents_held_whole : AreNumbered (d.trees 4) → length (d.trees 4) < 2 ^ 64 - 1
      → BeginsUncountable currents_held_text d → ⊥
  currents_held_whole ids few b =
      let it = begun_in currents_held_text b in
      let a = first_is has.0 currents_held_text (held_in 4) _ d.trees it.rows
      (currents_held_is has.0) it.shown in
      held_countable 4 d.trees it.rows a.0 a.1 refl ids few it.so

  pub vectors_held_whole : AreNumbered (d.trees 6) → length (d.trees 6) < 2 ^ 64 - 1
      → BeginsUncountable vectors_held_text d → ⊥
  vectors_held_whole ids few b =
      let it = begun_in vectors_held_text b in
      let a = first_is has.0 vectors_held_text (held_in 6) _ d.trees it.rows
      (vectors_held_is has.0) it.shown in
      held_countable 6 d.trees it.rows a.0 a.1 refl ids few it.so

-- ---- that no row that follows is missing

pub same_int : (v w : Value) (n : ℤ) → v ≡ w → w ≡ Int n → same v w ≡ true
same_int v w n e is = rw (e, is) (equals (Int n) (Int n) refl ∙ ap (λ k. is_eq k) (itself (Int n)))
  where
    itself : (x : Value) → value_cmp x x ≡ Equal
    itself x = tied_itself value_cmp_total x

pub same_blob : (v w : Value) (b : List ℕ) → v ≡ w → w ≡ Blob b → same v w ≡ true
same_blob v w b e is =
    rw (e, is) (equals (Blob b) (Blob b) refl ∙ ap (λ k. is_eq k) (itself (Blob b)))
  where
    itself : (x : Value) → value_cmp x x ≡ Equal
    itself x = tied_itself value_cmp_total x

pub has_from_map : {A B : Type 0} (f : A → B) (xs : List A) (y : B) → Has (map f xs) y
    → (x : A) × Has xs x × (y ≡ f x)
has_from_map f [] y h = absurd h
has_from_map f (x ∷ xs) y (inl e) = (x, inl refl, e)
has_from_map f (x ∷ xs) y (inr h) =
    let it = has_from_map f xs y h in (it.0, inr it.1, it.2)

pub all_has_permuted : (xs ys : List Row) → IsPermutation xs ys → AllByRecursion (Has ys) xs
all_has_permuted xs ys same_rows =
    recursion_from_All (Has ys) xs (All-permutation (Has ys) ys xs
    (IsPermutation-sym xs ys same_rows)
    (All-from_recursion (Has ys) ys (each_itself ys)))
  where
    weaken : (y : Row) (zs ws : List Row) → AllByRecursion (Has zs) ws
        → AllByRecursion (Has (y ∷ zs)) ws
    weaken y zs [] all = tt
    weaken y zs (w ∷ ws) all = (inr all.0, weaken y zs ws all.1)

    each_itself : (zs : List Row) → AllByRecursion (Has zs) zs
    each_itself [] = tt
    each_itself (z ∷ zs) = (inl refl, weaken z zs zs (each_itself zs))

pub any_by : {A : Type 0} (p : A → Bool) (xs : List A) (x : A) → Has xs x → p x ≡ true
    → list_any p xs ≡ true
any_by p [] x h is = absurd h
any_by p (y ∷ xs) x (inl e) is = rw (subst (λ z. p z ≡ true) e is) refl
any_by p (y ∷ xs) x (inr h) is = go (p y) (any_by p xs x h is)
  where
    go : (b : Bool) → list_any p xs ≡ true → (b || list_any p xs) ≡ true
    go true e = refl
    go false e = e

pub three_true : {a b c : Bool} → a ≡ true → b ≡ true → c ≡ true → (a && (b && (c && true))) ≡ true
three_true p q r = rw (p, q, r) refl

pub none_listed : (key : Row → Row) (miss : Row → Bool) (rs all rows : List Row)
    → AllByRecursion (λ r. miss r ≡ false) rs → IsPermutation (map key (filter miss rs)) all
    → rows ≡ take 1 all → rows ≡ []
none_listed key miss rs all rows off same_rows shown =
    let empty : all ≡ [] = empty_by all (length_permutation (map key (filter miss rs)) all same_rows
    ∙ ap (λ l. length (map key l)) (filter_none miss rs off)) in
    shown ∙ ap (take 1) empty

-- ---- there are no more of them than records

pub few_currents : (db : Trees) → AreWhole db → length (db 4) < 2 ^ 64 - 1
few_currents db whole =
    let rows = cells (db 1) in
    let top = λ (r : Row). not (list_any (is_later r) rows) in
    omega (
      arith,
      whole.few,
      length_permutation _ _ whole.kept.currents,
      length-map (db 4) current_columns,
      length-map (filter top rows) (current_of rows),
      kept_few top rows,
      length-map (db 1) columns_of,
    )

pub few_vectors : (db : Trees) → AreWhole db → length (db 6) < 2 ^ 64 - 1
few_vectors db whole =
    let rows = cells (db 1) in
    let top = λ (r : Row). not (list_any (is_newer r) rows) in
    omega (
      arith,
      whole.few,
      length_permutation _ _ whole.kept.vectors,
      length-map (db 6) vector_columns,
      length-map (filter top rows) last_of,
      kept_few top rows,
      length-map (db 1) columns_of,
    )
