-- What an opening asks of currents2 and of vectors.
use Rattle.std.proofs.lemmas.Slice.Eq.{bytes_eq-Decides}
use Rattle.std.proofs.lemmas.Map.Text.{is_eq-slice_cmp}
use Rattle.std.proofs.Common.{rules, IsSomeAnd, Option, ◌-◌, ◌^◌, ◌≤◌, Ok, Err, Result, IfSome, ◌≤ℤ◌, zero, suc, ◌+◌, Less, ◌≡◌, ◌⊎◌, inl, inr, arith, ℕ, ℤ, pos, negsuc, length, take, not, ◌&&◌, ◌||◌, ◌<ℤ◌, Bool, true, false, cond, List, [], ◌∷◌, ◌++◌, drop, map, filter, flat_map, codes, slice_get, Option, Some, None, refl, sym, ap, ap₂, subst, subst₂, ◌∙◌, IsPermutation, is_eq}
use Rattle.std.specs.List.{list_any, AllByRecursion}
use Rattle.std.specs.Ordering.{int_cmp, on}
use Rattle.std.specs.Cmp.{IsTotalOrder}
use Rattle.std.proofs.lemmas.Cmp.{on_total}
use Rattle.std.proofs.lemmas.Int.{ints}
use Rattle.std.proofs.lemmas.Bool.{and_parts, true≢false}
use Rattle.std.proofs.lemmas.List.{length-map}
use Rattle.std.proofs.lemmas.List.Sorted.{IsPermutation-sym, IsPermutation-map, length_permutation}
use Rattle.sqlite_value.specs.declared.value.Value.{Value}
use Rattle.sqlite_value.specs.declared.value.Value.TheVariants.{Null, Int, Real, Text, Blob}
use Rattle.sqlite_value.specs.declared.keys.Collation.TheVariants.{Binary}
use Rattle.sqlite_value.specs.declared.keys.Key.{Key}
use Rattle.sqlite_value.specs.Keys.{ascending}
use Rattle.sqlite_value.specs.Order.{Row, column, value_cmp}
use Rattle.sqlite_value.proofs.OrderLemmas.{value_cmp_total, value_cmp-Int, value_cmp-Blob, value_cmp-apart}
use Rattle.sqlite_sql.specs.Ops.{is_null, is_true, unary, binary, from_truth}
use Rattle.sqlite_sql.specs.Term.{Term, Env, lit, col, eval_all}
use Rattle.sqlite_sql.specs.declared.ops.UnaryOp.TheVariants.{ToNumeric}
use Rattle.sqlite_sql.specs.declared.ops.BinaryOp.TheVariants.{Compare}
use Rattle.sqlite_sql.specs.declared.ops.CompareOp.TheVariants.{Ne}
use Rattle.sqlite_sql.specs.Query.{Query, Join, inner, end, Output, output, page, matches, IsAnswer}
use Rattle.sqlite_sql.specs.Program.{overlay}
use Rattle.sqlite_schema.specs.declared.command.Command.TheVariants.{Select}
use Rattle.sqlite_schema.specs.declared.schema.Column.{Column}
use Rattle.sqlite_schema.specs.Rules.{are_typed, are_present, suits, is_of, has_affinity, passes}
use Rattle.sqlite_schema.specs.Names.{is_key}
use Rattle.sqlite_schema.specs.declared.schema.Kind.TheVariants as kind
use Rattle.sqlite_trees.specs.Tree.{Trees, IsAscending, rowid}
use Rattle.sqlite_trees.specs.View.{is_int}
use Rattle.sqlite_rules.specs.Lists.{Has}
use Rattle.sqlite_keyed.proofs.ListLemmas.{all_both, map-map, ascending_from_map, all_unmap}
use Rattle.sqlite_tied.specs.Compute.{everything}
use Rattle.sqlite.specs.Listing.{understood, reads_listing}
use Rattle.sqlite.specs.Effect.{Database, Reads, ReadsFirst}
use Rattle.sqlite.specs.Given.{IsPlain}
use Rattle.sqlite.specs.State.{State, Shown, Begins}
use Rattle.sqlite.proofs.Callers.{command_of, reads_as, begins_as}
use Rattle.sqlite_resolve.specs.declared.compiled.Compiled.{Compiled}
use Rattle.sqlite_resolve.specs.declared.error.CompileError.{CompileError}
use Rattle.std.proofs.lemmas.List.{map-append, length-append}
use Rattle.sql_tables.specs.declared.integrity.Ids.{Ids}
use Rattle.sqlite_catalog.specs.Listing.{IsSound}
use Rattle.sqlite_schema.specs.declared.schema.Constraint.TheVariants.{Datatype, NotNull}
use Rattle.sql_schema.specs.Tables.{archive_schema, IsArchiveSchema, third_table, fourth_table}
use Rattle.sql_tables.specs.Derived.{AreNumbered, same}
use Rattle.sql_tables.specs.Agreeing.{command_in, AreUncountable, ShowsOf, AreRising, HasCounted, HasRisen}
use Rattle.sqlite_schema.specs.declared.schema.Schema.{Schema}
use Rattle.sql_tables.proofs.Texts.{currents_held_text, vectors_held_text}
use Rattle.sql_tables.proofs.ApartLemmas.{apart-permuted, all-permuted}
use Rattle.sql_tables.proofs.MadeLemmas.{one_true, picked}

-- ---- what a query answers, in order and to a limit

abbrev pub listing : Join → List Term → List Term → List (Term × Key) → Term → Query
listing from filter project order limit = record {
  from = from;
  filter = filter;
  group = None;
  project = project;
  distinct = false;
  collations = [];
  order = order;
  limit = limit;
  offset = lit (Int (pos 0));
}

module _ (from : Join) (tests project : List Term) (order : List (Term × Key)) (limit : Term)
    (params : Row) (db : Trees) (es : List Row) (keep : Row → Bool) (env : Row → Env)
    (matched : matches db tests from (params ∷ [])
    ≡ flat_map (λ r. cond (keep r) (env r ∷ []) []) es) where
  pub listed : (rows : List Row) → IsAnswer (listing from tests project order limit) db params rows
      → (all : List Row) × IsPermutation (map (λ r. eval_all project (env r)) (filter keep es)) all
      × (rows ≡ page (listing from tests project order limit) params all)
  listed rows a =
      let q = listing from tests project order limit in
      let kept : a.kept ≡ map (λ r. output q (env r)) (filter keep es) =
      a.distinct ∙ ap (map (output q)) (a.grouped ∙ matched) ∙ picked (output q) env keep es in
      let front = λ (o : Output). o.1 in
      let same : IsPermutation (map front a.kept) (map front a.ordered) =
      IsPermutation-map front a.kept a.ordered a.same in (
        map front a.ordered,
        subst (λ xs. IsPermutation xs (map front a.ordered))
            (ap (map front) kept ∙ map-map front (λ r. output q (env r)) (filter keep es)) same,
        a.shown,
      )

pub none_first : (rows : List Row) → take 1 rows ≡ [] → rows ≡ []
none_first [] e = refl
none_first (r ∷ rows) e = absurd (let no = e in cc)

pub none_of : {A B : Type 0} (f : A → B) (xs : List A) → IsPermutation (map f xs) [] → xs ≡ []
none_of f [] same_rows = refl
none_of f (x ∷ xs) same_rows = absurd (omega
    (arith, length_permutation (f x ∷ map f xs) [] same_rows))

-- where none passes, none of them does
pub none_passes : {A : Type 0} (p : A → Bool) (xs : List A) → filter p xs ≡ []
    → AllByRecursion (λ x. p x ≡ false) xs
none_passes p [] e = tt
none_passes {A} p (x ∷ xs) e = go (p x) refl e (none_passes p xs)
  where
    go : (b : Bool) → p x ≡ b → cond b (x ∷ filter p xs) (filter p xs) ≡ []
        → (filter p xs ≡ [] → AllByRecursion (λ x. p x ≡ false) xs)
        → (p x ≡ false) × AllByRecursion (λ x. p x ≡ false) xs
    go true is e more = absurd (let no = e in cc)
    go false is e more = (is, more e)

abbrev pub first_only : Term
first_only = lit (Int (pos 1))

abbrev pub all_of_them : Term
all_of_them = lit (Int (negsuc 0))

abbrev pub by_id : List (Term × Key)
by_id = (col 1 0, ascending Binary) ∷ []

-- ---- rows whose numbers rise

rising_numbered : (rows : List Row) (ids : List ℤ) → AreRising rows ids → AreNumbered rows
rising_numbered rows ids rise = go rows ids rise.are rise.rising
  where
    apart_from : (x : Value) (i : ℤ) (rows : List Row) (ids : List ℤ) → x ≡ Int i
        → map (λ r. column r 0) rows ≡ map Int ids → AllByRecursion (λ b. i <ℤ b) ids
        → AllByRecursion (λ r. is_eq (value_cmp x (rowid r)) ≡ false) rows
    apart_from x i [] ids is are all = tt
    apart_from x i (r ∷ rows) [] is are all = absurd (let no = are in cc)
    apart_from x i (r ∷ rows) (j ∷ ids) is are all =
        let head : column r 0 ≡ Int j = cc in
        let tail : map (λ r. column r 0) rows ≡ map Int ids = cc in (
          ap₂ (λ v w. is_eq (value_cmp v w)) is head ∙ ap is_eq (value_cmp-Int i j)
              ∙ below i j all.0,
          apart_from x i rows ids is tail all.1,
        )
      where
        below : (i j : ℤ) → i <ℤ j → is_eq (int_cmp i j) ≡ false
        below i j up = grind (arith, ints, up)

    go : (rows : List Row) (ids : List ℤ) → map (λ r. column r 0) rows ≡ map Int ids
        → IsAscending (λ a b. a <ℤ b) ids → AreNumbered rows
    go [] ids are rising = record { apart = tt; keyed = tt }
    go (r ∷ rows) [] are rising = absurd (let no = are in cc)
    go (r ∷ rows) (i ∷ ids) are rising =
        let head : column r 0 ≡ Int i = cc in
        let tail : map (λ r. column r 0) rows ≡ map Int ids = cc in
        let more = go rows ids tail rising.1 in
        record {
          apart = (apart_from (column r 0) i rows ids head tail rising.0, more.apart);
          keyed = (ap is_int head, more.keyed);
        }

-- ---- the texts

abbrev pub held_in : ℕ → Query
held_in t = listing (inner t end) [] (col 1 0 ∷ []) by_id all_of_them

pub currents_held_is : (indexed : Bool)
    → command_in (understood (archive_schema indexed) currents_held_text)
    ≡ Select (record { lets = []; body = held_in 4 }) (codes "rowid" ∷ [])
unfolding understood everything
currents_held_is indexed = refl

pub vectors_held_is : (indexed : Bool)
    → command_in (understood (archive_schema indexed) vectors_held_text)
    ≡ Select (record { lets = []; body = held_in 6 }) (codes "origin" ∷ [])
unfolding understood everything
vectors_held_is indexed = refl

-- ---- the rows that are held

-- a table whose rowids rise is numbered, and as long as the count
held_rows : (t : ℕ) (db : Trees) (rows : List Row) (ids : List ℤ) → IsAnswer (held_in t) db [] rows
    → AreRising rows ids → AreNumbered (db t) × (length rows ≡ length (db t))
held_rows t db rows ids a rise =
    let every : filter (λ _. true) (db t) ≡ db t = all_kept (db t) in
    let got = listed (inner t end) [] (col 1 0 ∷ []) by_id all_of_them [] db (db t) (λ _. true)
    (λ r. [] ∷ r ∷ []) refl rows a in
    let shown : rows ≡ got.0 = got.2 in
    let same : IsPermutation (map (λ r. column r 0 ∷ []) (db t)) rows =
    subst₂ IsPermutation (ap (map (λ r. column r 0 ∷ [])) every) (sym shown) got.1 in
    let back = IsPermutation-sym _ _ same in
    let was = rising_numbered rows ids rise in (
      record {
        apart = ascending_from_map (λ a b. is_eq (value_cmp (rowid a) (rowid b)) ≡ false)
            (λ r. column r 0 ∷ []) (db t) (apart-permuted (on rowid value_cmp) keyed_total rows
            (map (λ r. column r 0 ∷ []) (db t)) back was.apart);
        keyed = all_unmap (λ r. is_int (rowid r) ≡ true) (λ r. column r 0 ∷ []) (db t)
            (all-permuted (on rowid value_cmp) keyed_total (λ r. is_int (rowid r) ≡ true) rows
            (map (λ r. column r 0 ∷ []) (db t)) back was.keyed);
      },
      length_permutation (map (λ r. column r 0 ∷ []) (db t)) rows same
          ∙ length-map (db t) (λ r. column r 0 ∷ []),
    )
  where
    keyed_total : IsTotalOrder (on rowid value_cmp)
    keyed_total = on_total rowid value_cmp_total

    all_kept : (rs : List Row) → filter (λ _. true) rs ≡ rs
    all_kept [] = refl
    all_kept (r ∷ rs) = ap (λ l. r ∷ l) (all_kept rs)

-- ---- values that are told by =

same_is : (v w : Value) → is_null v ≡ false → is_null w ≡ false → same v w ≡ true
    → is_eq (value_cmp v w) ≡ true
unfolding binary
same_is v w some more e = truly (is_eq (value_cmp v w)) (rw (some, more) at e)
  where
    truly : (b : Bool) → is_true (from_truth (Some b)) ≡ true → b ≡ true
    truly true e = refl
    truly false e = absurd (let no = e in cc)

not_null : (w : Value) → same Null w ≡ true → ⊥
unfolding binary
not_null w e = let no = e in cc

ints_same : (m n : ℤ) → is_eq (int_cmp m n) ≡ true → m ≡ n
ints_same m n e = grind (arith, ints, e)

-- a value of a whole number's column that is such a number is it
pub int_same : (v : Value) (n : ℤ) → is_of kind.Integer v ≡ true → same v (Int n) ≡ true → v ≡ Int n
int_same Null n kind e = absurd (not_null (Int n) e)
int_same (Int m) n kind e = ap Int (ints_same m n
    (ap is_eq (sym (value_cmp-Int m n)) ∙ same_is (Int m) (Int n) refl refl e))
int_same (Real x) n kind e = absurd (let no = kind in cc)
int_same (Text t) n kind e = absurd (let no = kind in cc)
int_same (Blob b) n kind e = absurd (let no = kind in cc)

no_blob : (v : Value) (b : List ℕ) → is_null v ≡ false → value_cmp v (Blob b) ≡ Less
    → same v (Blob b) ≡ true → ⊥
no_blob v b some below e = let no : false ≡ true =
    ap is_eq (sym below) ∙ same_is v (Blob b) some refl e in true≢false (sym no)

pub blob_same : (v : Value) (b : List ℕ) → same v (Blob b) ≡ true → v ≡ Blob b
blob_same Null b e = absurd (not_null (Blob b) e)
blob_same (Int m) b e = absurd (no_blob (Int m) b refl
    (value_cmp-apart (Int m) (Blob b) (λ c. absurd (omega (arith, c)))) e)
blob_same (Real x) b e = absurd (no_blob (Real x) b refl
    (value_cmp-apart (Real x) (Blob b) (λ c. absurd (omega (arith, c)))) e)
blob_same (Text t) b e = absurd (no_blob (Text t) b refl
    (value_cmp-apart (Text t) (Blob b) (λ c. absurd (omega (arith, c)))) e)
blob_same (Blob a) b e = ap Blob ((bytes_eq-Decides a b).0
    (sym (is_eq-slice_cmp a b) ∙ (ap is_eq (sym (value_cmp-Blob a b))
    ∙ same_is (Blob a) (Blob b) refl refl e)))

-- a column of a row that is typed is of the column's kind
kind_at : (key : Option ℕ) (at : ℕ) (cols : List Column) (vs : Row) (i : ℕ) (c : Column)
    → slice_get cols i ≡ Some c → are_typed key at cols vs ≡ true → c.is_strict ≡ true
    → is_of c.kind (column vs i) ≡ true
kind_at key at [] vs i c found typed strict = absurd (let no = found in cc)
kind_at key at (d ∷ cols) [] i c found typed strict = refl
kind_at key at (d ∷ cols) (v ∷ vs) zero c found typed strict =
    go (is_key key at)
    ((and_parts (cond (is_key key at) (is_null v) (suits d v))
    (are_typed key (at + 1) cols vs) typed).0)
  where
    same_column : d ≡ c
    same_column = let e = found in cc

    go : (b : Bool) → cond b (is_null v) (suits d v) ≡ true → is_of c.kind v ≡ true
    go true null = rw null refl
    go false suit = subst (λ (x : Column). is_of x.kind v ≡ true) same_column
        (strictly d.is_strict (ap (λ (x : Column). x.is_strict) same_column ∙ strict) suit)
      where
        strictly : (b : Bool) → b ≡ true → cond b (is_of d.kind v) (has_affinity d.kind v) ≡ true
            → is_of d.kind v ≡ true
        strictly true is suit = suit
        strictly false is suit = absurd (true≢false (sym is))
kind_at key at (d ∷ cols) (v ∷ vs) (suc i) c found typed strict =
    kind_at key (at + 1) cols vs i c found
    ((and_parts (cond (is_key key at) (is_null v) (suits d v))
    (are_typed key (at + 1) cols vs) typed).1) strict

column_behind : (r : Row) (i : ℕ) → column r (suc i) ≡ column (drop 1 r) i
column_behind [] i = refl
column_behind (v ∷ vs) i = refl

pub any_has : {A : Type 0} (p : A → Bool) (xs : List A) → list_any p xs ≡ true
    → (x : A) × Has xs x × (p x ≡ true)
any_has p [] e = absurd (true≢false (sym e))
any_has {A} p (x ∷ xs) e = go (p x) refl e (any_has p xs)
  where
    go : (b : Bool) → p x ≡ b → (b || list_any p xs) ≡ true
        → (list_any p xs ≡ true → (y : A) × Has xs y × (p y ≡ true))
        → (y : A) × ((y ≡ x) ⊎ Has xs y) × (p y ≡ true)
    go true is e more = (x, inl refl, is)
    go false is e more = let it = more e in (it.0, inr it.1, it.2)

pub has_mapped : {A B : Type 0} (f : A → B) (xs : List A) (x : A) → Has xs x → Has (map f xs) (f x)
has_mapped f [] x h = absurd h
has_mapped f (y ∷ ys) x (inl e) = inl (ap f e)
has_mapped f (y ∷ ys) x (inr h) = inr (has_mapped f ys x h)

-- a whole number stays one where a number is wanted
pub numeric_int : (n : ℤ) → unary ToNumeric (Int n) ≡ Int n
unfolding unary
numeric_int n = refl

pub live_is : (v : Value) (n : ℤ) → v ≡ Int n
    → (k : ℤ) × (binary (Compare Ne Binary) v (Int (pos 4)) ≡ Int k)
unfolding binary
live_is v n e = rw e (one _)
  where
    one : (b : Bool) → (k : ℤ) × (from_truth (Some b) ≡ Int k)
    one true = (pos 1, refl)
    one false = (pos 0, refl)

-- the columns of currents2 with whole numbers have such, and what is told of others isn't NULL
pub record HasInts (c : Row) : Type 0 where
  pub time : is_of kind.Integer (column c 2) ≡ true
  pub pico : is_of kind.Integer (column c 3) ≡ true
  pub tick : is_of kind.Integer (column c 4) ≡ true
  pub origin : is_of kind.Integer (column c 5) ≡ true
  pub live : is_of kind.Integer (column c 6) ≡ true
  pub extra : is_of kind.Integer (column c 7) ≡ true
  pub told : is_null (column c 7) ≡ false

pub three_parts : (a b c : Bool) → (a && (b && (c && true))) ≡ true
    → (a ≡ true) × (b ≡ true) × (c ≡ true)
three_parts true true true all = (refl, refl, refl)
three_parts true true false all = absurd (true≢false (sym all))
three_parts true false c all = absurd (true≢false (sym all))
three_parts false b c all = absurd (true≢false (sym all))

pub int_equal : (v w : Value) (n : ℤ) → w ≡ Int n → is_of kind.Integer v ≡ true → same v w ≡ true
    → v ≡ w
int_equal v w n is kind e = int_same v n kind (subst (λ x. same v x ≡ true) is e) ∙ sym is

pub blob_equal : (v w : Value) (b : List ℕ) → w ≡ Blob b → same v w ≡ true → v ≡ w
blob_equal v w b is e = blob_same v b (subst (λ x. same v x ≡ true) is e) ∙ sym is

-- the columns of vectors have whole numbers
pub record HasNumbers (c : Row) : Type 0 where
  pub origin : is_of kind.Integer (column c 0) ≡ true
  pub number : is_of kind.Integer (column c 2) ≡ true
  pub tick : is_of kind.Integer (column c 3) ≡ true

-- ---- what a database that obeys its schema has in their columns

pub typed_currents : (indexed : Bool) (db : Trees) → IsSound (archive_schema indexed) db
    → AllByRecursion HasInts (db 4)
typed_currents indexed db sound =
    all_both (λ row. passes Datatype (archive_schema indexed) db third_table row ≡ true)
    (λ row. passes NotNull (archive_schema indexed) db third_table row ≡ true) HasInts one (db 4)
    (sound.obeys.rules Datatype).1.1.0 (sound.obeys.rules NotNull).1.1.0
  where
    seventh : (a b c d e f g h : Bool)
        → (a && (b && (c && (d && (e && (f && (not g && (h && true)))))))) ≡ true → g ≡ false
    seventh true true true true true true false h all = refl
    seventh true true true true true true true h all = absurd (true≢false (sym all))
    seventh true true true true true false g h all = absurd (true≢false (sym all))
    seventh true true true true false f g h all = absurd (true≢false (sym all))
    seventh true true true false e f g h all = absurd (true≢false (sym all))
    seventh true true false d e f g h all = absurd (true≢false (sym all))
    seventh true false c d e f g h all = absurd (true≢false (sym all))
    seventh false b c d e f g h all = absurd (true≢false (sym all))

    one : (r : Row) → (are_typed None 0 third_table.columns (drop 1 r) && true) ≡ true
        → are_present None 0 third_table.columns r ≡ true → HasInts r
    one r e some =
        let typed : are_typed None 0 third_table.columns (drop 1 r) ≡ true = sym (one_true _) ∙ e in
        let at = λ (i : ℕ) (c : Column) (found : slice_get third_table.columns i ≡ Some c)
        (strict : c.is_strict ≡ true).
        subst (λ v. is_of c.kind v ≡ true) (sym (column_behind r i))
        (kind_at None 0 third_table.columns (drop 1 r) i c found typed strict) in
        record {
          time = at 1 _ refl refl;
          pico = at 2 _ refl refl;
          tick = at 3 _ refl refl;
          origin =
              at 4 _ refl refl;
          live = at 5 _ refl refl;
          extra = at 6 _ refl refl;
          told = seventh (not (is_null (column r 1))) (not (is_null (column r 2)))
              (not (is_null (column r 3))) (not (is_null (column r 4))) (not (is_null (column r 5)))
              (not (is_null (column r 6))) (is_null (column r 7)) (not (is_null (column r 8))) some;
        }

pub typed_vectors : (indexed : Bool) (db : Trees) → IsSound (archive_schema indexed) db
    → AreNumbered (db 6) → AllByRecursion HasNumbers (db 6)
typed_vectors indexed db sound ids = go (db 6) (sound.obeys.rules Datatype).1.1.1.0 ids.keyed
  where
    int_kind : (v : Value) → is_int v ≡ true → is_of kind.Integer v ≡ true
    int_kind Null e = refl
    int_kind (Int n) e = refl
    int_kind (Real x) e = absurd (true≢false (sym e))
    int_kind (Text t) e = absurd (true≢false (sym e))
    int_kind (Blob b) e = absurd (true≢false (sym e))

    one : (r : Row) → (are_typed (Some 0) 0 fourth_table.columns (drop 1 r) && true) ≡ true
        → is_int (rowid r) ≡ true → HasNumbers r
    one r e int =
        let typed : are_typed (Some 0) 0 fourth_table.columns (drop 1 r) ≡ true =
        sym (one_true _) ∙ e in
        let at = λ (i : ℕ) (c : Column) (found : slice_get fourth_table.columns i ≡ Some c)
        (strict : c.is_strict ≡ true).
        subst (λ v. is_of c.kind v ≡ true) (sym (column_behind r i))
        (kind_at (Some 0) 0 fourth_table.columns (drop 1 r) i c found typed strict) in
        record {
          origin = int_kind (column r 0) int;
          number = at 1 _ refl refl;
          tick =
              at 2 _ refl refl;
        }

    go : (rs : List Row) → AllByRecursion (λ row.
        passes Datatype (archive_schema indexed) db fourth_table row
        ≡ true) rs → AllByRecursion (λ r. is_int (rowid r) ≡ true) rs → AllByRecursion HasNumbers rs
    go [] all ids = tt
    go (r ∷ rs) all ids = (one r all.0 ids.0, go rs all.1 ids.1)

-- ---- all of it

pub shown_is : (indexed : Bool) (sql : List ℕ) (q : Query) (names : List (List ℕ)) (db : Trees)
    (rows : List Row)
    → command_in (understood (archive_schema indexed) sql)
    ≡ Select (record { lets = []; body = q }) names
    → ShowsOf sql (record { schema = archive_schema indexed; trees = db }) rows
    → IsAnswer q (overlay db []) [] rows
shown_is indexed sql q names db rows is shown =
    (subst (λ c. Reads c (record { schema = archive_schema indexed; trees = db }) [] rows) is
    shown).answer Null

-- a database with the tables of an archive
module _ (d : Database) (has : IsArchiveSchema d.schema) where
  abbrev whole : Database
  whole = record { schema = archive_schema has.0; trees = d.trees }

  whole_is : d ≡ whole
  whole_is =
      ap (λ (s : Schema). let w : Database = record { schema = s; trees = d.trees } in w) has.1

  counted_in : (sql : List ℕ) (n : ℕ) → HasCounted sql d n → HasCounted sql whole n
  counted_in sql n = subst (λ x. HasCounted sql x n) whole_is

  pub currents_held_of : (n : ℕ) → HasCounted currents_held_text d n
      → (n ≡ length (d.trees 4)) × AreNumbered (d.trees 4)
  currents_held_of n counts =
      let have = counted_in currents_held_text n counts in
      let some = held_rows 4 (overlay d.trees []) have.rows have.numbers
      (shown_is has.0 currents_held_text (held_in 4)
      (codes "rowid" ∷ []) d.trees have.rows (currents_held_is has.0) have.shown) have.rise in
      (have.many ∙ some.1, some.0)

  pub vectors_held_of : (n : ℕ) → HasCounted vectors_held_text d n
      → (n ≡ length (d.trees 6)) × AreNumbered (d.trees 6)
  vectors_held_of n counts =
      let have = counted_in vectors_held_text n counts in
      let some = held_rows 6 (overlay d.trees []) have.rows have.numbers
      (shown_is has.0 vectors_held_text (held_in 6)
      (codes "origin" ∷ []) d.trees have.rows (vectors_held_is has.0) have.shown) have.rise in
      (have.many ∙ some.1, some.0)

-- ---- what a statement shows

commands_alike : (r : Result Compiled CompileError) → command_of r ≡ command_in r
commands_alike (Ok c) = refl
commands_alike (Err e) = refl

pub shows_of : (sql : List ℕ) (old new : State) (rows : List Row)
    → IsPlain (understood old.now.schema sql) → reads_listing old.now.schema sql ≡ false
    → Shown sql [] old new rows → ShowsOf sql old.now rows
shows_of sql old new rows plain unlisted h =
    subst (λ c. Reads c old.now [] rows) (commands_alike (understood old.now.schema sql))
    (reads_as sql [] old new old.now.schema refl
    (command_of (understood old.now.schema sql)) refl plain unlisted rows h)

pub begins_of : (sql : List ℕ) (s : State) (rows : List Row)
    → IsPlain (understood s.now.schema sql) → reads_listing s.now.schema sql ≡ false
    → Begins sql [] s rows
    → ReadsFirst (command_in (understood s.now.schema sql)) s.now [] rows
begins_of sql s rows plain unlisted h =
    subst (λ c. ReadsFirst c s.now [] rows) (commands_alike (understood s.now.schema sql))
    (begins_as sql [] s s s.now.schema refl
    (command_of (understood s.now.schema sql)) refl plain unlisted rows h)

-- ---- one row more

pub all_has : {X : Type 0} (P : X → Type 0) (xs : List X) (x : X) → AllByRecursion P xs → Has xs x
    → P x
all_has P [] x all none = absurd none
all_has P (y ∷ xs) x all (inl e) = subst P (sym e) all.0
all_has P (y ∷ xs) x all (inr has) = all_has P xs x all.1 has

has_last : {X : Type 0} (xs : List X) (x : X) → Has (xs ++ x ∷ []) x
has_last [] x = inl refl
has_last (y ∷ xs) x = inr (has_last xs x)

pub risen_more : (rows : List Row) (row : Row) (before after : Ids) (id : ℤ) → HasRisen rows before
    → column row 0 ≡ Int id → IfSome before.last (λ last. last <ℤ id) → after.last ≡ Some id
    → after.count ≡ before.count + 1 → HasRisen (rows ++ row ∷ []) after
risen_more rows row before after id w is up last count = record {
  numbers = w.numbers ++ id ∷ [];
  rise = record {
    are = map-append (λ r. column r 0) rows (row ∷ [])
        ∙ ap₂ ◌++◌ w.rise.are (ap (λ v. v ∷ []) is) ∙ sym (map-append Int w.numbers (id ∷ []));
    rising = rises w.numbers w.rise.rising (all_below before.last w.below up w.none);
  };
  below = subst (λ o. IfSome o (λ l. AllByRecursion (λ i. i ≤ℤ l) (w.numbers ++ id ∷ [])))
      (sym last) (bounded w.numbers (all_below before.last w.below up w.none));
  reached = subst (λ o. IfSome o (Has (w.numbers ++ id ∷ []))) (sym last) (has_last w.numbers id);
  none = λ e. absurd (let bad = sym last ∙ e in cc);
  many = count ∙ ap (λ n. n + 1) w.many ∙ sym (length-append rows (row ∷ []));
}
  where
    nothing : (xs : List Row) (ys : List ℤ) → xs ≡ [] → map (λ r. column r 0) xs ≡ map Int ys
        → AllByRecursion (λ i. i <ℤ id) ys
    nothing xs [] e are = tt
    nothing xs (y ∷ ys) e are = absurd (let bad =
        ap (map (λ (r : Row). column r 0)) (sym e) ∙ are in cc)

    under : (l : ℤ) (ys : List ℤ) → l <ℤ id → AllByRecursion (λ i. i ≤ℤ l) ys
        → AllByRecursion (λ i. i <ℤ id) ys
    under l [] up all = tt
    under l (y ∷ ys) up all = (omega (arith, ints, up, all.0), under l ys up all.1)

    all_below : (o : Option ℤ) → IfSome o (λ l. AllByRecursion (λ i. i ≤ℤ l) w.numbers)
        → IfSome o (λ l. l <ℤ id) → (o ≡ None → rows ≡ []) → AllByRecursion (λ i. i <ℤ id) w.numbers
    all_below None below up none = nothing rows w.numbers (none refl) w.rise.are
    all_below (Some l) below up none = under l w.numbers up below

    rises : (ys : List ℤ) → IsAscending (λ a b. a <ℤ b) ys → AllByRecursion (λ i. i <ℤ id) ys
        → IsAscending (λ a b. a <ℤ b) (ys ++ id ∷ [])
    rises [] rising all = (tt, tt)
    rises (y ∷ ys) rising all = (pushed (λ b. y <ℤ b) ys rising.0 all.0, rises ys rising.1 all.1)
      where
        pushed : (P : ℤ → Type 0) (xs : List ℤ) → AllByRecursion P xs → P id
            → AllByRecursion P (xs ++ id ∷ [])
        pushed P [] all p = (p, tt)
        pushed P (x ∷ xs) all p = (all.0, pushed P xs all.1 p)

    bounded : (ys : List ℤ) → AllByRecursion (λ i. i <ℤ id) ys
        → AllByRecursion (λ i. i ≤ℤ id) (ys ++ id ∷ [])
    bounded [] all = (omega (arith, ints), tt)
    bounded (y ∷ ys) all = (omega (arith, ints, all.0), bounded ys all.1)

pub none_risen : (ids : Ids) → ids.last ≡ None → ids.count ≡ 0 → HasRisen [] ids
none_risen ids last count = record {
  numbers = [];
  rise =
      record { are = refl; rising = tt };
  below =
      subst (λ o. IfSome o (λ l. AllByRecursion (λ i. i ≤ℤ l) [])) (sym last) tt;
  reached =
      subst (λ o. IfSome o (Has [])) (sym last) tt;
  none = λ e. refl;
  many = count;
}

-- ---- rows that can't be counted

-- the last one's first column is no whole number
pub not_whole : (rows : List Row) (row : Row) (ids : List ℤ) → ((n : ℤ) → column row 0 ≡ Int n → ⊥)
    → map (λ r. column r 0) (rows ++ row ∷ []) ≡ map Int ids → ⊥
not_whole [] row [] none are = search rules
not_whole [] row (i ∷ []) none are = none i cc
not_whole [] row (i ∷ j ∷ ids) none are = search rules
not_whole (r ∷ rows) row [] none are = search rules
not_whole (r ∷ rows) row (i ∷ ids) none are = not_whole rows row ids none cc

last_has : (rows : List Row) (row : Row) (id : ℤ) (ids : List ℤ) → column row 0 ≡ Int id
    → map (λ r. column r 0) (rows ++ row ∷ []) ≡ map Int ids → Has ids id
last_has [] row id [] is are = absurd (search rules)
last_has [] row id (i ∷ ids) is are = inl cc
last_has (r ∷ rows) row id [] is are = absurd (search rules)
last_has (r ∷ rows) row id (i ∷ ids) is are = inr (last_has rows row id ids is cc)

-- the last one's is above those before it, where they rise
above_before : (rows : List Row) (row : Row) (before : List ℤ) (ids : List ℤ) (last id : ℤ)
    → map (λ r. column r 0) rows ≡ map Int before
    → map (λ r. column r 0) (rows ++ row ∷ []) ≡ map Int ids
    → IsAscending (λ a b. a <ℤ b) ids → column row 0 ≡ Int id → Has before last → last <ℤ id
above_before [] row [] ids last id were are rising is has = absurd has
above_before [] row (b ∷ before) ids last id were are rising is has = absurd (search rules)
above_before (r ∷ rows) row [] ids last id were are rising is has = absurd has
above_before (r ∷ rows) row (b ∷ before) [] last id were are rising is has = absurd (search rules)
above_before (r ∷ rows) row (b ∷ before) (i ∷ ids) last id were are rising is (inl e) =
    let same : i ≡ last = cc in subst (λ n. n <ℤ id) same
    (all_has (λ n. i <ℤ n) ids id rising.0 (last_has rows row id ids is cc))
above_before (r ∷ rows) row (b ∷ before) (i ∷ ids) last id were are rising is (inr has) =
    above_before rows row before ids last id (cc) (cc) rising.1 is has

pub not_above : (rows : List Row) (row : Row) (before : Ids) (last id : ℤ) (ids : List ℤ)
    → HasRisen rows before → before.last ≡ Some last → column row 0 ≡ Int id → id ≤ℤ last
    → AreRising (rows ++ row ∷ []) ids → ⊥
not_above rows row before last id ids w is was reached rising =
    let has = subst (λ o. IfSome o (Has w.numbers)) is w.reached in
    let up = above_before rows row w.numbers ids last id w.rise.are rising.are rising.rising was has
    in omega (arith, ints, up, reached)

pub reached_by : (rows : List Row) (row : Row) (before : Ids) (id : ℤ) → HasRisen rows before
    → column row 0 ≡ Int id → IsSomeAnd before.last (λ last. id ≤ℤ last)
    → AreUncountable (rows ++ row ∷ [])
reached_by rows row before id w is reached =
    inl (λ ids rising. go before.last refl reached ids rising)
  where
    go : (o : Option ℤ) → before.last ≡ o → IsSomeAnd o (λ last. id ≤ℤ last) → (ids : List ℤ)
        → AreRising (rows ++ row ∷ []) ids → ⊥
    go (Some last) was r ids rising = not_above rows row before last id ids w was is r rising
    go None was r ids rising = absurd r

pub too_many : (rows : List Row) (row : Row) (ids : Ids) → HasRisen rows ids
    → 2 ^ 64 - 1 ≤ ids.count → 2 ^ 64 - 1 ≤ length (rows ++ row ∷ [])
too_many rows row ids w many = omega (arith, w.many, many, length-append rows (row ∷ []))
