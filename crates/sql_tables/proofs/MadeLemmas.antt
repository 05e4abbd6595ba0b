-- The rows that the writes of currents2 and of vectors put in and take out.
use Rattle.std.proofs.Common.{◌≡◌, arith, ℕ, ℤ, pos, negsuc, min, length, not, ◌&&◌, ◌||◌, Bool, true, false, cond, List, [], ◌∷◌, ◌++◌, drop, map, filter, flat_map, Some, None, refl, sym, ap, ap₂, subst, subst₂, ◌∙◌, IsPermutation}
use Rattle.std.specs.List.{list_any, list_all, AllByRecursion}
use Rattle.std.proofs.lemmas.List.Sorted.{IsPermutation-map, All-permutation}
use Rattle.sqlite_value.specs.declared.value.Value.{Value}
use Rattle.sqlite_value.specs.declared.value.Value.TheVariants.{Null, Int}
use Rattle.sqlite_value.specs.declared.keys.Collation.{Collation}
use Rattle.sqlite_value.specs.declared.keys.Collation.TheVariants.{Binary}
use Rattle.sqlite_value.specs.Order.{Row, column}
use Rattle.sqlite_sql.specs.Ops.{is_null, is_true, unary, binary, from_truth}
use Rattle.sqlite_sql.specs.Term.{Term, Env, lit, col, op1, op2, holds, eval_all}
use Rattle.sqlite_sql.specs.declared.ops.UnaryOp.TheVariants.{Not}
use Rattle.sqlite_sql.specs.declared.ops.BinaryOp.TheVariants.{Compare, Or}
use Rattle.sqlite_sql.specs.declared.ops.CompareOp.TheVariants.{Eq, Ne, Gt, Ge}
use Rattle.sqlite_sql.specs.Query.{Query, Join, inner, end, counted, Output, output, matches, IsAnswer}
use Rattle.sqlite_sql.specs.Program.{overlay}
use Rattle.sqlite_schema.specs.declared.schema.Kind.TheVariants.{Integer}
use Rattle.sqlite_rules.specs.Cast.{cast, cast_row}
use Rattle.sqlite_trees.specs.Tree.{Trees, rowid}
use Rattle.std.proofs.lemmas.List.Elements.{recursion_from_All, All-from_recursion}
use Rattle.sqlite_keyed.proofs.ListLemmas.{filter-map, filter_same, map-map, all_map}
use Rattle.sql_schema.specs.Tables.{third_table, fourth_table}
use Rattle.sql_tables.specs.Words.{cells, columns_of}
use Rattle.sql_tables.specs.Derived.{IsCells, is_later, is_other, is_newer, same, above, flag, current_of, current_columns, last_of, vectors_of, vector_columns}
use Rattle.sql_tables.proofs.WriteLemmas.{cast_int}

-- ---- what a query answers that counts in its rows

abbrev pub asking : Join → List Term → List Term → List Collation → Query
asking from filter project by = record {
  from = from;
  filter = filter;
  group = None;
  project = project;
  distinct = false;
  collations = by;
  order = [];
  limit = lit (Int (negsuc 0));
  offset = lit (Int (pos 0));
}

pub picked : {A B C : Type 0} (f : B → C) (g : A → B) (p : A → Bool) (xs : List A)
    → map f (flat_map (λ r. cond (p r) (g r ∷ []) []) xs) ≡ map (λ r. f (g r)) (filter p xs)
picked f g p [] = refl
picked {A} {B} {C} f g p (x ∷ xs) = go (p x) (picked f g p xs)
  where
    go : (b : Bool) → map f (flat_map (λ r. cond (p r) (g r ∷ []) []) xs)
        ≡ map (λ r. f (g r)) (filter p xs)
        → map f (cond b (g x ∷ []) [] ++ flat_map (λ r. cond (p r) (g r ∷ []) []) xs)
        ≡ map (λ r. f (g r)) (cond b (x ∷ filter p xs) (filter p xs))
    go true more = ap (λ l. f (g x) ∷ l) more
    go false more = more

module _ (from : Join) (tests project : List Term) (by : List Collation) (params : Row) (db : Trees)
    (es : List Row) (keep : Row → Bool) (env : Row → Env)
    (matched : matches db tests from (params ∷ [])
    ≡ flat_map (λ r. cond (keep r) (env r ∷ []) []) es) where
  -- it answers a row for each that passes
  pub asked_all : (rows : List Row) → IsAnswer (asking from tests project by) db params rows
      → IsPermutation (map (λ r. eval_all project (env r)) (filter keep es)) rows
  asked_all rows a =
      let q = asking from tests project by in
      let kept : a.kept ≡ map (λ r. output q (env r)) (filter keep es) =
      a.distinct ∙ ap (map (output q)) (a.grouped ∙ matched) ∙ picked (output q) env keep es in
      let front = λ (o : Output). o.1 in
      let same : IsPermutation (map front a.kept) (map front a.ordered) =
      IsPermutation-map front a.kept a.ordered a.same in
      let shown : rows ≡ map front a.ordered = a.shown in
      subst (IsPermutation (map (λ r. eval_all project (env r)) (filter keep es))) (sym shown)
      (subst (λ xs. IsPermutation xs (map front a.ordered))
      (ap (map front) kept ∙ map-map front (λ r. output q (env r)) (filter keep es)) same)

-- a count up to 1 says whether there is one
pub counted_is : {A B : Type 0} (p : A → Bool) (g : A → B) (xs : List A)
    → min 1 (length (flat_map (λ s. cond (p s) (g s ∷ []) []) xs)) ≡ cond (list_any p xs) 1 0
counted_is p g [] = refl
counted_is {A} {B} p g (x ∷ xs) = go (p x) (counted_is p g xs)
  where
    go : (b : Bool) → min 1 (length (flat_map (λ s. cond (p s) (g s ∷ []) []) xs))
        ≡ cond (list_any p xs) 1 0
        → min 1 (length (cond b (g x ∷ []) [] ++ flat_map (λ s. cond (p s) (g s ∷ []) []) xs))
        ≡ cond (b || list_any p xs) 1 0
    go true more = omega arith
    go false more = more

pub any_alike : {A : Type 0} (p q : A → Bool) → ((x : A) → p x ≡ q x) → (xs : List A)
    → list_any p xs ≡ list_any q xs
any_alike p q same [] = refl
any_alike p q same (x ∷ xs) = ap₂ ◌||◌ (same x) (any_alike p q same xs)

pub any_mapped : {A B : Type 0} (p : B → Bool) (f : A → B) (xs : List A)
    → list_any p (map f xs) ≡ list_any (λ x. p (f x)) xs
any_mapped p f [] = refl
any_mapped p f (x ∷ xs) = ap (λ b. p (f x) || b) (any_mapped p f xs)

-- whether a row is there, as a count in an answer has it
pub exists_is : {B : Type 0} (test : Row → Bool) (g : Row → B) (p : Row → Bool)
    → ((s : Row) → test s ≡ p (columns_of s)) → (es : List Row)
    → min 1 (length (flat_map (λ s. cond (test s) (g s ∷ []) []) es))
    ≡ cond (list_any p (cells es)) 1 0
exists_is test g p same es = counted_is test g es
    ∙ ap (λ b. cond b 1 0) (any_alike test (λ s. p (columns_of s)) same es
    ∙ sym (any_mapped p columns_of es))

pub not_flag : (b : Bool) → is_true (unary Not (flag b)) ≡ not b
unfolding unary
not_flag true = refl
not_flag false = refl

abbrev pub eq : Term → Term → Term
eq a b = op2 (Compare Eq Binary) a b

-- the terms of the tests on another row of records2, in this place of FROM
abbrev pub later_tests : ℕ → List Term
later_tests at =
    eq (col at 4) (col 1 4) ∷ eq (col at 5) (col 1 5) ∷ eq (col at 6) (col 1 6)
    ∷ op2 (Compare Ge Binary) (col at 3) (col 1 3)
    ∷ op2 Or (op2 (Compare Gt Binary) (col at 3) (col 1 3))
    (op2 (Compare Gt Binary) (col at 1) (col 1 1)) ∷ []

abbrev pub other_tests : ℕ → List Term
other_tests at = eq (col at 4) (col 1 4) ∷ eq (col at 5) (col 1 5) ∷ eq (col at 6) (col 1 6)
    ∷ op2 Or (op2 (Compare Ne Binary) (col at 3) (col 1 3))
    (op2 (Compare Ne Binary) (col at 1) (col 1 1)) ∷ []

abbrev pub newer_tests : ℕ → List Term
newer_tests at = eq (col at 1) (col 1 1) ∷ op2 (Compare Gt Binary) (col at 2) (col 1 2) ∷ []

pub one_true : (a : Bool) → (a && true) ≡ a
one_true true = refl
one_true false = refl

pub two_true : (a b : Bool) → (a && (b && true)) ≡ (a && b)
two_true a b = ap (λ x. a && x) (one_true b)

pub four_true : (a b c d : Bool) → (a && (b && (c && (d && true)))) ≡ (a && (b && (c && d)))
four_true a b c d = ap (λ x. a && (b && (c && x))) (one_true d)

pub five_true : (a b c d e : Bool)
    → (a && (b && (c && (d && (e && true))))) ≡ (a && (b && (c && (d && e))))
five_true a b c d e = ap (λ x. a && (b && (c && (d && x)))) (one_true e)

pub regrouped : (a b c d e : Bool)
    → (a && (b && (c && (d && (e && true))))) ≡ ((a && (b && c)) && (d && e))
regrouped true true true d e = ap (λ x. d && x) (one_true e)
regrouped true true false d e = refl
regrouped true false c d e = refl
regrouped false b c d e = refl

pub cast_same : (v : Value) (n : ℤ) → v ≡ Int n → cast Integer v ≡ v
cast_same v n e = ap (cast Integer) e ∙ cast_int n ∙ sym e

-- ---- rows of currents2

-- whether a row is later, as the terms say it
pub later_alike : (r s : Row) → (same (column s 4) (column r 4)
    && (same (column s 5) (column r 5) && (same (column s 6) (column r 6)
    && (is_true (binary (Compare Ge Binary) (column s 3) (column r 3))
    && (is_true (binary Or (binary (Compare Gt Binary) (column s 3) (column r 3))
    (binary (Compare Gt Binary) (column s 1) (column r 1))) && true)))))
    ≡ is_later (columns_of r) (columns_of s)
later_alike r s =
    five_true (same (column s 4) (column r 4)) (same (column s 5) (column r 5))
    (same (column s 6) (column r 6)) (is_true
    (binary (Compare Ge Binary) (column s 3) (column r 3)))
    (is_true (binary Or (binary (Compare Gt Binary) (column s 3) (column r 3))
    (binary (Compare Gt Binary) (column s 1) (column r 1))))

pub other_alike : (r s : Row) → (same (column s 4) (column r 4)
    && (same (column s 5) (column r 5) && (same (column s 6) (column r 6)
    && (is_true (binary Or (binary (Compare Ne Binary) (column s 3) (column r 3))
    (binary (Compare Ne Binary) (column s 1) (column r 1))) && true))))
    ≡ is_other (columns_of r) (columns_of s)
other_alike r s =
    four_true (same (column s 4) (column r 4)) (same (column s 5) (column r 5))
    (same (column s 6) (column r 6)) (is_true
    (binary Or (binary (Compare Ne Binary) (column s 3) (column r 3))
    (binary (Compare Ne Binary) (column s 1) (column r 1))))

abbrev pub currents_from : Join
currents_from = inner 1 (counted 1 (inner 1 end) (other_tests 2)
    (counted 1 (inner 1 end) (later_tests 3) end))

abbrev pub currents_project : List Term
currents_project = lit Null ∷ col 1 4 ∷ col 1 5 ∷ col 1 6 ∷ col 1 3 ∷ col 1 1
    ∷ op2 (Compare Ne Binary) (col 1 7) (lit (Int (pos 4))) ∷ col 2 0 ∷ col 1 9 ∷ []

module _ (params : Row) (db : Trees) where
  abbrev pub others : Row → Value
  others r = Int (pos (min 1
      (length (flat_map (λ s. cond (list_all (holds (params ∷ r ∷ s ∷ [])) (other_tests 2))
      ((params ∷ r ∷ s ∷ []) ∷ []) []) (db 1)))))

  abbrev pub laters : Row → Value
  laters r = Int (pos (min 1
      (length (flat_map (λ s. cond
      (list_all (holds (params ∷ r ∷ (others r ∷ []) ∷ s ∷ [])) (later_tests 3))
      ((params ∷ r ∷ (others r ∷ []) ∷ s ∷ []) ∷ []) []) (db 1)))))

  abbrev pub current_env : Row → Env
  current_env r = params ∷ r ∷ (others r ∷ []) ∷ (laters r ∷ []) ∷ []

  pub others_are : (r : Row) → others r ≡ flag (list_any (is_other (columns_of r)) (cells (db 1)))
  others_are r = ap (λ n. Int (pos n)) (exists_is
      (λ s. list_all (holds (params ∷ r ∷ s ∷ [])) (other_tests 2)) (λ s. params ∷ r ∷ s ∷ [])
      (is_other (columns_of r)) (λ s.
      four_true (same (column s 4) (column r 4)) (same (column s 5) (column r 5))
      (same (column s 6) (column r 6)) (is_true
      (binary Or (binary (Compare Ne Binary) (column s 3) (column r 3))
      (binary (Compare Ne Binary) (column s 1) (column r 1))))) (db 1))

  pub none_later : (r : Row) → is_true (unary Not (laters r))
      ≡ not (list_any (is_later (columns_of r)) (cells (db 1)))
  none_later r = ap (λ n. is_true (unary Not (Int (pos n))))
      (exists_is (λ s. list_all (holds (params ∷ r ∷ (others r ∷ []) ∷ s ∷ [])) (later_tests 3))
      (λ s. params ∷ r ∷ (others r ∷ []) ∷ s ∷ []) (is_later (columns_of r))
      (λ s. five_true (same (column s 4) (column r 4)) (same (column s 5) (column r 5))
      (same (column s 6) (column r 6)) (is_true
      (binary (Compare Ge Binary) (column s 3) (column r 3)))
      (is_true (binary Or (binary (Compare Gt Binary) (column s 3) (column r 3))
      (binary (Compare Gt Binary) (column s 1) (column r 1))))) (db 1))
      ∙ not_flag (list_any (is_later (columns_of r)) (cells (db 1)))

  abbrev pub current_source : Row → Row
  current_source r = eval_all currents_project (current_env r)

  pub cast_live : (v : Value) (n : ℤ) → v ≡ Int n
      → cast Integer (binary (Compare Ne Binary) v (Int (pos 4)))
      ≡ binary (Compare Ne Binary) v (Int (pos 4))
  unfolding binary
  cast_live v n e = rw e (one _)
    where
      one : (b : Bool) → cast Integer (from_truth (Some b)) ≡ from_truth (Some b)
      one true = cast_int (pos 1)
      one false = cast_int (pos 0)

  -- the row as it is written
  pub current_written : (r : Row) → IsCells (columns_of r)
      → current_columns (cast_row third_table (drop 0 (current_source r)))
      ≡ current_of (cells (db 1)) (columns_of r)
  current_written r c =
      as_row (cast_same (column r 5) c.time (ap (λ x. column x 4) c.is))
      (cast_same (column r 6) c.pico (ap (λ x. column x 5) c.is))
      (cast_same (column r 3) c.tick (ap (λ x. column x 2) c.is))
      (cast_same (column r 1) c.origin (ap (λ x. column x 0) c.is))
      (cast_live (column r 7) c.asked (ap (λ x. column x 6) c.is))
      (cast_int (pos (min 1 (length
      (flat_map (λ s. cond (list_all (holds (params ∷ r ∷ s ∷ [])) (other_tests 2))
      ((params ∷ r ∷ s ∷ []) ∷ []) []) (db 1))))) ∙ others_are r)
    where
      as_row : {a b c d e f a2 b2 c2 d2 e2 f2 : Value} → a ≡ a2 → b ≡ b2 → c ≡ c2 → d ≡ d2 → e ≡ e2
          → f ≡ f2
          → ◌≡◌ {A = Row} (column r 4 ∷ a ∷ b ∷ c ∷ d ∷ e ∷ f ∷ column r 9 ∷ [])
          (column r 4 ∷ a2 ∷ b2 ∷ c2 ∷ d2 ∷ e2 ∷ f2 ∷ column r 9 ∷ [])
      as_row p q s t u v = ap₂ (λ x l. column r 4 ∷ x ∷ l) p
          (ap₂ ◌∷◌ q (ap₂ ◌∷◌ s (ap₂ ◌∷◌ t (ap₂ ◌∷◌ u (ap (λ x. x ∷ column r 9 ∷ []) v)))))

  currents_written : (rs : List Row) → AllByRecursion IsCells (map columns_of rs)
      → map (λ r. current_columns (cast_row third_table (drop 0 (current_source r)))) rs
      ≡ map (current_of (cells (db 1))) (map columns_of rs)
  currents_written [] all = refl
  currents_written (r ∷ rs) all = ap₂ ◌∷◌ (current_written r all.0) (currents_written rs all.1)

  abbrev keeping : List Term → Row → Bool
  keeping tests r = list_all (holds (current_env r)) tests

  matched : (tests : List Term) → matches (overlay db []) tests currents_from (params ∷ [])
      ≡ flat_map (λ r. cond (keeping tests r) (current_env r ∷ []) []) (db 1)
  matched tests = refl

  -- the rows that are put into currents2, where their tests are these
  pub currents_put : (tests : List Term) (q : Row → Bool)
      → ((r : Row) → keeping tests r
      ≡ (q (columns_of r) && not (list_any (is_later (columns_of r)) (cells (db 1)))))
      → AllByRecursion IsCells (cells (db 1))
      → (by : List Collation) (rows : List Row)
      → IsAnswer (asking currents_from tests currents_project by) (overlay db []) params rows
      → IsPermutation (map (current_of (cells (db 1)))
      (filter (λ c. q c && not (list_any (is_later c) (cells (db 1)))) (cells (db 1))))
      (map current_columns (map (λ s. cast_row third_table (drop 0 s)) rows))
  currents_put tests q same typed by rows a =
      let keep = λ (r : Row). q (columns_of r)
      && not (list_any (is_later (columns_of r)) (cells (db 1))) in
      let asked : IsPermutation (map current_source (filter (keeping tests) (db 1))) rows =
      asked_all currents_from tests currents_project by params (overlay db []) (db 1)
      (keeping tests) current_env (matched tests) rows a in
      let write = λ (s : Row). current_columns (cast_row third_table (drop 0 s)) in
      let kept : filter (keeping tests) (db 1) ≡ filter keep (db 1) =
      filter_same (keeping tests) keep same (db 1) in
      let wrote : map write (map current_source (filter (keeping tests) (db 1)))
      ≡ map (current_of (cells (db 1))) (filter
      (λ c. q c && not (list_any (is_later c) (cells (db 1)))) (cells (db 1))) =
      ap (λ l. map write (map current_source l)) kept
      ∙ map-map write current_source (filter keep (db 1))
      ∙ currents_written (filter keep (db 1)) (kept_typed keep (db 1) typed)
      ∙ ap (map (current_of (cells (db 1)))) (sym
      (filter-map (λ c. q c && not (list_any (is_later c) (cells (db 1)))) columns_of (db 1)))
      in
      subst₂ IsPermutation wrote (sym
      (map-map current_columns (λ s. cast_row third_table (drop 0 s)) rows))
      (IsPermutation-map write _ _ asked)
    where
      kept_typed : (keep : Row → Bool) (rs : List Row) → AllByRecursion IsCells (map columns_of rs)
          → AllByRecursion IsCells (map columns_of (filter keep rs))
      kept_typed keep [] all = tt
      kept_typed keep (r ∷ rs) all = go (keep r) (kept_typed keep rs all.1)
        where
          go : (b : Bool) → AllByRecursion IsCells (map columns_of (filter keep rs))
              → AllByRecursion IsCells (map columns_of
              (cond b (r ∷ filter keep rs) (filter keep rs)))
          go true more = (all.0, more)
          go false more = more

-- ---- rows of vectors

abbrev pub vectors_from : Join
vectors_from = inner 1 (counted 1 (inner 1 end) (newer_tests 2) end)

abbrev pub vectors_project : List Term
vectors_project = col 1 1 ∷ lit Null ∷ col 1 2 ∷ col 1 3 ∷ []

abbrev pub as_vector : Row → Row
as_vector s = cast_row fourth_table (drop 0 s)

module _ (params : Row) (db : Trees) where
  abbrev newers : Row → Value
  newers r = Int (pos (min 1
      (length (flat_map (λ s. cond (list_all (holds (params ∷ r ∷ s ∷ [])) (newer_tests 2))
      ((params ∷ r ∷ s ∷ []) ∷ []) []) (db 1)))))

  abbrev vector_env : Row → Env
  vector_env r = params ∷ r ∷ (newers r ∷ []) ∷ []

  none_newer : (r : Row) → is_true (unary Not (newers r))
      ≡ not (list_any (is_newer (columns_of r)) (cells (db 1)))
  none_newer r = ap (λ n. is_true (unary Not (Int (pos n))))
      (exists_is (λ s. list_all (holds (params ∷ r ∷ s ∷ [])) (newer_tests 2))
      (λ s. params ∷ r ∷ s ∷ []) (is_newer (columns_of r))
      (λ s. two_true (same (column s 1) (column r 1)) (above (column s 2) (column r 2))) (db 1))
      ∙ not_flag (list_any (is_newer (columns_of r)) (cells (db 1)))

  abbrev vector_source : Row → Row
  vector_source r = eval_all vectors_project (vector_env r)

  vector_written : (r : Row) → IsCells (columns_of r)
      → vector_columns (as_vector (vector_source r)) ≡ last_of (columns_of r)
  vector_written r c =
      ap₂ ◌∷◌ (cast_same (column r 1) c.origin (ap (λ x. column x 0) c.is))
      (ap₂ ◌∷◌ (cast_same (column r 2) c.number (ap (λ x. column x 1) c.is))
      (ap (λ x. x ∷ []) (cast_same (column r 3) c.tick (ap (λ x. column x 2) c.is))))

  vector_numbered : (r : Row) → IsCells (columns_of r)
      → is_null (rowid (as_vector (vector_source r))) ≡ false
  vector_numbered r c = ap (λ v. is_null (cast Integer v)) (ap (λ x. column x 0) c.is)
      ∙ ap is_null (cast_int c.origin)

  vectors_written : (rs : List Row) → AllByRecursion IsCells (map columns_of rs)
      → (map (λ r. vector_columns (as_vector (vector_source r))) rs
      ≡ map last_of (map columns_of rs))
      × AllByRecursion (λ s. is_null (rowid (as_vector s)) ≡ false) (map vector_source rs)
  vectors_written [] all = (refl, tt)
  vectors_written (r ∷ rs) all = let more = vectors_written rs all.1 in
      (ap₂ ◌∷◌ (vector_written r all.0) more.0, (vector_numbered r all.0, more.1))

  abbrev last_here : Row → Bool
  last_here r = list_all (holds (vector_env r)) (op1 Not (col 2 0) ∷ [])

  vectors_matched : matches (overlay db []) (op1 Not (col 2 0) ∷ []) vectors_from (params ∷ [])
      ≡ flat_map (λ r. cond (last_here r) (vector_env r ∷ []) []) (db 1)
  vectors_matched = refl

  -- the rows that are put into vectors
  pub vectors_put : AllByRecursion IsCells (cells (db 1)) → (by : List Collation) (rows : List Row)
      → IsAnswer (asking vectors_from (op1 Not (col 2 0) ∷ []) vectors_project by)
      (overlay db []) params rows
      → AllByRecursion (λ r. is_null (rowid r) ≡ false) (map as_vector rows)
      × IsPermutation (vectors_of (cells (db 1))) (map vector_columns (map as_vector rows))
  vectors_put typed by rows a =
      let keep = λ (r : Row). not (list_any (is_newer (columns_of r)) (cells (db 1))) in
      let asked : IsPermutation (map vector_source (filter last_here (db 1))) rows =
      asked_all vectors_from (op1 Not (col 2 0) ∷ []) vectors_project by params (overlay db [])
      (db 1) last_here vector_env vectors_matched rows a in
      let kept : filter last_here (db 1) ≡ filter keep (db 1) =
      filter_same last_here keep (λ r. one_true (is_true (unary Not (newers r))) ∙ none_newer r)
      (db 1) in
      let wrote = vectors_written (filter keep (db 1)) (kept_cells keep (db 1) typed) in
      let write = λ (s : Row). vector_columns (as_vector s) in
      let rows_are : map write (map vector_source (filter last_here (db 1)))
      ≡ vectors_of (cells (db 1)) =
      ap (λ l. map write (map vector_source l)) kept
      ∙ map-map write vector_source (filter keep (db 1)) ∙ wrote.0
      ∙ ap (map last_of) (sym
      (filter-map (λ c. not (list_any (is_newer c) (cells (db 1)))) columns_of (db 1))) in
      let ids : AllByRecursion (λ s. is_null (rowid (as_vector s)) ≡ false) rows =
      recursion_from_All (λ s. is_null (rowid (as_vector s)) ≡ false) rows
      (All-permutation (λ s. is_null (rowid (as_vector s)) ≡ false)
      (map vector_source (filter last_here (db 1))) rows asked
      (All-from_recursion (λ s. is_null (rowid (as_vector s)) ≡ false)
      (map vector_source (filter last_here (db 1)))
      (subst (λ l. AllByRecursion (λ s. is_null (rowid (as_vector s)) ≡ false)
      (map vector_source l)) (sym kept) wrote.1))) in (
        all_map (λ r. is_null (rowid r) ≡ false) as_vector rows ids,
        subst₂ IsPermutation rows_are (sym (map-map vector_columns as_vector rows))
            (IsPermutation-map write _ _ asked),
      )
    where
      kept_cells : (keep : Row → Bool) (rs : List Row) → AllByRecursion IsCells (map columns_of rs)
          → AllByRecursion IsCells (map columns_of (filter keep rs))
      kept_cells keep [] all = tt
      kept_cells keep (r ∷ rs) all = go (keep r) (kept_cells keep rs all.1)
        where
          go : (b : Bool) → AllByRecursion IsCells (map columns_of (filter keep rs))
              → AllByRecursion IsCells (map columns_of
              (cond b (r ∷ filter keep rs) (filter keep rs)))
          go true more = (all.0, more)
          go false more = more
