-- What the statements of a record's transaction do.
use Rattle.std.proofs.Common.{◌≡◌, ◌≤◌, arith, ℕ, ℤ, pos, not, ◌&&◌, Bool, true, false, List, [], ◌∷◌, ◌++◌, drop, length, map, filter, unwrap_or, Ok, Err, Result, OnOk, IfOk, refl, sym, ap, ap₂, subst, subst₂, ◌∙◌, IsPermutation}
use Rattle.std.specs.List.{list_all, AllByRecursion}
use Rattle.std.proofs.lemmas.List.{map-append, length-map}
use Rattle.std.proofs.lemmas.List.Sorted.{length_permutation, IsPermutation-trans, IsPermutation-map, IsPermutation-append, IsPermutation-refl}
use Rattle.sqlite_value.specs.declared.value.Value.{Value}
use Rattle.sqlite_value.specs.declared.value.Value.TheVariants.{Null, Int, Real, Text, Blob}
use Rattle.sqlite_value.specs.declared.keys.Collation.{Collation}
use Rattle.sqlite_value.specs.declared.keys.Collation.TheVariants.{Binary}
use Rattle.sqlite_value.specs.Order.{Row, column, value_cmp}
use Rattle.sqlite_value.proofs.OrderLemmas.{value_cmp_total}
use Rattle.std.specs.Ordering.{is_eq}
use Rattle.std.proofs.lemmas.Bool.{false≢true}
use Rattle.std.proofs.lemmas.Cmp.{tied_itself}
use Rattle.sqlite_sql.specs.Ops.{is_null, is_true, unary}
use Rattle.sqlite_sql.specs.Term.{Term, lit, col, op1, op2, holds, eval_all}
use Rattle.sqlite_sql.specs.declared.ops.UnaryOp.TheVariants.{Not}
use Rattle.sqlite_sql.specs.declared.ops.BinaryOp.TheVariants.{Compare}
use Rattle.sqlite_sql.specs.declared.ops.CompareOp.TheVariants.{Ne}
use Rattle.sqlite_sql.specs.Query.{inner, end, IsAnswer}
use Rattle.sqlite_sql.specs.Program.{overlay}
use Rattle.sqlite_schema.specs.declared.program.Program.{Program}
use Rattle.sqlite_schema.specs.declared.command.Source.{Source}
use Rattle.sqlite_schema.specs.declared.command.Source.TheVariants.{Values, Query as Asks}
use Rattle.sqlite_schema.specs.declared.command.Command.TheVariants.{Insert, Update}
use Rattle.sqlite_schema.specs.declared.schema.Kind.TheVariants.{Integer}
use Rattle.sqlite_rules.specs.declared.error.Rowids.TheVariants.{Chosen, Given}
use Rattle.sqlite_rules.specs.Cast.{cast, cast_row}
use Rattle.sqlite_rules.specs.Calls.{ids_of}
use Rattle.sqlite_rules.specs.Edit.{numbered, put_all, are_fresh, have_rowids, without_all, id_in}
use Rattle.sqlite_trees.specs.Tree.{Trees, IsAscending, rowid, with_tree}
use Rattle.sqlite_trees.specs.View.{is_int}
use Rattle.sqlite_trees.specs.Objects.{catalog_tree}
use Rattle.sqlite_catalog.specs.Listing.{Lists}
use Rattle.sqlite_keyed.proofs.ListLemmas.{ascending-filter, all-filter, all_both, filter_same, filter_all, all_weaker, all_unmap, map_same, map-map}
use Rattle.sqlite_tied.specs.Compute.{everything}
use Rattle.sqlite.specs.Listing.{understood}
use Rattle.sqlite.specs.Does.{Tally}
use Rattle.sqlite.specs.Effect.{Database}
use Rattle.sqlite.specs.State.{State, ExecutesInside}
use Rattle.sqlite.specs.declared.error.Error.{Error}
use Rattle.sqlite.proofs.Callers.{IsPlain, command_of, statement_of, runs_as}
use Rattle.sql_schema.specs.Tables.{archive_schema, ListsArchive, third_table, fourth_table}
use Rattle.sql_tables.specs.Words.{cells, cells_of}
use Rattle.sql_tables.specs.State.{Making, MakingArchive}
use Rattle.sql_tables.specs.Derived.{AreNumbered, IsCells, is_of, is_current_of, current_of, current_columns, same, vectors_of, vector_columns}
use Rattle.sql_tables.specs.Keeping.{KeepsBesideVectors, ChangesVectors, SetsVectors, KeepsBesideCurrents, PutsCurrents, ChangesCurrents, AddsRecord, HasNoRowAt, IsOnly, currents_where, is_vector_of, DropsVector, PutsVectors, vector_cells}
use Rattle.sql_tables.proofs.Texts.{first_current_text, fill_currents_text, add_vector_text, set_vector_text, fill_vectors_text}
use Rattle.sql_tables.proofs.WriteLemmas.{apart_by, cast_int}
use Rattle.sql_tables.proofs.RemoveLemmas.{ids_where, left_without, same_taken}
use Rattle.sql_tables.proofs.ChangeLemmas.{PutsIn, Sets, into_currents, into_vectors, set_vectors, put_in, put_beside, all_more, as_given, unnumbered, given}
use Rattle.sql_tables.proofs.DerivedLemmas.{first_made}
use Rattle.sql_tables.proofs.AgreeLemmas.{int_same, none_of, none_passes}
use Rattle.sql_tables.proofs.RaiseLemmas.{filter_true}
use Rattle.sql_tables.proofs.MadeLemmas.{asking, asked_all, cast_live, currents_from, currents_project, currents_put, none_later, laters, vectors_from, vectors_project, vectors_put, as_vector, eq, one_true}

-- ---- rows are taken out

-- what is left of a table without the rows that pass
pub removed : (t : ℕ) (tests project : List Term) (params : Row) (db : Trees) (keep : Row → Bool)
    → ((r : Row) → list_all (holds (params ∷ r ∷ [])) tests ≡ keep r)
    → ((r : Row) → rowid (eval_all project (params ∷ r ∷ [])) ≡ rowid r) → AreNumbered (db t)
    → (rows : List Row) → IsAnswer (asking (inner t end) tests project []) db params rows
    → without_all (db t) (ids_of rows) ≡ filter (λ r. not (keep r)) (db t)
removed t tests project params db keep alike own was rows a =
    let passes = λ (r : Row). list_all (holds (params ∷ r ∷ [])) tests in
    let made = λ (r : Row). eval_all project (params ∷ r ∷ []) in
    let asked : IsPermutation (map made (filter passes (db t))) rows =
    asked_all (inner t end) tests project [] params db (db t) passes
    (λ r. params ∷ r ∷ []) refl rows a in
    let same_ids : map (λ r. id_in (rowid r)) (map made (filter passes (db t)))
    ≡ ids_where passes (db t) =
    map-map (λ r. id_in (rowid r)) made (filter passes (db t))
    ∙ map_same (λ r. id_in (rowid (made r))) (λ r. id_in (rowid r)) (λ r. ap id_in (own r))
    (filter passes (db t)) in
    let ids : IsPermutation (ids_where passes (db t)) (ids_of rows) =
    subst (λ l. IsPermutation l (ids_of rows)) same_ids
    (IsPermutation-map (λ r. id_in (rowid r)) _ _ asked) in
    same_taken (ids_where passes (db t)) (ids_of rows) (db t) ids
    ∙ left_without passes (db t) was.apart was.keyed
    ∙ filter_same (λ r. not (passes r)) (λ r. not (keep r)) (λ r. ap not (alike r)) (db t)

pub three_true : (a b c : Bool) → (a && (b && (c && true))) ≡ (a && (b && c))
three_true a b c = ap (λ x. a && (b && x)) (one_true c)

abbrev vector_tests : List Term
vector_tests = eq (col 1 0) (col 0 0) ∷ []

-- ---- rows are put in

-- the rowids of rows of currents2 don't show
unnumbered_currents : (v : Value) (r : Row) → current_columns (v ∷ drop 1 r) ≡ current_columns r
unnumbered_currents v [] = refl
unnumbered_currents v (x ∷ r) = refl

abbrev nine : List Collation
nine = Binary ∷ Binary ∷ Binary ∷ Binary ∷ Binary ∷ Binary ∷ Binary ∷ Binary ∷ Binary ∷ []

abbrev fill_currents : Program
fill_currents = record {
  lets = [];
  body =
      asking currents_from (op1 Not (col 3 0) ∷ []) currents_project nine;
}

fill_currents_is : (indexed : Bool)
    → command_of (understood (archive_schema indexed) fill_currents_text)
    ≡ Insert 2 (Asks fill_currents)
unfolding understood everything
fill_currents_is indexed = refl

fill_currents_plain : (indexed : Bool)
    → IsPlain (understood (archive_schema indexed) fill_currents_text)
unfolding understood everything
fill_currents_plain indexed = (refl, refl)

-- what rows that were put into currents2 leave there
currents_more : (indexed : Bool) (q : Row → Bool) (program : Program) (params : Row) (db : Trees)
    (after : Database)
    → (AllByRecursion IsCells (cells (db 1)) → (rows : List Row)
    → IsAnswer program.body (overlay db []) params rows
    → IsPermutation (currents_where q (cells (db 1)))
    (map current_columns (map (λ s. cast_row third_table (drop 0 s)) rows)))
    → (it : PutsIn indexed third_table (Asks program) params db after)
    → IsAnswer program.body (overlay db []) params it.rows → PutsCurrents q db after.trees
currents_more indexed q program params db after means it answer =
    let put = put_in indexed third_table db after.trees it.rows it.applied in
    let made = map (λ s. cast_row third_table (drop 0 s)) it.rows in
    let others = it.applied.tables in record {
      rest = record {
        meta = others.0 (apart_by 0 4 refl);
        records =
            others.1.0 (apart_by 1 4 refl);
        vectors = others.1.1.1.0 (apart_by 6 4 refl);
      };
      more = λ typed.
          IsPermutation-trans (currents_where q (cells (db 1)) ++ map current_columns (db 4))
          (map current_columns made ++ map current_columns (db 4))
          (map current_columns (after.trees 4))
          (IsPermutation-append (currents_where q (cells (db 1))) (map current_columns made)
          (map current_columns (db 4)) (map current_columns (db 4)) (means typed it.rows answer)
          (IsPermutation-refl (map current_columns (db 4))))
          (subst (λ l. IsPermutation l (map current_columns (after.trees 4)))
          (map-append current_columns (numbered Chosen (db 4) made) (db 4)
          ∙ ap (λ l. l ++ map current_columns (db 4))
          (unnumbered current_columns unnumbered_currents (db 4) made))
          (IsPermutation-map current_columns _ _ put.0));
      numbered = put.1;
    }

abbrev first_terms : List Term
first_terms = lit Null ∷ col 0 0 ∷ col 0 1 ∷ col 0 2 ∷ col 0 3 ∷ col 0 4
    ∷ op2 (Compare Ne Binary) (col 0 5) (lit (Int (pos 4))) ∷ lit (Int (pos 0)) ∷ col 0 6 ∷ []

first_current_is : (indexed : Bool)
    → command_of (understood (archive_schema indexed) first_current_text)
    ≡ Insert 2 (Values first_terms 9)
unfolding understood everything
first_current_is indexed = refl

first_current_plain : (indexed : Bool)
    → IsPlain (understood (archive_schema indexed) first_current_text)
unfolding understood everything
first_current_plain indexed = (refl, refl)

-- the row of currents2 of a record that is the only one of its node and time is put in beside the
-- others
module _ (origin number tick : ℤ) (node : List ℕ) (time pico asked : ℤ) (who value : List ℕ) where
  abbrev first_row : Row
  first_row = cells_of origin number tick node time pico asked who value

  abbrev first_params : Row
  first_params = Blob node ∷ Int time ∷ Int pico ∷ Int tick ∷ Int origin ∷ Int asked ∷ Blob value
      ∷ []

  first_more : (indexed : Bool) (db : Trees) (after : Database)
      → PutsIn indexed third_table (Values first_terms 9) first_params db after
      → IsPermutation (current_of [] first_row ∷ map current_columns (db 4))
      (map current_columns (after.trees 4))
  first_more indexed db after it =
      let made = map (λ s. cast_row third_table (drop 0 s)) it.rows in
      let one : map current_columns made ≡ current_of [] first_row ∷ [] =
      ap (λ rs. map current_columns (map (λ s. cast_row third_table (drop 0 s)) rs)) it.are.1
      ∙ rw (
        cast_int time,
        cast_int pico,
        cast_int tick,
        cast_int origin,
        cast_int (pos 0),
        cast_live [] db (Int asked) asked refl,
      ) refl in
      subst (λ l. IsPermutation l (map current_columns (after.trees 4)))
      (map-append current_columns (numbered Chosen (db 4) made) (db 4)
      ∙ ap (λ l. l ++ map current_columns (db 4))
      (unnumbered current_columns unnumbered_currents (db 4) made ∙ one))
      (IsPermutation-map current_columns _ _
      (put_in indexed third_table db after.trees it.rows it.applied).0)

  first_changes : (indexed : Bool) (db : Trees) (after : Database)
      → IsOnly first_row node time pico db
      → PutsIn indexed third_table (Values first_terms 9) first_params db after
      → ChangesCurrents node time pico db after.trees
  first_changes indexed db after only it =
      let others = it.applied.tables in
      let rest : KeepsBesideCurrents db after.trees =
      record {
        meta = others.0 (apart_by 0 4 refl);
        records =
            others.1.0 (apart_by 1 4 refl);
        vectors = others.1.1.1.0 (apart_by 6 4 refl);
      } in
      let held = map current_columns (db 4) in
      let made = currents_where (is_of node time pico) (cells (db 1)) in
      record {
        between = db;
        dropped = record {
          rest = record { meta = refl; records = refl; vectors = refl };
          left = λ _. sym (filter_all (λ r. not (is_current_of node time pico (current_columns r)))
              (db 4)
              (all_weaker (λ r. is_current_of node time pico (current_columns r) ≡ false)
              (λ r. not (is_current_of node time pico (current_columns r)) ≡ true)
              (λ r off. ap not off) (db 4) (all_unmap
              (λ c. is_current_of node time pico c ≡ false) current_columns
              (db 4) only.currents)));
        };
        put = record {
          rest = rest;
          more = λ _.
              IsPermutation-trans (made ++ held) (current_of [] first_row ∷ held)
              (map current_columns (after.trees 4))
              (IsPermutation-append made (current_of [] first_row ∷ []) held held
              (first_made origin number tick node time pico asked who value only.others
              (cells (db 1)) only.records only.apart) (IsPermutation-refl held))
              (first_more indexed db after it);
          numbered = (put_in indexed third_table db after.trees it.rows it.applied).1;
        };
      }

  pub adds_first : (old new : State) (r : Result ℕ Error) → MakingArchive old
      → IsOnly first_row node time pico old.now.trees
      → ExecutesInside 0 first_current_text first_params old new r
      → OnOk r (MakingArchive new × (new.now.schema ≡ old.now.schema)
      × (new.committed ≡ old.committed)
      × ChangesCurrents node time pico old.now.trees new.now.trees)
  adds_first old new (Err e) was only h = tt
  adds_first old new (Ok count) was only h =
      let is = was.has in
      let w = runs_as first_current_text first_params old new (archive_schema is.0) is.1
      (Insert 2 (Values first_terms 9)) (first_current_is is.0)
      (first_current_plain is.0) count h.0 in
      let it = into_currents old w.tally new.now (statement_of first_current_text
      (understood (archive_schema is.0) first_current_text)) first_params is.0 is.1
      (Values first_terms 9) w.changed in (
        record { inside = h.1.mode; has = (is.0, it.schema) },
        it.schema ∙ sym is.1,
        h.1.committed_is,
        first_changes is.0 old.now.trees new.now only it,
      )

pub fills_currents : (old new : State) (r : Result ℕ Error) → Making (archive_schema false) old
    → ExecutesInside 0 fill_currents_text [] old new r
    → OnOk r (Making (archive_schema false) new × (new.committed ≡ old.committed)
    × PutsCurrents (λ _. true) old.now.trees new.now.trees)
fills_currents old new (Err e) was h = tt
fills_currents old new (Ok count) was h =
    let db = old.now.trees in
    let w = runs_as fill_currents_text [] old new (archive_schema false) was.has
    (Insert 2 (Asks fill_currents)) (fill_currents_is false)
    (fill_currents_plain false) count h.0 in
    let it = into_currents old w.tally new.now (statement_of fill_currents_text
    (understood (archive_schema false) fill_currents_text)) [] false was.has
    (Asks fill_currents) w.changed in (
      record { inside = h.1.mode; has = it.schema },
      h.1.committed_is,
      currents_more false (λ _. true) fill_currents [] db new.now
          (λ typed rows a. currents_put [] db (op1 Not (col 3 0) ∷ []) (λ _. true)
          (λ r. one_true (is_true (unary Not (laters [] db r))) ∙ none_later [] db r) typed nine
          rows a) it (it.are.answer Null),
    )

-- what rows that were put into vectors leave there
vectors_more : (indexed : Bool) (rows_of : List Row → List Row) (from : Source) (params : Row)
    (db : Trees) (after : Database) (it : PutsIn indexed fourth_table from params db after)
    → (AllByRecursion IsCells (cells (db 1))
    → IsPermutation (rows_of (cells (db 1))) (map vector_columns (map as_vector it.rows)))
    → (AllByRecursion IsCells (cells (db 1))
    → AllByRecursion (λ r. is_null (rowid r) ≡ false) (map as_vector it.rows))
    → PutsVectors rows_of db after.trees
vectors_more indexed rows_of from params db after it means ids =
    let put = put_in indexed fourth_table db after.trees it.rows it.applied in
    let made = map as_vector it.rows in
    let others = it.applied.tables in record {
      rest = record {
        meta = others.0 (apart_by 0 6 refl);
        records =
            others.1.0 (apart_by 1 6 refl);
        currents = others.1.1.0 (apart_by 4 6 refl);
      };
      more = λ typed.
          IsPermutation-trans (rows_of (cells (db 1)) ++ map vector_columns (db 6))
          (map vector_columns made ++ map vector_columns (db 6))
          (map vector_columns (after.trees 6))
          (IsPermutation-append (rows_of (cells (db 1))) (map vector_columns made)
          (map vector_columns (db 6)) (map vector_columns (db 6)) (means typed)
          (IsPermutation-refl (map vector_columns (db 6))))
          (subst (λ l. IsPermutation l (map vector_columns (after.trees 6)))
          (map-append vector_columns (numbered Chosen (db 6) made) (db 6)
          ∙ ap (λ l. map vector_columns l ++ map vector_columns (db 6))
          (given (db 6) made (ids typed))) (IsPermutation-map vector_columns _ _ put.0));
      numbered = put.1;
    }

abbrev vector_terms : List Term
vector_terms = col 0 0 ∷ lit Null ∷ col 0 1 ∷ col 0 2 ∷ []

add_vector_is : (indexed : Bool) → command_of (understood (archive_schema indexed) add_vector_text)
    ≡ Insert 3 (Values vector_terms 4)
unfolding understood everything
add_vector_is indexed = refl

add_vector_plain : (indexed : Bool) → IsPlain (understood (archive_schema indexed) add_vector_text)
unfolding understood everything
add_vector_plain indexed = (refl, refl)

pub adds_vector : (origin number tick : ℤ) (old new : State) (r : Result ℕ Error)
    → MakingArchive old → ExecutesInside 0 add_vector_text
    (Int origin ∷ Int number ∷ Int tick ∷ []) old new r
    → OnOk r (MakingArchive new × (new.now.schema ≡ old.now.schema)
    × (new.committed ≡ old.committed)
    × PutsVectors (λ _. vector_cells origin number tick ∷ []) old.now.trees new.now.trees
    × ListsArchive (new.now.trees catalog_tree))
adds_vector origin number tick old new (Err e) was h = tt
adds_vector origin number tick old new (Ok count) was h =
    let params = Int origin ∷ Int number ∷ Int tick ∷ [] in
    let is = was.has in
    let w = runs_as add_vector_text params old new (archive_schema is.0) is.1
    (Insert 3 (Values vector_terms 4)) (add_vector_is is.0) (add_vector_plain is.0) count h.0 in
    let it = into_vectors old w.tally new.now (statement_of add_vector_text
    (understood (archive_schema is.0) add_vector_text)) params is.0 is.1
    (Values vector_terms 4) w.changed in
    let one : map as_vector it.rows
    ≡ (Int origin ∷ cast Integer Null ∷ Int number ∷ Int tick ∷ []) ∷ [] =
    ap (map as_vector) it.are.1 ∙ rw (cast_int origin, cast_int number, cast_int tick) refl in (
      record { inside = h.1.mode; has = (is.0, it.schema) },
      it.schema ∙ sym is.1,
      h.1.committed_is,
      vectors_more is.0 (λ _. vector_cells origin number tick ∷ [])
          (Values vector_terms 4) params old.now.trees new.now it
          (λ typed. subst (λ l. IsPermutation (vector_cells origin number tick ∷ [])
          (map vector_columns l)) (sym one) (IsPermutation-refl
          (vector_cells origin number tick ∷ [])))
          (λ typed. subst (AllByRecursion (λ r. is_null (rowid r) ≡ false)) (sym one) (refl, tt)),
      (is.0, subst (Lists (new.now.trees catalog_tree)) it.schema w.sound.lists),
    )

abbrev set_terms : List Term
set_terms = col 1 0 ∷ col 0 0 ∷ lit Null ∷ col 0 1 ∷ col 0 2 ∷ []

abbrev set_vector : Program
set_vector = record { lets = []; body = asking (inner 6 end) vector_tests set_terms [] }

set_vector_is : (indexed : Bool) → command_of (understood (archive_schema indexed) set_vector_text)
    ≡ Update 3 set_vector
unfolding understood everything
set_vector_is indexed = refl

set_vector_plain : (indexed : Bool) → IsPlain (understood (archive_schema indexed) set_vector_text)
unfolding understood everything
set_vector_plain indexed = (refl, refl)

pub empty_by : {A : Type 0} (xs : List A) → length xs ≡ 0 → xs ≡ []
empty_by [] e = refl
empty_by (x ∷ xs) e = absurd (omega (arith, e))

pub single_by : {A B : Type 0} (b : B) (xs : List A) → length xs ≡ 1 → map (λ _. b) xs ≡ b ∷ []
single_by b [] e = absurd (omega (arith, e))
single_by b (x ∷ []) e = refl
single_by b (x ∷ y ∷ xs) e = absurd (omega (arith, e))

whole_same : (v : Value) (n : ℤ) → is_int v ≡ true → same v (Int n) ≡ true → v ≡ Int n
whole_same Null n kind e = absurd (let no = kind in cc)
whole_same (Int m) n kind e = int_same (Int m) n refl e
whole_same (Real x) n kind e = absurd (let no = kind in cc)
whole_same (Text t) n kind e = absurd (let no = kind in cc)
whole_same (Blob b) n kind e = absurd (let no = kind in cc)

-- of rows whose ids are apart at most one has this one
few_by : (n : ℤ) (rows : List Row)
    → IsAscending (λ a b. is_eq (value_cmp (rowid a) (rowid b)) ≡ false) rows
    → AllByRecursion (λ r. rowid r ≡ Int n) rows → length rows ≤ 1
few_by n [] up all = omega arith
few_by n (a ∷ []) up all = omega arith
few_by n (a ∷ b ∷ rows) up all =
    absurd (false≢true (sym up.0.0 ∙ ap₂ (λ x y. is_eq (value_cmp x y)) all.0 all.1.0
    ∙ ap is_eq (tied_itself value_cmp_total (Int n))))

-- what an UPDATE of an origin's row leaves, where there was none and where there was one
module _ (indexed : Bool) (origin number tick : ℤ) (db : Trees) (tally : Tally) (after : Database)
    (it : Sets indexed fourth_table set_vector (Int origin ∷ Int number ∷ Int tick ∷ []) db tally
    after)
  where
    abbrev set_params : Row
    set_params = Int origin ∷ Int number ∷ Int tick ∷ []

    abbrev set_row : Row
    set_row = vector_cells origin number tick

    abbrev is_ours : Row → Bool
    is_ours r = is_vector_of origin (vector_columns r)

    abbrev set_passes : Row → Bool
    set_passes r = list_all (holds (set_params ∷ r ∷ [])) vector_tests

    abbrev set_source : Row → Row
    set_source r = eval_all set_terms (set_params ∷ r ∷ [])

    abbrev set_made : List Row
    set_made = map (λ s. cast_row fourth_table (drop 1 s)) it.rows

    abbrev set_left : List Row
    set_left = without_all (db 6) (ids_of it.rows)

    ours_alike : (r : Row) → set_passes r ≡ is_ours r
    ours_alike r = one_true (same (column r 0) (Int origin))

    set_asked : IsPermutation (map set_source (filter set_passes (db 6))) it.rows
    set_asked = asked_all (inner 6 end) vector_tests set_terms [] set_params (overlay db [])
        (db 6) set_passes (λ r. set_params ∷ r ∷ []) refl it.rows (it.are.answer Null)

    set_rest : KeepsBesideVectors db after.trees
    set_rest = let others = it.applied.tables in
        record {
          meta = others.0 (apart_by 0 6 refl);
          records =
              others.1.0 (apart_by 1 6 refl);
          currents = others.1.1.0 (apart_by 4 6 refl);
        }

    set_news : numbered Given set_left set_made ≡ set_made
    set_news = as_given set_left set_made

    set_now : after.trees 6 ≡ put_all set_left set_made
    set_now = it.applied.rows ∙ ap (put_all set_left) set_news

    set_count : (count : ℕ) → count ≡ unwrap_or tally.rows 0 → count ≡ length it.rows
    set_count count e = e ∙ ap (λ o. unwrap_or o 0) it.counted ∙ ap length set_news
        ∙ length-map it.rows (λ s. cast_row fourth_table (drop 1 s))

    set_few : AreNumbered (db 6) → length it.rows ≤ 1
    set_few numbered =
        let ours = filter set_passes (db 6) in
        let many : length ours ≡ length it.rows =
        sym (length-map ours set_source)
        ∙ sym (length_permutation (map set_source ours) it.rows set_asked) in
        let few : length ours ≤ 1 = few_by origin ours
        (ascending-filter (λ a b. is_eq (value_cmp (rowid a) (rowid b)) ≡ false) set_passes (db 6)
        numbered.apart)
        (all_both (λ r. is_int (rowid r) ≡ true) (λ r. set_passes r ≡ true)
        (λ r. rowid r ≡ Int origin)
        (λ r kind e. whole_same (rowid r) origin kind (sym (ours_alike r) ∙ e)) ours
        (all-filter (λ r. is_int (rowid r) ≡ true) set_passes (db 6) numbered.keyed)
        (filter_true set_passes (db 6))) in
        omega (arith, many, few)

    set_none : length it.rows ≡ 0 → DropsVector origin db after.trees
    set_none e =
        let empty : it.rows ≡ [] = empty_by it.rows e in
        let off = none_passes set_passes (db 6) (none_of set_source (filter set_passes (db 6))
        (subst (IsPermutation (map set_source (filter set_passes (db 6)))) empty set_asked)) in
        let kept : filter (λ r. not (is_ours r)) (db 6) ≡ db 6 =
        filter_all (λ r. not (is_ours r)) (db 6)
        (all_weaker (λ r. set_passes r ≡ false) (λ r. not (is_ours r) ≡ true)
        (λ r no. ap not (sym (ours_alike r) ∙ no)) (db 6) off) in
        record {
          rest = set_rest;
          left =
              λ _. set_now ∙ ap (λ rs.
              put_all (without_all (db 6) (ids_of rs))
              (map (λ s. cast_row fourth_table (drop 1 s)) rs))
              empty ∙ sym kept;
        }

    set_written : (r : Row) → vector_columns (cast_row fourth_table (drop 1 (set_source r)))
        ≡ set_row
    set_written r = rw (cast_int origin, cast_int number, cast_int tick) refl

    set_one : length it.rows ≡ 1 → ListsArchive (after.trees catalog_tree)
        → ChangesVectors set_row origin db after.trees
    set_one e lists =
        let write = λ (s : Row). vector_columns (cast_row fourth_table (drop 1 s)) in
        let ours = filter set_passes (db 6) in
        let count : length ours ≡ 1 =
        sym (length-map ours set_source)
        ∙ (sym (length_permutation (map set_source ours) it.rows set_asked) ∙ e) in
        let one : map write (map set_source ours) ≡ set_row ∷ [] =
        map-map write set_source ours
        ∙ map_same (λ r. write (set_source r)) (λ _. set_row) set_written ours
        ∙ single_by set_row ours count in
        let made : IsPermutation (set_row ∷ []) (map vector_columns set_made) =
        subst₂ IsPermutation one (sym
        (map-map vector_columns (λ s. cast_row fourth_table (drop 1 s)) it.rows))
        (IsPermutation-map write _ _ set_asked) in
        let fresh : are_fresh set_left set_made ≡ true =
        subst (λ l. are_fresh set_left l ≡ true) set_news it.applied.fresh in
        let keyed : have_rowids set_made ≡ true =
        subst (λ l. have_rowids l ≡ true) set_news it.applied.keyed in
        let beside : IsPermutation (map vector_columns set_made ++ map vector_columns set_left)
        (map vector_columns (after.trees 6)) =
        subst₂ IsPermutation (map-append vector_columns set_made set_left)
        (ap (map vector_columns) (sym set_now)) (IsPermutation-map vector_columns _ _
        (put_beside set_left set_made fresh)) in
        record {
          between = with_tree db 6 set_left;
          dropped = record {
            rest = record { meta = refl; records = refl; currents = refl };
            left = λ was. removed 6 vector_tests set_terms set_params
                (overlay db []) is_ours ours_alike (λ r. refl) was it.rows (it.are.answer Null);
          };
          put = record {
            rest = record {
              meta = set_rest.meta;
              records = set_rest.records;
              currents =
                  set_rest.currents;
            };
            more = λ _.
                IsPermutation-trans (set_row ∷ map vector_columns set_left)
                (map vector_columns set_made ++ map vector_columns set_left)
                (map vector_columns (after.trees 6))
                (IsPermutation-append (set_row ∷ []) (map vector_columns set_made)
                (map vector_columns set_left) (map vector_columns set_left) made
                (IsPermutation-refl (map vector_columns set_left))) beside;
            numbered = λ was. subst AreNumbered (sym set_now)
                (all_more set_left set_made fresh keyed was);
          };
          lists = lists;
        }

pub sets_vector : (origin number tick : ℤ) (old new : State) (r : Result ℕ Error)
    → MakingArchive old → ExecutesInside 0 set_vector_text
    (Int origin ∷ Int number ∷ Int tick ∷ []) old new r
    → IfOk r (λ count. MakingArchive new × (new.now.schema ≡ old.now.schema)
    × (new.committed ≡ old.committed)
    × SetsVectors count (vector_cells origin number tick) origin old.now.trees new.now.trees)
sets_vector origin number tick old new (Err e) was h = tt
sets_vector origin number tick old new (Ok count) was h =
    let params = Int origin ∷ Int number ∷ Int tick ∷ [] in
    let is = was.has in
    let w = runs_as set_vector_text params old new (archive_schema is.0) is.1
    (Update 3 set_vector) (set_vector_is is.0) (set_vector_plain is.0) count h.0 in
    let it = set_vectors old w.tally new.now (statement_of set_vector_text
    (understood (archive_schema is.0) set_vector_text)) params is.0 is.1 set_vector w.changed in
    let as_many : count ≡ length it.rows =
    set_count is.0 origin number tick old.now.trees w.tally new.now it count w.counted in (
      record { inside = h.1.mode; has = (is.0, it.schema) },
      it.schema ∙ sym is.1,
      h.1.committed_is,
      record {
        none = λ e. set_none is.0 origin number tick old.now.trees w.tally new.now it
            (sym as_many ∙ e);
        one = λ e. set_one is.0 origin number tick old.now.trees w.tally new.now it
            (sym as_many ∙ e)
            (is.0, subst (Lists (new.now.trees catalog_tree)) it.schema w.sound.lists);
      },
    )

pub sets_one : (origin number tick : ℤ) (old new : State) (r : Result ℕ Error)
    → MakingArchive old → ExecutesInside 0 set_vector_text
    (Int origin ∷ Int number ∷ Int tick ∷ []) old new r
    → IfOk r (λ count. AreNumbered (old.now.trees 6) → count ≤ 1)
sets_one origin number tick old new (Err e) was h = tt
sets_one origin number tick old new (Ok count) was h = λ numbered.
    let params = Int origin ∷ Int number ∷ Int tick ∷ [] in
    let is = was.has in
    let w = runs_as set_vector_text params old new (archive_schema is.0) is.1
    (Update 3 set_vector) (set_vector_is is.0) (set_vector_plain is.0) count h.0 in
    let it = set_vectors old w.tally new.now (statement_of set_vector_text
    (understood (archive_schema is.0) set_vector_text)) params is.0 is.1 set_vector w.changed in
    let as_many : count ≡ length it.rows =
    set_count is.0 origin number tick old.now.trees w.tally new.now it count w.counted in
    let few : length it.rows ≤ 1 =
    set_few is.0 origin number tick old.now.trees w.tally new.now it numbered in
    omega (arith, as_many, few)

abbrev four : List Collation
four = Binary ∷ Binary ∷ Binary ∷ Binary ∷ []

abbrev fill_vectors : Program
fill_vectors = record {
  lets = [];
  body =
      asking vectors_from (op1 Not (col 2 0) ∷ []) vectors_project four;
}

fill_vectors_is : (indexed : Bool)
    → command_of (understood (archive_schema indexed) fill_vectors_text)
    ≡ Insert 3 (Asks fill_vectors)
unfolding understood everything
fill_vectors_is indexed = refl

fill_vectors_plain : (indexed : Bool)
    → IsPlain (understood (archive_schema indexed) fill_vectors_text)
unfolding understood everything
fill_vectors_plain indexed = (refl, refl)

pub fills_vectors : (old new : State) (r : Result ℕ Error) → Making (archive_schema false) old
    → ExecutesInside 0 fill_vectors_text [] old new r
    → OnOk r (Making (archive_schema false) new × (new.committed ≡ old.committed)
    × PutsVectors vectors_of old.now.trees new.now.trees
    × Lists (new.now.trees catalog_tree) (archive_schema false))
fills_vectors old new (Err e) was h = tt
fills_vectors old new (Ok count) was h =
    let w = runs_as fill_vectors_text [] old new (archive_schema false) was.has
    (Insert 3 (Asks fill_vectors)) (fill_vectors_is false) (fill_vectors_plain false) count h.0 in
    let it = into_vectors old w.tally new.now (statement_of fill_vectors_text
    (understood (archive_schema false) fill_vectors_text)) [] false was.has
    (Asks fill_vectors) w.changed in (
      record { inside = h.1.mode; has = it.schema },
      h.1.committed_is,
      vectors_more false vectors_of (Asks fill_vectors) [] old.now.trees new.now it
          (λ typed. (vectors_put [] old.now.trees typed four it.rows (it.are.answer Null)).1)
          (λ typed. (vectors_put [] old.now.trees typed four it.rows (it.are.answer Null)).0),
      subst (Lists (new.now.trees catalog_tree)) it.schema w.sound.lists,
    )

-- where nothing stood at the node and time of a row, it is the only one there once it is added
pub only_by : (row : Row) (node : List ℕ) (time pico : ℤ) (old added : Trees)
    → AddsRecord row old added → HasNoRowAt node time pico old → IsOnly row node time pico added
only_by row node time pico old added adds free = record {
  others = cells (old 1);
  records = adds.records;
  apart = free.records;
  currents = subst (λ rs. AllByRecursion (λ c. is_current_of node time pico c ≡ false)
      (map current_columns rs)) (sym adds.currents) free.currents;
}
