-- What the writes of currents2 and of vectors mean.
use Rattle.std.proofs.Common.{◌≡◌, ℕ, not, Bool, true, false, cond, List, [], ◌∷◌, ◌++◌, drop, map, length, Some, None, Ok, refl, sym, ap, ap₂, subst, ◌∙◌, IsPermutation, is_eq}
use Rattle.std.specs.List.{AllByRecursion}
use Rattle.std.specs.Ordering.{on}
use Rattle.std.proofs.lemmas.Cmp.{on_total}
use Rattle.std.specs.Cmp.{IsTotalOrder}
use Rattle.std.proofs.lemmas.Bool.{and_parts}
use Rattle.std.proofs.lemmas.List.Sorted.{IsPermutation-refl, IsPermutation-sym, IsPermutation-trans, IsPermutation-middle, IsPermutation-append}
use Rattle.sqlite_value.specs.declared.value.Value.{Value}
use Rattle.sqlite_value.specs.declared.value.Value.TheVariants.{Int}
use Rattle.sqlite_value.specs.Order.{Row, value_cmp}
use Rattle.sqlite_value.proofs.OrderLemmas.{value_cmp_total}
use Rattle.sqlite_sql.specs.Ops.{is_null}
use Rattle.sqlite_schema.specs.declared.schema.Keys.TheVariants.{Enforced}
use Rattle.sqlite_schema.specs.declared.schema.Table.{Table}
use Rattle.sqlite_schema.specs.declared.program.Program.{Program}
use Rattle.sqlite_schema.specs.declared.command.Source.{Source}
use Rattle.sqlite_schema.specs.declared.command.Command.TheVariants.{Insert, Update}
use Rattle.sqlite_rules.specs.declared.error.Rowids.TheVariants.{Chosen, Given}
use Rattle.sqlite_rules.specs.Cast.{cast_row}
use Rattle.sqlite_rules.specs.Calls.{ids_of}
use Rattle.sqlite_rules.specs.Edit.{Edit, edit_of, is_taken, are_fresh, have_rowids, is_chosen, numbered, with_rowid, put_all, Applies}
use Rattle.sqlite_trees.specs.Tree.{Trees, rowid, put_row}
use Rattle.sqlite_trees.specs.View.{is_int}
use Rattle.sqlite_keyed.proofs.ListLemmas.{none_from_any}
use Rattle.sqlite.specs.Does.{Tally, Does}
use Rattle.sqlite.specs.Rows.{Written, stamped}
use Rattle.sqlite.specs.Effect.{Database, IsSource, Answers}
use Rattle.sqlite.specs.State.{State, mode_of}
use Rattle.sqlite.proofs.Callers.{one_step}
use Rattle.sql_schema.specs.Tables.{archive_schema, third_table, fourth_table}
use Rattle.sql_tables.specs.Derived.{AreNumbered}
use Rattle.sql_tables.proofs.ApartLemmas.{apart-permuted, all-permuted, either_way}
use Rattle.sql_tables.proofs.WriteLemmas.{went, same_value, shuffled_in, not_true}

-- ---- rows are put in

keyed_total : IsTotalOrder (on rowid value_cmp)
keyed_total = on_total rowid value_cmp_total

one_more : (rows : List Row) (r : Row) → is_taken rows r ≡ false → is_int (rowid r) ≡ true
    → AreNumbered rows → AreNumbered (put_row r rows)
one_more rows r free int was =
    let same = shuffled_in r rows free in
    record {
      apart = apart-permuted (on rowid value_cmp) keyed_total (r ∷ rows) (put_row r rows) same (
        away rows (none_from_any (λ x. is_eq (value_cmp (rowid x) (rowid r))) rows free),
        was.apart,
      );
      keyed = all-permuted (on rowid value_cmp) keyed_total (λ x. is_int (rowid x) ≡ true)
          (r ∷ rows) (put_row r rows) same (int, was.keyed);
    }
  where
    away : (xs : List Row) → AllByRecursion (λ x. is_eq (value_cmp (rowid x) (rowid r)) ≡ false) xs
        → AllByRecursion (λ x. is_eq (value_cmp (rowid r) (rowid x)) ≡ false) xs
    away [] all = tt
    away (x ∷ xs) all = (
      either_way value_cmp value_cmp_total (rowid x) (rowid r) all.0,
      away xs all.1,
    )

pub all_more : (rows news : List Row) → are_fresh rows news ≡ true → have_rowids news ≡ true
    → AreNumbered rows → AreNumbered (put_all rows news)
all_more rows [] fresh keyed was = was
all_more rows (r ∷ news) fresh keyed was =
    let both = and_parts (not (is_taken rows r)) (are_fresh (put_row r rows) news) fresh in
    let ints = and_parts (is_int (rowid r)) (have_rowids news) keyed in
    all_more (put_row r rows) news both.1 ints.1 (one_more rows r
    (not_true (is_taken rows r) both.0) ints.0 was)

-- all that is put in stands beside what was there
pub put_beside : (rows news : List Row) → are_fresh rows news ≡ true
    → IsPermutation (news ++ rows) (put_all rows news)
put_beside rows [] fresh = IsPermutation-refl rows
put_beside rows (r ∷ news) fresh =
    let both = and_parts (not (is_taken rows r)) (are_fresh (put_row r rows) news) fresh in
    IsPermutation-trans (r ∷ (news ++ rows)) (news ++ (r ∷ rows)) (put_all (put_row r rows) news)
    (IsPermutation-sym (news ++ (r ∷ rows)) (r ∷ (news ++ rows))
    (IsPermutation-middle news r rows))
    (IsPermutation-trans (news ++ (r ∷ rows)) (news ++ put_row r rows)
    (put_all (put_row r rows) news)
    (IsPermutation-append news news (r ∷ rows) (put_row r rows) (IsPermutation-refl news)
    (shuffled_in r rows (not_true (is_taken rows r) both.0)))
    (put_beside (put_row r rows) news both.1))

-- what an insert of these rows leaves in its table
pub put_in : (indexed : Bool) (table : Table) (db next : Trees) (sources : List Row)
    → Applies (archive_schema indexed) Enforced db (edit_of db table [] Chosen 0 sources) next
    → IsPermutation (numbered Chosen (db table.tree) (map (λ s. cast_row table (drop 0 s)) sources)
    ++ db table.tree) (next table.tree) × (AreNumbered (db table.tree)
    → AreNumbered (next table.tree))
put_in indexed table db next sources applied =
    let news = numbered Chosen (db table.tree) (map (λ s. cast_row table (drop 0 s)) sources) in (
      subst (IsPermutation (news ++ db table.tree)) (sym applied.rows)
          (put_beside (db table.tree) news applied.fresh),
      λ was. subst AreNumbered (sym applied.rows) (all_more
          (db table.tree) news applied.fresh applied.keyed was),
    )

-- the rowids that are chosen don't show in the other columns
pub unnumbered : (columns : Row → Row) → ((v : Value) (r : Row)
    → columns (v ∷ drop 1 r) ≡ columns r) → (rows news : List Row)
    → map columns (numbered Chosen rows news) ≡ map columns news
unnumbered columns apart rows [] = refl
unnumbered columns apart rows (r ∷ news) =
    ap₂ ◌∷◌ (go (is_chosen Chosen (rowid r))) (unnumbered columns apart
    (put_row (with_rowid Chosen rows r) rows) news)
  where
    go : (b : Bool) → columns (cond b
        (Int (Rattle.sqlite_rules.specs.Edit.at_least Chosen
        (Rattle.sqlite_rules.specs.Edit.next_rowid rows)) ∷ drop 1 r) r) ≡ columns r
    go true = apart _ r
    go false = refl

-- rowids that aren't chosen stay
pub as_given : (rows news : List Row) → numbered Given rows news ≡ news
as_given rows [] = refl
as_given rows (r ∷ news) = ap (λ l. r ∷ l) (as_given (put_row r rows) news)

-- rowids that are given stay
pub given : (rows news : List Row) → AllByRecursion (λ r. is_null (rowid r) ≡ false) news
    → numbered Chosen rows news ≡ news
given rows [] all = refl
given rows (r ∷ news) all = ap₂ ◌∷◌ one (ap (λ l. numbered Chosen l news)
    (ap (λ x. put_row x rows) one) ∙ given (put_row r rows) news all.1)
  where
    one : with_rowid Chosen rows r ≡ r
    one = rw all.0 refl

-- ---- what statements do to the trees

-- rows were put into a table
pub record PutsIn (indexed : Bool) (table : Table) (from : Source) (params : Row) (db : Trees)
    (after : Database) : Type 0 where
  pub rows : List Row
  pub are : IsSource (record { schema = archive_schema indexed; trees = db })
      (stamped table params) from rows
  pub schema : after.schema ≡ archive_schema indexed
  pub applied : Applies (archive_schema indexed) Enforced db
      (edit_of db table [] Chosen 0 rows) after.trees

-- rows of a table were put in for others, and counted
pub record Sets (indexed : Bool) (table : Table) (q : Program) (params : Row) (db : Trees)
    (tally : Tally) (after : Database) : Type 0 where
  pub rows : List Row
  pub are : Answers (record { schema = archive_schema indexed; trees = db }) q params rows
  pub schema : after.schema ≡ archive_schema indexed
  pub applied : Applies (archive_schema indexed) Enforced db
      (edit_of db table (ids_of rows) Given 1 rows) after.trees
  pub counted : tally.rows ≡ Some (length (edit_of db table (ids_of rows) Given 1 rows).news)

module _ (old : State) (tally : Tally) (after : Database) (text : List ℕ) (params : Row)
    (indexed : Bool) (has : old.now.schema ≡ archive_schema indexed) where
  pub into_currents : (from : Source)
      → Does old.step_limit (mode_of old) params old.now text None (Insert 2 from)
      (Ok (tally, after)) → PutsIn indexed third_table from params old.now.trees after
  into_currents from changed =
      let db = old.now.trees in
      let done = went (subst (λ s.
      Does old.step_limit (mode_of old) params (record old.now { schema = s }) text None
      (Insert 2 from) (Ok (tally, after))) has changed) in
      let now = ap (λ (p : Tally × Database). p.1) (same_value (went (went done.2).2).2) in
      let given_rows = went done.1 in
      let written = went (went given_rows.2).2 in
      let counted_rows = went written.2 in
      let trees : done.0.trees ≡ written.0 =
      ap (λ (it : Written). it.trees) (same_value counted_rows.2) ∙ same_value counted_rows.1 in
      let applied = one_step (archive_schema indexed) _ db written.0
      (edit_of db third_table [] Chosen 0 given_rows.0) refl written.1 in
      let same : after.trees ≡ written.0 = ap (λ (d : Database). d.trees) now ∙ trees in
      record {
        rows = given_rows.0;
        are = given_rows.1;
        schema =
            ap (λ (d : Database). d.schema) now;
        applied =
            subst (Applies (archive_schema indexed) Enforced db
            (edit_of db third_table [] Chosen 0 given_rows.0)) (sym same) applied;
      }

  pub into_vectors : (from : Source)
      → Does old.step_limit (mode_of old) params old.now text None (Insert 3 from)
      (Ok (tally, after)) → PutsIn indexed fourth_table from params old.now.trees after
  into_vectors from changed =
      let db = old.now.trees in
      let done = went (subst (λ s.
      Does old.step_limit (mode_of old) params (record old.now { schema = s }) text None
      (Insert 3 from) (Ok (tally, after))) has changed) in
      let now = ap (λ (p : Tally × Database). p.1) (same_value (went (went done.2).2).2) in
      let given_rows = went done.1 in
      let written = went (went given_rows.2).2 in
      let counted_rows = went written.2 in
      let trees : done.0.trees ≡ written.0 =
      ap (λ (it : Written). it.trees) (same_value counted_rows.2) ∙ same_value counted_rows.1 in
      let applied = one_step (archive_schema indexed) _ db written.0
      (edit_of db fourth_table [] Chosen 0 given_rows.0) refl written.1 in
      let same : after.trees ≡ written.0 = ap (λ (d : Database). d.trees) now ∙ trees in
      record {
        rows = given_rows.0;
        are = given_rows.1;
        schema =
            ap (λ (d : Database). d.schema) now;
        applied =
            subst (Applies (archive_schema indexed) Enforced db
            (edit_of db fourth_table [] Chosen 0 given_rows.0)) (sym same) applied;
      }

  pub set_currents : (q : Program) → Does old.step_limit (mode_of old) params old.now text None
      (Update 2 q) (Ok (tally, after)) → Sets indexed third_table q params old.now.trees tally after
  set_currents q changed =
      let db = old.now.trees in
      let done = went (subst (λ s.
      Does old.step_limit (mode_of old) params (record old.now { schema = s }) text None
      (Update 2 q) (Ok (tally, after))) has changed) in
      let both = same_value (went (went done.2).2).2 in
      let now = ap (λ (p : Tally × Database). p.1) both in
      let found = went done.1 in
      let written = went found.2 in
      let trees : done.0.trees ≡ written.0 =
      ap (λ (it : Written). it.trees) (same_value written.2) in
      let rows : done.0.rows ≡ (edit_of db third_table (ids_of found.0) Given 1 found.0).news =
      ap (λ (it : Written). it.rows) (same_value written.2) in
      let applied = one_step (archive_schema indexed) _ db written.0
      (edit_of db third_table (ids_of found.0) Given 1 found.0) refl written.1 in
      let same : after.trees ≡ written.0 = ap (λ (d : Database). d.trees) now ∙ trees in
      record {
        rows = found.0;
        are = found.1;
        schema = ap (λ (d : Database). d.schema) now;
        applied = subst (Applies (archive_schema indexed) Enforced db
            (edit_of db third_table (ids_of found.0) Given 1 found.0)) (sym same) applied;
        counted = ap (λ (p : Tally × Database). p.0.rows) both ∙ ap (λ l. Some (length l)) rows;
      }

  pub set_vectors : (q : Program) → Does old.step_limit (mode_of old) params old.now text None
      (Update 3 q) (Ok (tally, after))
      → Sets indexed fourth_table q params old.now.trees tally after
  set_vectors q changed =
      let db = old.now.trees in
      let done = went (subst (λ s.
      Does old.step_limit (mode_of old) params (record old.now { schema = s }) text None
      (Update 3 q) (Ok (tally, after))) has changed) in
      let both = same_value (went (went done.2).2).2 in
      let now = ap (λ (p : Tally × Database). p.1) both in
      let found = went done.1 in
      let written = went found.2 in
      let trees : done.0.trees ≡ written.0 =
      ap (λ (it : Written). it.trees) (same_value written.2) in
      let rows : done.0.rows ≡ (edit_of db fourth_table (ids_of found.0) Given 1 found.0).news =
      ap (λ (it : Written). it.rows) (same_value written.2) in
      let applied = one_step (archive_schema indexed) _ db written.0
      (edit_of db fourth_table (ids_of found.0) Given 1 found.0) refl written.1 in
      let same : after.trees ≡ written.0 = ap (λ (d : Database). d.trees) now ∙ trees in
      record {
        rows = found.0;
        are = found.1;
        schema = ap (λ (d : Database). d.schema) now;
        applied = subst (Applies (archive_schema indexed) Enforced db
            (edit_of db fourth_table (ids_of found.0) Given 1 found.0)) (sym same) applied;
        counted = ap (λ (p : Tally × Database). p.0.rows) both ∙ ap (λ l. Some (length l)) rows;
      }
