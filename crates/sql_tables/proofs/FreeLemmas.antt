-- Whether a record stands at a node and time.
use Rattle.std.proofs.Common.{◌≡◌, ℕ, ℤ, Bool, not, false, List, [], ◌∷◌, length, map, filter, take, codes, refl, sym, ap, subst, ◌∙◌, IsPermutation}
use Rattle.std.specs.List.{list_any, list_all, AllByRecursion}
use Rattle.std.proofs.lemmas.List.Elements.{recursion_from_All, All-from_recursion}
use Rattle.std.proofs.lemmas.List.Sorted.{All-permutation, length_permutation}
use Rattle.sqlite_value.specs.declared.value.Value.TheVariants.{Null, Int, Blob}
use Rattle.sqlite_value.specs.Order.{Row, column}
use Rattle.sqlite_sql.specs.Term.{Term, col, holds}
use Rattle.sqlite_sql.specs.Query.{inner, end}
use Rattle.sqlite_sql.specs.Program.{overlay}
use Rattle.sqlite_schema.specs.declared.command.Command.TheVariants.{Select}
use Rattle.sqlite_trees.specs.Tree.{Trees}
use Rattle.sqlite_keyed.proofs.ListLemmas.{all_map, all_unmap, all_weaker, all-filter, filter_none}
use Rattle.sqlite_tied.specs.Compute.{everything}
use Rattle.sqlite.specs.Listing.{understood, reads_listing}
use Rattle.sqlite.specs.State.{State, Shown}
use Rattle.sqlite.proofs.Callers.{IsPlain, command_of, reads_as}
use Rattle.sql_schema.specs.Tables.{archive_schema, IsArchiveSchema}
use Rattle.sql_tables.specs.Words.{cells, columns_of}
use Rattle.sql_tables.specs.Derived.{AreKept, same, is_of, is_later, is_current_of, current_of, currents_of, current_columns}
use Rattle.sql_tables.specs.Keeping.{HasNoneOf, HasNoRowAt}
use Rattle.sql_tables.proofs.Texts.{some_at_text}
use Rattle.sql_tables.proofs.MadeLemmas.{eq}
use Rattle.sql_tables.proofs.KeepLemmas.{three_true, empty_by}
use Rattle.sql_tables.proofs.AgreeLemmas.{listing, listed, none_first, none_of, none_passes, first_only}

abbrev moment_tests : List Term
moment_tests = eq (col 1 4) (col 0 0) ∷ eq (col 1 5) (col 0 1) ∷ eq (col 1 6) (col 0 2) ∷ []

some_at_is : (indexed : Bool) → (command_of (understood (archive_schema indexed) some_at_text)
    ≡ Select (record {
      lets = [];
      body =
          listing (inner 1 end) moment_tests (col 1 1 ∷ []) [] first_only;
    }) (codes "origin" ∷ []))
    × (reads_listing (archive_schema indexed) some_at_text ≡ false)
unfolding understood everything
some_at_is indexed = (refl, refl)

pub some_at_plain : (indexed : Bool) → IsPlain (understood (archive_schema indexed) some_at_text)
unfolding understood everything
some_at_plain indexed = (refl, refl)

-- where the query shows no row, none stands there
pub none_at : (old new : State) (node : List ℕ) (time pico : ℤ) (rows : List Row)
    → IsArchiveSchema old.now.schema
    → Shown some_at_text (Blob node ∷ Int time ∷ Int pico ∷ []) old new rows → rows ≡ []
    → HasNoneOf node time pico (cells (old.now.trees 1))
none_at old new node time pico rows has h none =
    let params = Blob node ∷ Int time ∷ Int pico ∷ [] in
    let db = old.now.trees in
    let got = reads_as some_at_text params old new (archive_schema has.0) has.1 _
    (some_at_is has.0).0 (some_at_plain has.0)
    (some_at_is has.0).1 rows h in
    let keep = λ (r : Row). list_all (holds (params ∷ r ∷ [])) moment_tests in
    let all = listed (inner 1 end) moment_tests (col 1 1 ∷ []) [] first_only params (overlay db [])
    (db 1) keep (λ r. params ∷ r ∷ []) refl rows (got.answer Null) in
    let off = none_passes keep (db 1) (none_of (λ r. column r 1 ∷ []) (filter keep (db 1))
    (subst (IsPermutation (map (λ r. column r 1 ∷ []) (filter keep (db 1))))
    (none_first all.0 (sym all.2 ∙ none)) all.1)) in
    all_map (λ c. is_of node time pico c ≡ false) columns_of (db 1)
    (all_weaker (λ r. keep r ≡ false) (λ r. is_of node time pico (columns_of r) ≡ false)
    (λ r e. sym (three_true (same (column r 4) (Blob node)) (same (column r 5) (Int time))
    (same (column r 6) (Int pico))) ∙ e) (db 1) off)

-- where none stands there, the query shows no row
pub none_shown : (old new : State) (node : List ℕ) (time pico : ℤ) (rows : List Row)
    → IsArchiveSchema old.now.schema
    → Shown some_at_text (Blob node ∷ Int time ∷ Int pico ∷ []) old new rows
    → HasNoneOf node time pico (cells (old.now.trees 1)) → rows ≡ []
none_shown old new node time pico rows has h none =
    let params = Blob node ∷ Int time ∷ Int pico ∷ [] in
    let db = old.now.trees in
    let got = reads_as some_at_text params old new (archive_schema has.0) has.1 _
    (some_at_is has.0).0 (some_at_plain has.0)
    (some_at_is has.0).1 rows h in
    let keep = λ (r : Row). list_all (holds (params ∷ r ∷ [])) moment_tests in
    let all = listed (inner 1 end) moment_tests (col 1 1 ∷ []) [] first_only params (overlay db [])
    (db 1) keep (λ r. params ∷ r ∷ []) refl rows (got.answer Null) in
    let off : filter keep (db 1) ≡ [] = filter_none keep (db 1)
    (all_weaker (λ r. is_of node time pico (columns_of r) ≡ false) (λ r. keep r ≡ false)
    (λ r e. three_true (same (column r 4) (Blob node)) (same (column r 5) (Int time))
    (same (column r 6) (Int pico)) ∙ e) (db 1)
    (all_unmap (λ c. is_of node time pico c ≡ false) columns_of (db 1) none)) in
    let empty : all.0 ≡ [] = empty_by all.0
    (length_permutation (map (λ r. column r 1 ∷ []) (filter keep (db 1))) all.0 all.1
    ∙ ap (λ l. length (map (λ r. column r 1 ∷ []) l)) off) in
    all.2 ∙ ap (take 1) empty

-- where no record stands, no row of currents2 does
pub free_by : (node : List ℕ) (time pico : ℤ) (db : Trees) → AreKept db
    → HasNoneOf node time pico (cells (db 1)) → HasNoRowAt node time pico db
free_by node time pico db kept none = record {
  records = none;
  currents = recursion_from_All P (map current_columns (db 4))
      (All-permutation P (currents_of (cells (db 1))) (map current_columns (db 4)) kept.currents
      (All-from_recursion P (currents_of (cells (db 1))) made));
}
  where
    P : Row → Type 0
    P c = is_current_of node time pico c ≡ false

    top : Row → Rattle.std.specs.Prelude.Bool
    top r = not (list_any (is_later r) (cells (db 1)))

    made : AllByRecursion P (currents_of (cells (db 1)))
    made = all_map P (current_of (cells (db 1))) (filter top (cells (db 1)))
        (all-filter (λ r. is_of node time pico r ≡ false) top (cells (db 1)) none)
