-- What a store of format 1 shows, and how its tables are taken out.
use Rattle.std.proofs.Common.{◌≡◌, ℕ, pos, Bool, true, false, List, [], ◌∷◌, map, filter, codes, Option, Some, Ok, Err, Result, IfOk, OnOk, refl, sym, ap, subst, ◌∙◌, slice_get, IsPermutation}
use Rattle.sqlite_value.specs.declared.value.Value.TheVariants.{Null, Int}
use Rattle.sqlite_value.specs.declared.keys.Collation.TheVariants.{Binary}
use Rattle.sqlite_value.specs.declared.keys.Key.{Key}
use Rattle.sqlite_value.specs.Keys.{ascending}
use Rattle.sqlite_value.specs.Order.{Row, column}
use Rattle.sqlite_sql.specs.Term.{Term, lit, col}
use Rattle.sqlite_sql.specs.Query.{output}
use Rattle.sqlite_sql.specs.Program.{overlay}
use Rattle.sqlite_schema.specs.declared.command.Command.TheVariants.{Select, DropTable}
use Rattle.sqlite_schema.specs.declared.schema.Schema.{Schema}
use Rattle.sqlite_schema.specs.declared.schema.Table.{Table}
use Rattle.sqlite_catalog.specs.Change.{without_table}
use Rattle.sqlite_tied.specs.Compute.{everything}
use Rattle.sqlite.specs.declared.error.Error.{Error}
use Rattle.sqlite.specs.Does.{Tally, AtPlace, Drops}
use Rattle.sqlite.specs.Effect.{Database}
use Rattle.sqlite.specs.Listing.{understood, reads_listing}
use Rattle.sqlite.specs.State.{State, Shown, IsUnchanged, mode_of, Executes, ExecutesInside}
use Rattle.sqlite.proofs.Callers.{IsPlain, command_of, reads_as, runs_as}
use Rattle.sql_schema.specs.Tables.{no_schema, with_meta, with_records1, with_currents1, schema1, archive_schema, IsArchiveSchema, first_table, second_table1, third_table1, fourth_table}
use Rattle.sql_tables.specs.Derived.{current_columns, vector_columns}
use Rattle.sql_tables.specs.State.{Making}
use Rattle.sql_opening.specs.Renewing.{columns1, cells1, current1}
use Rattle.sql_tables.proofs.Texts.{records1_text, currents1_text, all_currents_text, all_vectors_text, drop_vectors_text, drop_currents_text, drop_records_text, drop_meta_text}
use Rattle.sql_tables.proofs.QueryLemmas.{simple, all_rows, answered, every, leaves_all}
use Rattle.sql_tables.proofs.WriteLemmas.{went, same_value}

abbrev by : ℕ → Term × Key
by place = (col 1 place, ascending Binary)

-- the text is a query of all rows of a table: these columns, in this order
abbrev IsOf : Schema → List ℕ → ℕ → List Term → List (Term × Key) → List (List ℕ) → Type 0
IsOf schema text table terms order names =
    (command_of (understood schema text)
    ≡ Select (record { lets = []; body = simple table [] terms order all_rows }) names)
    × (reads_listing schema text ≡ false) × IsPlain (understood schema text)

module _ (schema : Schema) (text : List ℕ) (table : ℕ) (terms : List Term)
    (order : List (Term × Key)) (names : List (List ℕ))
    (is : IsOf schema text table terms order names) (shown key : Row → Row)
    (shows : (r : Row) → output (simple table [] terms order all_rows) ([] ∷ r ∷ [])
    ≡ (key (shown r), shown r)) where
  finds : (old new : State) (rows : List Row) → old.now.schema ≡ schema → Shown text [] old new rows
      → IsPermutation (map shown (overlay old.now.trees [] table)) rows
  finds old new rows has h =
      let got = reads_as text [] old new schema has _ is.0 is.2 is.1 rows h in
      let all = answered table [] terms order all_rows [] shown (λ _. true) key shows
      (λ r. refl) old.now.trees rows (got.answer Null) in
      let same : rows ≡ all.0 = all.3 in
      subst (λ xs. IsPermutation xs rows) (every (map shown (overlay old.now.trees [] table)))
      (subst (IsPermutation (filter (λ _. true) (map shown (overlay old.now.trees [] table))))
      (sym same) all.1)

-- ---- the rows of format 1

abbrev record_terms : List Term
record_terms = col 1 1 ∷ col 1 2 ∷ col 1 3 ∷ col 1 4 ∷ col 1 5 ∷ lit (Int (pos 0)) ∷ col 1 6
    ∷ col 1 7 ∷ col 1 8 ∷ []

abbrev record_names : List (List ℕ)
record_names = codes "origin" ∷ codes "number" ∷ codes "tick" ∷ codes "node" ∷ codes "time"
    ∷ codes "0" ∷ codes "asked" ∷ codes "who" ∷ codes "value" ∷ []

records_is : IsOf schema1 records1_text 1 record_terms (by 1 ∷ by 2 ∷ []) record_names
unfolding understood everything
records_is = (refl, refl, (refl, refl))

pub records1_plain : IsPlain (understood schema1 records1_text)
records1_plain = records_is.2

pub finds_records1 : (old new : State) (rows : List Row) → old.now.schema ≡ schema1
    → Shown records1_text [] old new rows → IsPermutation (cells1 old.now.trees) rows
finds_records1 = finds schema1 records1_text 1 record_terms (by 1 ∷ by 2 ∷ []) record_names
    records_is columns1 (λ c. column c 0 ∷ column c 1 ∷ []) (λ r. refl)

abbrev current_terms : List Term
current_terms = col 1 1 ∷ col 1 2 ∷ lit (Int (pos 0)) ∷ col 1 3 ∷ col 1 4 ∷ col 1 5 ∷ col 1 6
    ∷ col 1 7 ∷ []

abbrev current_names : List ℕ → List (List ℕ)
current_names third = codes "node" ∷ codes "time" ∷ third ∷ codes "tick" ∷ codes "origin"
    ∷ codes "live" ∷ codes "extra" ∷ codes "value" ∷ []

currents_is : IsOf schema1 currents1_text 4 current_terms (by 1 ∷ by 2 ∷ [])
    (current_names (codes "0"))
unfolding understood everything
currents_is = (refl, refl, (refl, refl))

pub currents1_plain : IsPlain (understood schema1 currents1_text)
currents1_plain = currents_is.2

pub finds_currents1 : (old new : State) (rows : List Row) → old.now.schema ≡ schema1
    → Shown currents1_text [] old new rows → IsPermutation (map current1 (old.now.trees 4)) rows
finds_currents1 = finds schema1 currents1_text 4 current_terms (by 1 ∷ by 2 ∷ [])
    (current_names (codes "0")) currents_is current1 (λ c. column c 0 ∷ column c 1 ∷ []) (λ r. refl)

abbrev vector_terms : List Term
vector_terms = col 1 0 ∷ col 1 2 ∷ col 1 3 ∷ []

abbrev vector_names : List (List ℕ)
vector_names = codes "origin" ∷ codes "number" ∷ codes "tick" ∷ []

vectors_were : IsOf schema1 all_vectors_text 6 vector_terms (by 0 ∷ []) vector_names
unfolding understood everything
vectors_were = (refl, refl, (refl, refl))

pub vectors1_plain : IsPlain (understood schema1 all_vectors_text)
vectors1_plain = vectors_were.2

pub finds_vectors1 : (old new : State) (rows : List Row) → old.now.schema ≡ schema1
    → Shown all_vectors_text [] old new rows
    → IsPermutation (map vector_columns (old.now.trees 6)) rows
finds_vectors1 = finds schema1 all_vectors_text 6 vector_terms
    (by 0 ∷ []) vector_names vectors_were vector_columns (λ c. column c 0 ∷ []) (λ r. refl)

-- ---- those of an archive

abbrev made_terms : List Term
made_terms = col 1 1 ∷ col 1 2 ∷ col 1 3 ∷ col 1 4 ∷ col 1 5 ∷ col 1 6 ∷ col 1 7 ∷ col 1 8 ∷ []

currents_are : (indexed : Bool) → IsOf (archive_schema indexed) all_currents_text 4 made_terms
    (by 1 ∷ by 2 ∷ by 3 ∷ [])
    (current_names (codes "pico"))
unfolding understood everything
currents_are indexed = (refl, refl, (refl, refl))

vectors_are : (indexed : Bool) → IsOf (archive_schema indexed) all_vectors_text 6 vector_terms
    (by 0 ∷ []) vector_names
unfolding understood everything
vectors_are indexed = (refl, refl, (refl, refl))

-- a query changes nothing
unchanged : (text : List ℕ) (old new : State) (rows : List Row)
    → (has : IsArchiveSchema old.now.schema) → IsPlain (understood (archive_schema has.0) text)
    → Shown text [] old new rows → IsUnchanged old new
unchanged text old new rows has plain h =
    leaves_all text [] old new rows (subst (λ s. IsPlain (understood s text)) (sym has.1) plain) h

pub shows_currents : (old new : State) (rows : List Row) → IsArchiveSchema old.now.schema
    → Shown all_currents_text [] old new rows
    → IsUnchanged old new × IsPermutation (map current_columns (old.now.trees 4)) rows
shows_currents old new rows has h = (
  unchanged all_currents_text old new rows has (currents_are has.0).2 h,
  finds (archive_schema has.0) all_currents_text 4 made_terms (by 1 ∷ by 2 ∷ by 3 ∷ [])
      (current_names (codes "pico")) (currents_are has.0) current_columns
      (λ c. column c 0 ∷ column c 1 ∷ column c 2 ∷ []) (λ r. refl) old new rows has.1 h,
)

pub vectors_plain : (indexed : Bool)
    → IsPlain (understood (archive_schema indexed) all_vectors_text)
vectors_plain indexed = (vectors_are indexed).2

pub shows_vectors : (old new : State) (rows : List Row) → IsArchiveSchema old.now.schema
    → Shown all_vectors_text [] old new rows
    → IsUnchanged old new × IsPermutation (map vector_columns (old.now.trees 6)) rows
shows_vectors old new rows has h = (
  unchanged all_vectors_text old new rows has (vectors_are has.0).2 h,
  finds (archive_schema has.0) all_vectors_text 6 vector_terms
      (by 0 ∷ []) vector_names (vectors_are has.0) vector_columns (λ c. column c 0 ∷ [])
      (λ r. refl) old new rows has.1 h,
)

-- ---- DROP TABLE, whatever the schema and the text are

drops : (schema : Schema) (text : List ℕ) (at : ℕ) (table : Table)
    → command_of (understood schema text) ≡ DropTable at → IsPlain (understood schema text)
    → slice_get schema.tables at ≡ Some table
    → (old new : State) (count : ℕ) → old.now.schema ≡ schema → Executes text [] old new (Ok count)
    → new.now.schema ≡ without_table schema table.tree
drops schema text at table command plain place old new count has h =
    let w = runs_as text [] old new schema has (DropTable at) command plain count h in
    let changed = subst (λ s. AtPlace
    (λ t. Drops (record {
      limit = old.step_limit;
      keys = (mode_of old).keys;
      schema = s;
      table =
          t;
      params = [];
    }) (mode_of old) old.now.trees) (slice_get s.tables at)
    (Ok (w.tally, new.now))) has w.changed in
    let dropped = subst (λ (o : Option Table).
    AtPlace (λ t. Drops (record {
      limit = old.step_limit;
      keys = (mode_of old).keys;
      schema = schema;
      table = t;
      params =
          [];
    }) (mode_of old) old.now.trees) o (Ok (w.tally, new.now))) place changed in
    let left = went (went (went (went dropped).2).2).2 in
    ap (λ (p : Tally × Database). p.1.schema) (same_value left.2) ∙ left.1.0

module _ (schema after : Schema) (text : List ℕ) (at : ℕ) (table : Table)
    (command : command_of (understood schema text) ≡ DropTable at)
    (plain : IsPlain (understood schema text)) (place : slice_get schema.tables at ≡ Some table)
    (is : without_table schema table.tree ≡ after) where
  drops_to : (old new : State) (r : Result ℕ Error) → Making schema old
      → ExecutesInside 0 text [] old new r
      → OnOk r (Making after new × (new.committed ≡ old.committed))
  drops_to old new (Err e) was h = tt
  drops_to old new (Ok count) was h = (
    record {
      inside = h.1.mode;
      has =
          drops schema text at table command plain place old new count was.has h.0 ∙ is;
    },
    h.1.committed_is,
  )

abbrev IsDrop : Schema → Schema → List ℕ → ℕ → Table → Type 0
IsDrop schema after text at table =
    (command_of (understood schema text) ≡ DropTable at) × IsPlain (understood schema text)
    × (slice_get schema.tables at ≡ Some table) × (without_table schema table.tree ≡ after)

vectors_dropped : IsDrop schema1 with_currents1 drop_vectors_text 3 fourth_table
unfolding understood everything
vectors_dropped = (refl, (refl, refl), refl, refl)

currents_dropped : IsDrop with_currents1 with_records1 drop_currents_text 2 third_table1
unfolding understood everything
currents_dropped = (refl, (refl, refl), refl, refl)

records_dropped : IsDrop with_records1 with_meta drop_records_text 1 second_table1
unfolding understood everything
records_dropped = (refl, (refl, refl), refl, refl)

meta_dropped : IsDrop with_meta no_schema drop_meta_text 0 first_table
unfolding understood everything
meta_dropped = (refl, (refl, refl), refl, refl)

pub drops_vectors : (old new : State) (r : Result ℕ Error) → Making schema1 old
    → ExecutesInside 0 drop_vectors_text [] old new r
    → OnOk r (Making with_currents1 new × (new.committed ≡ old.committed))
drops_vectors = drops_to schema1 with_currents1 drop_vectors_text 3 fourth_table vectors_dropped.0
    vectors_dropped.1 vectors_dropped.2 vectors_dropped.3

pub drops_currents : (old new : State) (r : Result ℕ Error) → Making with_currents1 old
    → ExecutesInside 0 drop_currents_text [] old new r
    → OnOk r (Making with_records1 new × (new.committed ≡ old.committed))
drops_currents = drops_to with_currents1 with_records1 drop_currents_text 2 third_table1
    currents_dropped.0 currents_dropped.1 currents_dropped.2 currents_dropped.3

pub drops_records : (old new : State) (r : Result ℕ Error) → Making with_records1 old
    → ExecutesInside 0 drop_records_text [] old new r
    → OnOk r (Making with_meta new × (new.committed ≡ old.committed))
drops_records = drops_to with_records1 with_meta drop_records_text 1 second_table1 records_dropped.0
    records_dropped.1 records_dropped.2 records_dropped.3

pub drops_meta : (old new : State) (r : Result ℕ Error) → Making with_meta old
    → ExecutesInside 0 drop_meta_text [] old new r
    → OnOk r (Making no_schema new × (new.committed ≡ old.committed))
drops_meta = drops_to with_meta no_schema drop_meta_text 0 first_table meta_dropped.0 meta_dropped.1
    meta_dropped.2 meta_dropped.3

-- what an answer shows follows from what is shown
pub if_ok : {A E : Type 0} {P Q : A → Type 0} (r : Result A E) → ((a : A) → P a → Q a) → IfOk r P
    → IfOk r Q
if_ok (Ok a) f p = f a p
if_ok (Err e) f p = tt
