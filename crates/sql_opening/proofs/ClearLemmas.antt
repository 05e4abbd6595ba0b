-- Tables of format 1 behind those of an archive: whether they hold a row, and how they are taken
-- out.
use Rattle.std.proofs.Common.{◌≡◌, ℕ, true, false, Bool, cond, None, List, [], ◌∷◌, map, filter, codes, Option, Some, Ok, Err, Result, IfOk, IfErr, OnOk, refl, sym, ap, subst, ◌∙◌, slice_get, IsPermutation}
use Rattle.std.specs.List.{AllByRecursion}
use Rattle.std.proofs.lemmas.Bool.{true≢false}
use Rattle.sqlite_value.specs.declared.value.Value.TheVariants as value
use Rattle.sqlite_value.specs.Order.{Row, column}
use Rattle.sqlite_sql.specs.Term.{col}
use Rattle.sqlite_sql.specs.Program.{overlay}
use Rattle.sqlite_sql.specs.Query.{inner, end}
use Rattle.sqlite_schema.specs.declared.command.Command.TheVariants.{Select, DropTable}
use Rattle.sqlite_schema.specs.declared.schema.Schema.{Schema}
use Rattle.sqlite_schema.specs.declared.schema.Table.{Table}
use Rattle.sqlite_catalog.specs.Change.{without_table, KeepsRows}
use Rattle.sqlite_catalog.specs.Listing.{Lists}
use Rattle.sqlite_trees.specs.Tree.{Trees}
use Rattle.sqlite_trees.specs.Objects.{catalog_tree}
use Rattle.sqlite_tied.specs.Compute.{everything}
use Rattle.sqlite.specs.declared.error.Error.{Error}
use Rattle.std.specs.Prelude.{MatchBool}
use Rattle.sqlite.specs.Rows.{Task, sequence}
use Rattle.sqlite.specs.Does.{Tally, AtPlace, Drops, UncountsIn, is_acted_on}
use Rattle.sqlite_schema.specs.declared.schema.Keys.TheVariants.{Enforced}
use Rattle.sqlite.specs.Effect.{Database}
use Rattle.sqlite.specs.Listing.{understood, reads_listing}
use Rattle.sqlite.specs.State.{State, HasCleanDisk, Shown, mode_of, Executes, ExecutesInside}
use Rattle.sqlite.proofs.StateLemmas.{survives_then}
use Rattle.sqlite.proofs.Callers.{IsPlain, command_of, reads_as, runs_as}
use Rattle.archive.specs.declared.fault.StoreFault.{StoreFault}
use Rattle.archive.specs.Store.{IsOfOpening, fault_in}
use Rattle.archive.specs.Listed.{is_broken}
use Rattle.sql_schema.specs.Tables.{archive_schema, with_records_beside, beside_schema, records_beside, currents_beside}
use Rattle.sql_tables.specs.Rows.{meta_cells}
use Rattle.sql_tables.specs.State.{Found, FoundOr, Holds, Making}
use Rattle.sql_tables.proofs.AgreeLemmas.{listing, listed, none_first, none_of, none_passes, first_only}
use Rattle.sql_tables.proofs.Texts.{drop_currents_text, drop_records_text}
use Rattle.sql_tables.proofs.WriteLemmas.{went, same_value}
use Rattle.sql_tables.specs.Asking.{IsAnswered}
use Rattle.sql_tables.proofs.AnsweredLemmas.{Suits, answered_by}
use Rattle.sql_opening.specs.Clearing.{AreBare, KeepsTables, IsCleared}
use Rattle.sql_opening.specs.Opening.{checked_meta, AnyReason, OpensBeside}

-- ---- whether they hold a row

abbrev pub some_record_text : List ℕ
some_record_text = codes "SELECT origin FROM records LIMIT 1"

abbrev pub some_current_text : List ℕ
some_current_text = codes "SELECT origin FROM currents LIMIT 1"

-- the text is a query of a column of the first row of a table
abbrev IsFirst : List ℕ → ℕ → ℕ → Type 0
IsFirst text table at =
    (command_of (understood beside_schema text)
    ≡ Select (record {
      lets = [];
      body =
          listing (inner table end) [] (col 1 at ∷ []) [] first_only;
    }) (codes "origin" ∷ []))
    × (reads_listing beside_schema text ≡ false) × IsPlain (understood beside_schema text)

record_first : IsFirst some_record_text 7 1
unfolding understood everything
record_first = (refl, refl, (refl, refl))

current_first : IsFirst some_current_text 10 4
unfolding understood everything
current_first = (refl, refl, (refl, refl))

record_suits : Suits beside_schema some_record_text [] (understood beside_schema some_record_text)
unfolding understood everything
record_suits = ((refl, refl), refl, refl, refl)

pub record_answered : IsAnswered beside_schema some_record_text []
record_answered =
    answered_by beside_schema some_record_text [] record_first.1 record_suits

current_suits : Suits beside_schema some_current_text []
    (understood beside_schema some_current_text)
unfolding understood everything
current_suits = ((refl, refl), refl, refl, refl)

pub current_answered : IsAnswered beside_schema some_current_text []
current_answered =
    answered_by beside_schema some_current_text [] current_first.1 current_suits

-- rows that none of passes a test that all pass are none
no_rows : (rows : List Row) → AllByRecursion (λ r. true ≡ false) rows → rows ≡ []
no_rows [] off = refl
no_rows (r ∷ rows) off = absurd (true≢false off.0)

module _ (text : List ℕ) (table at : ℕ) (is : IsFirst text table at) where
  none_in : (old new : State) (rows : List Row) → old.now.schema ≡ beside_schema
      → Shown text [] old new rows → rows ≡ [] → overlay old.now.trees [] table ≡ []
  none_in old new rows has h none =
      let db = overlay old.now.trees [] in
      let got = reads_as text [] old new beside_schema has _ is.0 is.2 is.1 rows h in
      let keep = λ (r : Row). true in
      let all = listed (inner table end) [] (col 1 at ∷ []) [] first_only [] db (db table) keep
      (λ r. [] ∷ r ∷ []) refl rows (got.answer value.Null) in
      no_rows (db table) (none_passes keep (db table)
      (none_of (λ r. column r at ∷ []) (filter keep (db table))
      (subst (IsPermutation (map (λ r. column r at ∷ []) (filter keep (db table))))
      (none_first all.0 (sym all.2 ∙ none)) all.1)))

pub no_record : (old new : State) (rows : List Row) → old.now.schema ≡ beside_schema
    → Shown some_record_text [] old new rows → rows ≡ [] → old.now.trees 7 ≡ []
no_record = none_in some_record_text 7 1 record_first

pub no_current : (old new : State) (rows : List Row) → old.now.schema ≡ beside_schema
    → Shown some_current_text [] old new rows → rows ≡ [] → old.now.trees 10 ≡ []
no_current = none_in some_current_text 10 4 current_first

-- ---- DROP TABLE, and what it leaves

otherwise : (b : Bool) (P Q : Type 0) → b ≡ false → MatchBool b P Q → Q
otherwise false P Q is h = h
otherwise true P Q is h = absurd (true≢false is)

-- what stands in the other tables
pub left_by : (schema : Schema) (text : List ℕ) (at : ℕ) (table : Table)
    → command_of (understood schema text) ≡ DropTable at → IsPlain (understood schema text)
    → slice_get schema.tables at ≡ Some table
    → is_acted_on schema Enforced table ≡ false → table.is_counted ≡ false
    → (old new : State) (count : ℕ) → old.now.schema ≡ schema → Executes text [] old new (Ok count)
    → (new.now.schema ≡ without_table schema table.tree)
    × KeepsRows (without_table schema table.tree).tables old.now.trees new.now.trees
    × Lists (new.now.trees catalog_tree) new.now.schema
left_by schema text at table command plain place quiet uncounted old new count has h =
    let w = runs_as text [] old new schema has (DropTable at) command plain count h in
    let changed = subst (λ s. AtPlace
    (λ t. Drops (record {
      limit = old.step_limit;
      keys = (mode_of old).keys;
      schema = s;
      table =
          t;
      params = [];
    }) (mode_of old) old.now.trees) (slice_get s.tables at)
    (Ok (w.tally, new.now))) has w.changed in
    let dropped = subst (λ (o : Option Table).
    AtPlace (λ t. Drops (record {
      limit = old.step_limit;
      keys = (mode_of old).keys;
      schema = schema;
      table = t;
      params =
          [];
    }) (mode_of old) old.now.trees) o (Ok (w.tally, new.now))) place changed in
    let emptied = went dropped in
    let counts = went emptied.2 in
    let left = went (went counts.2).2 in
    let first : emptied.0 ≡ old.now.trees = same_value (otherwise _ _ _ quiet emptied.1) in
    let task : Task = record {
      limit = old.step_limit;
      keys = (mode_of old).keys;
      schema =
          schema;
      table = table;
      params = [];
    } in
    let second : counts.0 ≡ emptied.0 =
    same_value (subst (λ (o : Option Table). UncountsIn task emptied.0 o (Ok counts.0))
    (ap (λ b. cond b (sequence schema) None) uncounted) counts.1) in
    let now : new.now ≡ left.0 = ap (λ (p : Tally × Database). p.1) (same_value left.2) in (
      ap (λ (d : Database). d.schema) now ∙ left.1.0,
      subst (λ t. KeepsRows (without_table schema table.tree).tables t new.now.trees)
          (second ∙ first) (subst (λ (d : Database).
          KeepsRows (without_table schema table.tree).tables counts.0 d.trees) (sym now) left.1.1),
      w.sound.lists,
    )

abbrev IsDrop : Schema → Schema → List ℕ → ℕ → Table → Type 0
IsDrop schema after text at table =
    (command_of (understood schema text) ≡ DropTable at) × IsPlain (understood schema text)
    × (slice_get schema.tables at ≡ Some table) × (is_acted_on schema Enforced table ≡ false)
    × (table.is_counted ≡ false)
    × (without_table schema table.tree ≡ after)

currents_dropped : IsDrop beside_schema with_records_beside drop_currents_text 5 currents_beside
unfolding understood everything
currents_dropped = (refl, (refl, refl), refl, refl, refl, refl)

records_dropped : IsDrop with_records_beside (archive_schema false) drop_records_text 4
    records_beside
unfolding understood everything
records_dropped = (refl, (refl, refl), refl, refl, refl, refl)

pub drops_currents : (old new : State) (r : Result ℕ Error) → Making beside_schema old
    → ExecutesInside 0 drop_currents_text [] old new r
    → OnOk r (Making with_records_beside new × (new.committed ≡ old.committed)
    × KeepsTables old.now.trees new.now.trees)
drops_currents old new (Err e) was h = tt
drops_currents old new (Ok count) was h =
    let is = currents_dropped in
    let left = left_by beside_schema drop_currents_text 5 currents_beside is.0 is.1 is.2 is.3 is.4
    old new count was.has h.0 in
    let all = subst (λ (s : Schema). KeepsRows s.tables old.now.trees new.now.trees) is.5 left.1 in (
      record { inside = h.1.mode; has = left.0 ∙ is.5 },
      h.1.committed_is,
      record { meta = all.0; records = all.1.0; currents = all.1.1.0; vectors = all.1.1.1.0 },
    )

pub drops_records : (old new : State) (r : Result ℕ Error) → Making with_records_beside old
    → ExecutesInside 0 drop_records_text [] old new r
    → OnOk r (Making (archive_schema false) new × (new.committed ≡ old.committed)
    × IsCleared old.now.trees new.now.trees)
drops_records old new (Err e) was h = tt
drops_records old new (Ok count) was h =
    let is = records_dropped in
    let left = left_by with_records_beside drop_records_text 4
    records_beside is.0 is.1 is.2 is.3 is.4 old new count was.has h.0 in
    let all = subst (λ (s : Schema). KeepsRows s.tables old.now.trees new.now.trees) is.5 left.1 in (
      record { inside = h.1.mode; has = left.0 ∙ is.5 },
      h.1.committed_is,
      record {
        keeps = record {
          meta = all.0;
          records = all.1.0;
          currents = all.1.1.0;
          vectors =
              all.1.1.1.0;
        };
        lists = subst (Lists (new.now.trees catalog_tree)) (left.0 ∙ is.5) left.2;
      },
    )

-- one behind the other
pub cleared_then : (a b c : Trees) → KeepsTables a b → IsCleared b c → IsCleared a c
cleared_then a b c one two = record {
  keeps = record {
    meta = two.keeps.meta ∙ one.meta;
    records =
        two.keeps.records ∙ one.records;
    currents = two.keeps.currents ∙ one.currents;
    vectors =
        two.keeps.vectors ∙ one.vectors;
  };
  lists = two.lists;
}

-- what an opening makes of them
pub opened_beside : (id : List ℕ) (own : ℕ) (a b c : State) (result : Result Unit StoreFault)
    → Found a b (Ok (Ok tt)) (λ told. told ≡ checked_meta id own (meta_cells a.now.trees))
    → FoundOr AnyReason b c result (λ _. AreBare b.now.trees) → (HasCleanDisk c → HasCleanDisk b)
    → OpensBeside id own a c result
opened_beside id own a b c result one two early = record {
  opened = λ clean. go result (one.kept (early clean) refl) (one.answer (early clean))
      (two.kept clean) (two.answer clean);
  wrong = λ clean. never result two.met;
  crash = survives_then a b c _ _ _ (λ clean db none. none)
      (λ clean db none. none) one.crash two.crash;
}
  where
    go : (r : Result Unit StoreFault) → Holds a b
        → Ok tt ≡ checked_meta id own (meta_cells a.now.trees)
        → (is_broken (fault_in r) ≡ false → Holds b c) → IfOk r (λ _. AreBare b.now.trees)
        → OnOk r (Holds a c × (checked_meta id own (meta_cells a.now.trees) ≡ Ok tt)
        × AreBare a.now.trees)
    go (Ok v) s is more bare =
        let t = more refl in
        let same = ap (λ (d : Database). d.trees) s.same in
        (record { rests = t.rests; same = t.same ∙ s.same }, sym is, subst AreBare same bare)
    go (Err f) s is more bare = tt

    never : (r : Result Unit StoreFault) → IfErr r (λ f. IsOfOpening f → ⊥)
        → IfErr r (λ f. IsOfOpening f → checked_meta id own (meta_cells a.now.trees) ≡ Err f)
    never (Ok t) h = tt
    never (Err f) h = λ o. absurd (h o)
