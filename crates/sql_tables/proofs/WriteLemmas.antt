-- What the writes do.
use Rattle.std.proofs.Common.{◌≡◌, ◌≢◌, arith, ◌⊎◌, inl, inr, ℕ, ℤ, pos, drop, not, ◌&&◌, List, [], ◌∷◌, map, Bool, true, false, cond, None, Ok, Err, Result, OnOk, IsTrue, refl, sym, ap, subst, ◌∙◌, nat_eq}
use Rattle.std.specs.List.Sorted.{IsPermutation}
use Rattle.std.proofs.lemmas.List.Sorted.{IsPermutation-refl, IsPermutation-sym, IsPermutation-trans, IsPermutation-cons, IsPermutation-middle, IsPermutation-map}
use Rattle.std.specs.declared.cmp.Ordering.{Ordering}
use Rattle.std.specs.declared.cmp.Ordering.TheVariants.{Less, Equal, Greater}
use Rattle.std.specs.Ordering.{match_ordering}
use Rattle.sqlite_value.specs.declared.value.Value.{Value}
use Rattle.sqlite_value.specs.declared.value.Value.TheVariants.{Null, Int, Blob}
use Rattle.sqlite_value.specs.Order.{Row, value_cmp}
use Rattle.sqlite_sql.specs.Term.{Term, lit, col}
use Rattle.sqlite_sql.specs.Ops.{unary}
use Rattle.sqlite_schema.specs.declared.schema.Table.{Table}
use Rattle.sqlite_schema.specs.declared.schema.Schema.{Schema}
use Rattle.sqlite_schema.specs.declared.schema.Kind.TheVariants.{Integer}
use Rattle.sqlite_schema.specs.declared.command.Source.TheVariants.{Values}
use Rattle.sqlite_schema.specs.declared.command.Command.TheVariants.{Insert, CreateTable}
use Rattle.sql_tables.specs.Keeping.{AddsRecord}
use Rattle.sql_tables.specs.State.{KeepsFirst, AreEmpty, IsOpenAndIdle, Holds, Idles, KeepsState, Making, MakingArchive, Makes, IsNewArchive}
use Rattle.sqlite_resolve.specs.Compile.{table_defined_by}
use Rattle.sqlite_rules.specs.Edit.{edit_of, is_taken, are_fresh, numbered, with_rowid, put_all}
use Rattle.sqlite_rules.specs.Cast.{cast, cast_row}
use Rattle.sqlite_rules.specs.declared.error.Rowids.TheVariants.{Chosen}
use Rattle.sqlite_catalog.specs.Change.{created, next_tree, KeepsRows}
use Rattle.sqlite.specs.Does.{Tally, Does, lacks_sequence}
use Rattle.sqlite.specs.Rows.{Written}
use Rattle.sqlite_trees.specs.Tree.{Trees, rowid, put_row}
use Rattle.sqlite_trees.specs.Objects.{catalog_tree}
use Rattle.sqlite_catalog.specs.Listing.{Lists}
use Rattle.sqlite_tied.specs.Compute.{everything}
use Rattle.sqlite.specs.declared.error.Error.{Error}
use Rattle.sqlite.specs.Listing.{understood}
use Rattle.sqlite.specs.Effect.{Database}
use Rattle.sqlite_trees.specs.declared.store.Store.{Ghosts}
use Rattle.sqlite.specs.Held.{Held, state}
use Rattle.sqlite.proofs.StateLemmas.{survives_then}
use Rattle.sqlite.specs.State.{State, HasCleanDisk, Survives, mode_of, Writes, Executes, IsUnchanged, IsRolledBack, IsNotRun, ExecutesInside, Shows, KeepsCommit, FailsToQuery, FailsToShow}
use Rattle.sqlite.specs.Clock.{timed}
use Rattle.std.proofs.lemmas.Bool.{true≢false, eq-eqb}
use Rattle.sqlite.proofs.Callers.{IsPlain, command_of, statement_of, runs_as, one_step}
use Rattle.sql_schema.specs.Tables.{meta, records2, currents2, vectors, no_schema, with_meta, with_records, with_currents, archive_schema}
use Rattle.sql_schema.proofs.StandingLemmas.{archive_as}
use Rattle.sql_tables.specs.Words.{columns_of, cells, cells_of}
use Rattle.sql_tables.proofs.Texts.{insert_text, fill_text, meta_text, records_text, currents_text, vectors_text, meta_is, records_is, currents_is, vectors_is}

-- a part that gave a value did not stop on the way
pub went : {B E R : Type 0} {b : B} {Stops : E → Type 0}
    → ((stop : E) × Stops stop × (Ok b ≡ Err stop)) ⊎ R → R
went (inl stopped) = absurd (let e = stopped.2 in cc)
went (inr on) = on

pub same_value : {B E : Type 0} {a b : B} → ◌≡◌ {A = Result B E} (Ok a) (Ok b) → a ≡ b
same_value e = cc

pub apart_by : (m n : ℕ) → nat_eq m n ≡ false → m ≢ n
apart_by m n differ e = absurd (true≢false (sym (eq-eqb m n e) ∙ differ))

-- CREATE TABLE, whatever the schema and the text are
pub creates : (schema : Schema) (text : List ℕ) (table : Table)
    → command_of (understood schema text) ≡ CreateTable
    → statement_of text (understood schema text) ≡ text → IsPlain (understood schema text)
    → table_defined_by text ≡ Ok table → lacks_sequence (created schema table) ≡ false
    → (old new : State) (count : ℕ) → old.now.schema ≡ schema → Executes text [] old new (Ok count)
    → (new.now.schema ≡ created schema table) × (new.now.trees (next_tree schema) ≡ [])
    × KeepsRows schema.tables old.now.trees new.now.trees
creates schema text table command statement plain defined whole old new count has h =
    let w = subst (λ t. Writes old new None CreateTable t [] count) statement
    (runs_as text [] old new schema has CreateTable command plain count h) in
    let all = went w.changed in
    let first = went all.1 in
    let made = first.1 in
    let both : Ok made.table ≡ Ok table = sym made.defined ∙ defined in
    let same : made.table ≡ table = cc in
    let is : first.0.schema ≡ created schema table =
    made.is ∙ ap (λ s. created s made.table) has ∙ ap (created schema) same in
    let plainly : lacks_sequence first.0.schema ≡ false = ap lacks_sequence is ∙ whole in
    let now : new.now ≡ first.0 = ap (λ (p : Tally × Database). p.1) (same_value all.2)
    ∙ same_value (rw plainly at first.2) in (
      ap (λ (d : Database). d.schema) now ∙ is,
      ap (λ (d : Database). d.trees (next_tree schema)) now
          ∙ subst (λ s. first.0.trees (next_tree s) ≡ []) has made.empty,
      subst (λ t. KeepsRows schema.tables old.now.trees t)
          (sym (ap (λ (d : Database). d.trees) now))
          (subst (λ (s : Schema). KeepsRows s.tables old.now.trees first.0.trees) has made.others),
    )

inside_says : (schema next : Schema) (table : ℕ) (old new : State) → IsTrue old.in_transaction
    → (new.now.schema ≡ next) → (new.now.trees table ≡ [])
    → Shows old new new.now old.committed true → Makes old new next table
inside_says schema next table old new inside has empty shown =
    record {
      making = record { inside = shown.mode; has = has };
      empty = empty;
      committed =
          shown.committed_is;
    }

create_meta : (command_of (understood no_schema meta_text) ≡ CreateTable)
    × (statement_of meta_text (understood no_schema meta_text) ≡ meta_text)
    × IsPlain (understood no_schema meta_text)
unfolding understood everything
create_meta = (refl, refl, (refl, refl))

create_records : (command_of (understood with_meta records_text) ≡ CreateTable)
    × (statement_of records_text (understood with_meta records_text) ≡ records_text)
    × IsPlain (understood with_meta records_text)
unfolding understood everything
create_records = (refl, refl, (refl, refl))

pub makes_meta : (old new : State) (r : Result ℕ Error) → Making no_schema old
    → ExecutesInside 0 meta_text [] old new r → OnOk r (Makes old new with_meta 0)
makes_meta old new (Err e) was h = tt
makes_meta old new (Ok count) was h =
    let all = creates no_schema meta_text meta create_meta.0 create_meta.1 create_meta.2 meta_is
    refl old new count was.has h.0 in
    inside_says no_schema with_meta 0 old new was.inside all.0 all.1 h.1

pub makes_records : (old new : State) (r : Result ℕ Error) → Making with_meta old
    → ExecutesInside 0 records_text [] old new r
    → OnOk r (Makes old new with_records 1 × (new.now.trees 0 ≡ old.now.trees 0))
makes_records old new (Err e) was h = tt
makes_records old new (Ok count) was h =
    let all = creates with_meta records_text
    records2 create_records.0 create_records.1 create_records.2
    records_is refl old new count was.has h.0 in
    (inside_says with_meta with_records 1 old new was.inside all.0 all.1 h.1, all.2.0)

create_currents : (command_of (understood with_records currents_text) ≡ CreateTable)
    × (statement_of currents_text (understood with_records currents_text) ≡ currents_text)
    × IsPlain (understood with_records currents_text)
unfolding understood everything
create_currents = (refl, refl, (refl, refl))

create_vectors : (command_of (understood with_currents vectors_text) ≡ CreateTable)
    × (statement_of vectors_text (understood with_currents vectors_text) ≡ vectors_text)
    × IsPlain (understood with_currents vectors_text)
unfolding understood everything
create_vectors = (refl, refl, (refl, refl))

pub makes_currents : (old new : State) (r : Result ℕ Error) → Making with_records old
    → ExecutesInside 0 currents_text [] old new r
    → OnOk r (Makes old new with_currents 4 × KeepsFirst old.now.trees new.now.trees)
makes_currents old new (Err e) was h = tt
makes_currents old new (Ok count) was h =
    let all = creates with_records currents_text currents2 create_currents.0 create_currents.1
    create_currents.2 currents_is refl old new count was.has h.0 in (
      inside_says with_records with_currents 4 old new was.inside all.0 all.1 h.1,
      record { meta = all.2.0; records = all.2.1.0 },
    )

pub makes_vectors : (old new : State) (r : Result ℕ Error) → Making with_currents old
    → ExecutesInside 0 vectors_text [] old new r
    → OnOk r (Makes old new (archive_schema false) 6 × KeepsFirst old.now.trees new.now.trees
    × (new.now.trees 4 ≡ old.now.trees 4))
makes_vectors old new (Err e) was h = tt
makes_vectors old new (Ok count) was h =
    let all = creates with_currents vectors_text vectors create_vectors.0 create_vectors.1
    create_vectors.2 vectors_is refl old new count was.has h.0 in (
      inside_says with_currents (archive_schema false) 6 old new was.inside all.0 all.1 h.1,
      record { meta = all.2.0; records = all.2.1.0 },
      all.2.1.1.0,
    )

abbrev pub terms : List Term
terms = lit Null ∷ col 0 0 ∷ col 0 1 ∷ col 0 2 ∷ col 0 3 ∷ col 0 4 ∷ col 0 5 ∷ col 0 6 ∷ col 0 7
    ∷ col 0 8 ∷ []

insert_is : (indexed : Bool) → command_of (understood (archive_schema indexed) insert_text)
    ≡ Insert 1 (Values terms 10)
unfolding understood everything
insert_is indexed = refl

insert_plain : (indexed : Bool) → IsPlain (understood (archive_schema indexed) insert_text)
unfolding understood everything
insert_plain indexed = (refl, refl)

either : (b : Bool) (x : Value) → cond b x x ≡ x
either true x = refl
either false x = refl

cast_null : cast Integer Null ≡ Null
unfolding unary
cast_null = either _ Null

pub cast_int : (n : ℤ) → cast Integer (Int n) ≡ Int n
unfolding unary
cast_int n = either _ (Int n)

pub shuffled_in : (new : Row) (rows : List Row) → is_taken rows new ≡ false
    → IsPermutation (new ∷ rows) (put_row new rows)
shuffled_in new [] free = IsPermutation-refl (new ∷ [])
shuffled_in new (r ∷ rows) free = go (value_cmp (rowid r) (rowid new)) refl
    (λ later. shuffled_in new rows later)
  where
    go : (o : Ordering) → value_cmp (rowid r) (rowid new) ≡ o
        → (is_taken rows new ≡ false → IsPermutation (new ∷ rows) (put_row new rows))
        → IsPermutation (new ∷ r ∷ rows) (match_ordering o (r ∷ put_row new rows) (new ∷ rows)
        (new ∷ r ∷ rows))
    go Less is on =
        IsPermutation-trans (new ∷ r ∷ rows) (r ∷ new ∷ rows) (r ∷ put_row new rows)
        (IsPermutation-sym (r ∷ new ∷ rows) (new ∷ r ∷ rows)
        (IsPermutation-middle (r ∷ []) new rows))
        (IsPermutation-cons r (new ∷ rows) (put_row new rows) (on (rw is at free)))
    go Equal is on = absurd (let e = rw is at free in cc)
    go Greater is on = IsPermutation-refl (new ∷ r ∷ rows)

pub not_true : (b : Bool) → not b ≡ true → b ≡ false
not_true false is = refl
not_true true is = absurd (let e = is in cc)

-- the table as the schema has it
abbrev made_records : Table
made_records = record records2 { tree = 1 }

not_taken : (rows : List Row) (new : Row) → are_fresh rows (new ∷ []) ≡ true
    → is_taken rows new ≡ false
not_taken rows new fresh = go (is_taken rows new) fresh
  where
    go : (b : Bool) → (not b && true) ≡ true → b ≡ false
    go false is = refl
    go true is = absurd (let e = is in cc)

module _ (origin number tick : ℤ) (node : List ℕ) (time pico asked : ℤ) (who value : List ℕ) where
  abbrev row : Row
  row = cells_of origin number tick node time pico asked who value

  -- what the insert makes of a database
  pub does_add : (indexed : Bool) (old : State) (tally : Tally) (after : Database)
      → old.now.schema ≡ archive_schema indexed
      → Does old.step_limit (mode_of old) row old.now
      (statement_of insert_text (understood (archive_schema indexed) insert_text)) None
      (Insert 1 (Values terms 10)) (Ok (tally, after))
      → (after.schema ≡ archive_schema indexed) × AddsRecord row old.now.trees after.trees
  does_add indexed old tally after has changed =
      let db = old.now.trees in
      let text = statement_of insert_text (understood (archive_schema indexed) insert_text) in
      let done = went (subst (λ s.
      Does old.step_limit (mode_of old) row (record old.now { schema = s }) text None
      (Insert 1 (Values terms 10)) (Ok (tally, after))) has changed) in
      let now = ap (λ (p : Tally × Database). p.1) (same_value (went (went done.2).2).2) in
      let given = went done.1 in
      let written = went (went given.2).2 in
      let counted = went written.2 in
      let trees : done.0.trees ≡ written.0 =
      ap (λ (it : Written). it.trees) (same_value counted.2) ∙ same_value counted.1 in
      let applied = one_step (archive_schema indexed) _ db written.0
      (edit_of db made_records [] Chosen 0 given.0) refl written.1 in
      let news : numbered Chosen (db 1) (map (λ s. cast_row made_records (drop 0 s)) given.0)
      ≡ with_rowid Chosen (db 1) (Null ∷ row) ∷ [] =
      ap (λ all. numbered Chosen (db 1) (map (λ s. cast_row made_records (drop 0 s)) all)) given.1.1
      ∙ rw (
        cast_null,
        cast_int origin,
        cast_int number,
        cast_int tick,
        cast_int time,
        cast_int pico,
        cast_int asked,
      ) in
      let free = subst (λ xs. are_fresh (db 1) xs ≡ true) news applied.fresh in
      let rows : written.0 1 ≡ put_row (with_rowid Chosen (db 1) (Null ∷ row)) (db 1) =
      applied.rows ∙ ap (put_all (db 1)) news in
      let same : after.trees ≡ written.0 = ap (λ (d : Database). d.trees) now ∙ trees in
      let apart : 0 ≢ 1 = λ e. absurd (omega (arith, e)) in
      let mixed = IsPermutation-map columns_of _ _
      (shuffled_in (with_rowid Chosen (db 1) (Null ∷ row)) (db 1)
      (not_taken (db 1) (with_rowid Chosen (db 1) (Null ∷ row)) free)) in (
        ap (λ (d : Database). d.schema) now,
        record {
          records = subst (λ rs. IsPermutation (row ∷ cells (db 1)) (cells rs))
              (sym (ap (λ (t : Trees). t 1) same ∙ rows)) mixed;
          meta = ap (λ (t : Trees). t 0) same ∙ applied.tables.0 apart;
          currents = ap (λ (t : Trees). t 4) same ∙ applied.tables.1.1.0 (apart_by 4 1 refl);
          vectors = ap (λ (t : Trees). t 6) same ∙ applied.tables.1.1.1.0 (apart_by 6 1 refl);
        },
      )

  pub adds : (old new : State) (r : Result ℕ Error) → MakingArchive old
      → ExecutesInside 0 insert_text row old new r
      → OnOk r (MakingArchive new × (new.now.schema ≡ old.now.schema)
      × (new.committed ≡ old.committed)
      × AddsRecord row old.now.trees new.now.trees)
  adds old new (Err e) was h = tt
  adds old new (Ok count) was h =
      let is = was.has in
      let w = runs_as insert_text row old new (archive_schema is.0) is.1
      (Insert 1 (Values terms 10)) (insert_is is.0) (insert_plain is.0) count h.0 in
      let all = does_add is.0 old w.tally new.now is.1 w.changed in (
        record { inside = h.1.mode; has = (is.0, all.0) },
        all.0 ∙ sym is.1,
        h.1.committed_is,
        all.1,
      )

abbrev meta_terms : List Term
meta_terms = lit (Int (pos 1)) ∷ lit Null ∷ lit (Int (pos 2)) ∷ col 0 0 ∷ col 0 1 ∷ []

fill_is : command_of (understood (archive_schema false) fill_text) ≡ Insert 0 (Values meta_terms 5)
unfolding understood everything
fill_is = refl

fill_plain : IsPlain (understood (archive_schema false) fill_text)
unfolding understood everything
fill_plain = (refl, refl)

pub fills_meta : (name : List ℕ) (replica : ℤ) (old new : State) (r : Result ℕ Error)
    → Making (archive_schema false) old → AreEmpty old.now.trees
    → ExecutesInside 0 fill_text (Blob name ∷ Int replica ∷ []) old new r
    → OnOk r (Making (archive_schema false) new × IsNewArchive name replica new.now.trees
    × (new.committed ≡ old.committed))
fills_meta name replica old new (Err e) was empty h = tt
fills_meta name replica old new (Ok count) was empty h =
    let params = Blob name ∷ Int replica ∷ [] in
    let db = old.now.trees in
    let command = Insert 0 (Values meta_terms 5) in
    let w = runs_as fill_text params old new
    (archive_schema false) was.has command fill_is fill_plain count
    h.0 in
    let text = statement_of fill_text (understood (archive_schema false) fill_text) in
    let done = went (subst (λ s. Does old.step_limit (mode_of old) params
    (record old.now { schema = s }) text None command (Ok (w.tally, new.now))) was.has
    w.changed) in
    let now = ap (λ (p : Tally × Database). p.1) (same_value (went (went done.2).2).2) in
    let given = went done.1 in
    let written = went (went given.2).2 in
    let counted = went written.2 in
    let trees : done.0.trees ≡ written.0 =
    ap (λ (it : Written). it.trees) (same_value counted.2) ∙ same_value counted.1 in
    let applied = one_step (archive_schema false) _ db written.0
    (edit_of db meta [] Chosen 0 given.0) refl written.1 in
    let news : numbered Chosen (db 0) (map (λ s. cast_row meta (drop 0 s)) given.0)
    ≡ (Int (pos 1) ∷ Null ∷ Int (pos 2) ∷ Blob name ∷ Int replica ∷ []) ∷ [] =
    ap (λ all. numbered Chosen (db 0) (map (λ s. cast_row meta (drop 0 s)) all)) given.1.1
    ∙ rw (cast_null, cast_int (pos 1), cast_int (pos 2), cast_int replica) in
    let rows : written.0 0 ≡ (Int (pos 1) ∷ Null ∷ Int (pos 2) ∷ Blob name ∷ Int replica ∷ [])
    ∷ [] = applied.rows ∙ ap (put_all (db 0)) news ∙ rw empty.meta in
    let same : new.now.trees ≡ written.0 = ap (λ (d : Database). d.trees) now ∙ trees in (
      record { inside = h.1.mode; has = ap (λ (d : Database). d.schema) now },
      record {
        meta = ap (λ (t : Trees). t 0) same ∙ rows;
        records =
            ap (λ (t : Trees). t 1) same ∙ applied.tables.1.0 (apart_by 1 0 refl) ∙ empty.records;
        currents = ap (λ (t : Trees). t 4) same ∙ applied.tables.1.1.0 (apart_by 4 0 refl)
            ∙ empty.currents;
        vectors =
            ap (λ (t : Trees). t 6) same ∙ applied.tables.1.1.1.0 (apart_by 6 0 refl)
            ∙ empty.vectors;
        lists = subst (Lists (new.now.trees catalog_tree))
            (ap (λ (d : Database). d.schema) now) w.sound.lists;
      },
      h.1.committed_is,
    )

pub holds_as : (old new : State) → IsOpenAndIdle old → IsUnchanged old new → Holds old new
holds_as old new was (shown, counts, marks) =
    record {
      rests = record {
        is_open = shown.is_open;
        autocommit =
            shown.mode ∙ was.autocommit;
        settled = shown.committed_is ∙ was.settled ∙ sym shown.now_is;
      };
      same = shown.now_is;
    }

holds_after : (old new : State) → IsOpenAndIdle old → IsTrue new.is_open → IsRolledBack old new
    → Holds old new
holds_after old new was is_open back =
    let both = back.undone is_open in record {
      rests =
          record { is_open = is_open; autocommit = back.autocommit; settled = both.1 ∙ sym both.0 };
      same = both.0 ∙ was.settled;
    }

-- what a query that fails leaves
pub fails_query : (sql : List ℕ) (params : Row) (old new : State) (e : Error)
    → IsPlain (understood old.now.schema sql) → IsOpenAndIdle old → IsTrue new.is_open
    → FailsToQuery sql params old new e → Holds old new
unfolding FailsToQuery IsNotRun
fails_query sql params old new e plain was is_open (inl (inl kept)) = holds_as old new was kept.1
fails_query sql params old new e plain was is_open (inl (inr failed)) =
    holds_after old new was is_open failed.3
fails_query sql params old new e plain was is_open (inr h) =
    let none = (subst IsPlain h.1.is plain).0 in
    let shown = subst (FailsToShow old new sql h.0 (timed params h.0.formats h.1.now) e) none h.2 in
    holds_as old new was shown.3

-- what a transaction that failed leaves
pub stays_behind : (a b c : State) → Idles a → IsOpenAndIdle b → b.now ≡ a.committed
    → IsUnchanged b c → KeepsState a c
stays_behind a b c was rests back same =
    let h = holds_as b c rests same in
    let all : c.now ≡ a.now = h.same ∙ back ∙ was.settled in
    record {
      idles = record {
        is_open = h.rests.is_open;
        autocommit = h.rests.autocommit;
        settled =
            h.rests.settled;
        tables = archive_as (ap (λ (d : Database). d.schema) all) was.tables;
      };
      same = all;
    }

-- inside a transaction the last commit stays
pub keeps_commit : (sql : List ℕ) (params : Row) (old new : State) (r : Result ℕ Error)
    → ExecutesInside 0 sql params old new r → KeepsCommit old new
keeps_commit sql params old new (Ok count) h =
    record { was_open = λ _. h.1.was_open; committed = λ _. h.1.committed_is }
keeps_commit sql params old new (Err e) (inl (_, inl kept)) =
    record { was_open = λ _. kept.0.was_open; committed = λ _. kept.0.committed_is }
keeps_commit sql params old new (Err e) (inl (_, inr back)) =
    record { was_open = back.was_open; committed = λ is_open. (back.undone is_open).1 }
keeps_commit sql params old new (Err e) (inr ended) = let kept = ended.2 in
    record { was_open = λ _. kept.0.was_open; committed = λ _. kept.0.committed_is }

-- what a crash leaves of a transaction whose commit failed: what it left before, or all of it
pub crash_behind : {S : Type 0} (g : Ghosts S) (conn : Held S) (written ended : State)
    (P : Trees → Type 0)
    → Survives (state g (record conn { in_transaction = true })) written (λ _. ⊥)
    → Survives written ended (λ db. db ≡ written.now.trees)
    → (HasCleanDisk written → P written.now.trees) → Survives (state g conn) ended P
crash_behind g conn written ended P begun ends made =
    survives_then (state g conn) written ended _ _ _ (λ clean db none. absurd none)
    (λ clean db is. subst P (sym is) (made (omega (arith, ends.clean, clean)))) (record {
      clean = begun.clean;
      shield = begun.shield;
      counts = begun.counts;
      limit = begun.limit;
      closes = begun.closes;
      crash = begun.crash;
    }) ends
