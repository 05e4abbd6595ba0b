-- Which texts SQLite answers, and why a query of such a text fails.
use Rattle.std.proofs.Common.{◌≡◌, ◌≢◌, ◌≤◌, ◌⊎◌, inl, inr, ℕ, ℤ, nat_eq, nat_le, Bool, true, false, ◌&&◌, List, [], ◌∷◌, length, map, Option, Some, None, IsSome, Result, Ok, Err, IsTrue, refl, sym, ap, subst, ◌∙◌, append-nil}
use Rattle.std.proofs.lemmas.Bool.{true≢false, and_parts, eqb-true, leb-true}
use Rattle.sqlite_disk.specs.Disk.{MoreFaults}
use Rattle.sqlite_value.specs.Order.{Row}
use Rattle.sqlite_trees.specs.declared.error.StoreError.{StoreError}
use Rattle.sqlite_trees.specs.declared.error.StoreError.TheVariants as store
use Rattle.sqlite_trees.specs.Tree.{Trees}
use Rattle.sqlite_sql.specs.Query.{Query, has_no_fold}
use Rattle.sqlite_sql.specs.Term.{Env}
use Rattle.sqlite_sql.specs.Group.{Grouping, Overflows}
use Rattle.sqlite_sql.specs.Program.{ProgramOverflows, overlay}
use Rattle.sqlite_sql.proofs.QueryLemmas.{no_fold_overflows}
use Rattle.sqlite_schema.specs.declared.schema.Schema.{Schema}
use Rattle.sqlite_schema.specs.declared.program.Table.{Table}
use Rattle.sqlite_schema.specs.declared.command.Command.{Command}
use Rattle.sqlite_schema.specs.declared.command.Command.TheVariants.{Select}
use Rattle.sqlite_schema.specs.Program.{let_in, lets_of}
use Rattle.sqlite_typing.specs.Types.{accepts_program}
use Rattle.sqlite_resolve.specs.declared.compiled.Compiled.{Compiled}
use Rattle.sqlite_resolve.specs.declared.error.CompileError.{CompileError}
use Rattle.sqlite_tied.specs.Compute.{everything}
use Rattle.sqlite.specs.declared.error.Error.{Error}
use Rattle.sqlite.specs.declared.error.Error.TheVariants.{SqliteFailure, MultipleStatement, InvalidParameterCount}
use Rattle.sqlite.specs.declared.error.ErrorCode.TheVariants as code
use Rattle.sqlite.specs.Clock.{timed}
use Rattle.sqlite.specs.Effect.{Database, RefusesToRead}
use Rattle.sqlite.specs.Given.{IsPlain}
use Rattle.sqlite.specs.Listing.{understood, reads_listing, IsSourceOf}
use Rattle.sqlite.specs.State.{State, FailsToQuery, FailsToShow, IsNotRun, IsNoStatement, HasCause, store_error}
use Rattle.sqlite_value.specs.declared.value.Value.TheVariants.{Int, Blob}
use Rattle.sqlite_schema.specs.declared.schema.Table.{Table as Stored}
use Rattle.sqlite_schema.specs.declared.schema.Index.{Index}
use Rattle.sqlite_schema.specs.declared.schema.View.{View}
use Rattle.sql_schema.specs.Tables.{archive_schema, IsArchiveSchema, schema1, first_table, HasMeta}
use Rattle.sql_tables.specs.Asking.{IsAnswered, ArchivesAnswer}
use Rattle.sql_tables.proofs.Texts.{at_text, all_text, whose_text, named_text, last_text, since_text, after_text, before_text, some_at_text, currents_stray_text, currents_alone_text, currents_hide_text, currents_held_text, vectors_stray_text, vectors_held_text, lives_after_text, lives_before_text, records1_text, currents1_text, all_vectors_text}

abbrev pub has_no_table : List Table → Bool
has_no_table [] = true
has_no_table (t ∷ ts) = false

abbrev pub has_no_group : Option Grouping → Bool
has_no_group None = true
has_no_group (Some g) = false

-- a query of one part, which sums nothing, and whose parameters are of the kinds that it takes
abbrev pub is_safe : Schema → Row → Command → Bool
is_safe schema params (Select q names) =
    has_no_table q.lets
    && (has_no_group q.body.group
    && (has_no_fold q.body.from && accepts_program schema (lets_of q) q.body params))
is_safe schema params _ = false

abbrev pub Suits : Schema → List ℕ → Row → Result Compiled CompileError → Type 0
Suits schema sql params (Ok c) =
    IsPlain (Ok c) × (nat_le (length sql) c.tail ≡ true)
    × (nat_eq (length params) (length c.names) ≡ true) × (is_safe schema params c.command ≡ true)
Suits schema sql params (Err e) = ⊥

none_grouped : (g : Option Grouping) (all : List Env) → has_no_group g ≡ true → Overflows g all → ⊥
none_grouped None all e h = h
none_grouped (Some g) all e h = absurd (true≢false (sym e))

no_overflow : (db : Trees) (params : Row) (lets : List Table) (q : Query)
    → has_no_table lets ≡ true → has_no_group q.group ≡ true → has_no_fold q.from ≡ true
    → ProgramOverflows db params [] (map let_in lets) q → ⊥
no_overflow db params [] q bare alone plain (inl over) = none_grouped q.group _ alone over
no_overflow db params [] q bare alone plain (inr over) =
    no_fold_overflows (overlay db []) q.from (params ∷ []) plain over
no_overflow db params (t ∷ ts) q bare alone plain over = absurd (true≢false (sym bare))

safe_limited : (schema : Schema) (params : Row) (c : Command) → is_safe schema params c ≡ true
    → (limit : Option ℕ) (db : Database) (e : Error) → db.schema ≡ schema
    → RefusesToRead limit c db params e → IsSome limit
safe_limited schema params (Select q names) safe limit db e same (inl mistyped) =
    let parts = and_parts (has_no_table q.lets) _ safe in
    let more = and_parts (has_no_group q.body.group) _ parts.1 in
    let typed = (and_parts (has_no_fold q.body.from) _ more.1).1 in
    absurd (true≢false (sym typed
    ∙ subst (λ s. accepts_program s (lets_of q) q.body params ≡ false) same mistyped.1))
safe_limited schema params (Select q names) safe limit db e same (inr (inl over)) =
    let parts = and_parts (has_no_table q.lets) _ safe in
    let more = and_parts (has_no_group q.body.group) _ parts.1 in
    absurd (no_overflow db.trees params q.lets q.body parts.0 more.0
    (and_parts (has_no_fold q.body.from) _ more.1).0 over.1)
safe_limited schema params (Select q names) safe limit db e same (inr (inr stopped)) = stopped.1
safe_limited schema params _ safe limit db e same h = absurd (true≢false (sym safe))

pub answered_by : (schema : Schema) (sql : List ℕ) (params : Row)
    → reads_listing schema sql ≡ false → Suits schema sql params (understood schema sql)
    → IsAnswered schema sql params
answered_by schema sql params unlisted suits = go (understood schema sql) refl suits
  where
    go : (r : Result Compiled CompileError) → understood schema sql ≡ r
        → Suits schema sql params r → IsAnswered schema sql params
    go (Ok c) is h = record {
      query = c;
      is = is;
      plain = h.0;
      whole = leb-true _ _ h.1;
      given = eqb-true _ _ h.2;
      unlisted = unlisted;
      limited = safe_limited schema params c.command h.3;
    }
    go (Err e) is h = absurd h

-- ---- why a query fails

none_fits : (s : State) (sql : List ℕ) (params : Row) (e : Error)
    → IsAnswered s.now.schema sql params → IsNoStatement s sql params e → ⊥
none_fits s sql params e a (inl (fault, is, told)) =
    let bad : ◌≡◌ {A = Result Compiled CompileError} (Ok a.query) (Err fault) =
    sym a.is ∙ is in cc
none_fits s sql params e a (inr (c, is, why)) = go why
  where
    same : a.query ≡ c
    same = let both : ◌≡◌ {A = Result Compiled CompileError} (Ok a.query) (Ok c) =
        sym a.is ∙ is in cc

    go : ((¬ (length sql ≤ c.tail)) × (e ≡ MultipleStatement))
        ⊎ (((length params ≢ length c.names)
        × (e ≡ InvalidParameterCount (length params) (length c.names)))
        ⊎ ((c.formats ≢ []) × (e ≡ SqliteFailure code.NoClock))) → ⊥
    go (inl more) = more.0 (subst (λ (k : Compiled). length sql ≤ k.tail) same a.whole)
    go (inr (inl few)) =
        few.0 (subst (λ (k : Compiled). length params ≡ length k.names) same a.given)
    go (inr (inr timed)) = timed.0 (subst (λ (k : Compiled). k.formats ≡ []) same a.plain.1)

by_cause : (old new : State) (e : Error) (cause : StoreError) → IsTrue old.is_open
    → (e ≡ SqliteFailure code.OutOfMemory → ⊥) → e ≡ store_error cause
    → HasCause old new ⊥ cause → MoreFaults old.faults new.faults
by_cause old new e store.OutOfMemory live some is why = absurd (some is)
by_cause old new e store.Io live some is why = why
by_cause old new e store.Corrupt live some is why = why
by_cause old new e store.Full live some is why = why
by_cause old new e store.Broken live some is why = absurd (let shut = why in cc)
by_cause old new e store.Unstorable live some is why = absurd why

-- a text that SQLite answers fails for want of memory, or by its disk, or by a limit on steps
pub query_stops : (sql : List ℕ) (params : Row) (old new : State) (e : Error)
    → IsAnswered old.now.schema sql params → IsTrue old.is_open
    → (e ≡ SqliteFailure code.OutOfMemory → ⊥) → FailsToQuery sql params old new e
    → MoreFaults old.faults new.faults ⊎ IsSome old.step_limit
unfolding FailsToQuery IsNotRun
query_stops sql params old new e a live some (inl (inl kept)) =
    absurd (none_fits old sql params e a kept.0)
query_stops sql params old new e a live some (inl (inr failed)) =
    inl (by_cause old new e failed.0 live some failed.1 failed.2)
query_stops sql params old new e a live some (inr h) =
    let same : h.0 ≡ a.query = let both : ◌≡◌ {A = Result Compiled CompileError} (Ok h.0)
    (Ok a.query) = sym h.1.is ∙ a.is in cc in
    let shown = subst (λ (k : Compiled). FailsToShow old new sql k (timed params k.formats h.1.now)
    e
    k.returning) same h.2 in
    let plainly = rw (a.plain.0, a.plain.1, append-nil params) at shown in
    let db : plainly.0.schema ≡ old.now.schema = ap (λ (d : Database). d.schema) (subst (λ b.
    IsSourceOf b old.now plainly.0) a.unlisted
    plainly.1) in
    inr (a.limited old.step_limit plainly.0 e db plainly.2)

pub answered_plain : (schema : Schema) (sql : List ℕ) (params : Row) → IsAnswered schema sql params
    → IsPlain (understood schema sql)
answered_plain schema sql params a = subst IsPlain (sym a.is) a.plain

-- ---- the texts

-- a text that archives answer is answered over such a schema
pub answered_in : (schema : Schema) (sql : List ℕ) (params : Row) → IsArchiveSchema schema
    → ArchivesAnswer sql params → IsAnswered schema sql params
answered_in schema sql params has answer =
    subst (λ x. IsAnswered x sql params) (sym has.1) (answer has.0)

abbrev MayAsk : Schema → List ℕ → Row → Type 0
MayAsk schema sql params =
    (reads_listing schema sql ≡ false) × Suits schema sql params (understood schema sql)

at_suits : (indexed : Bool) (node : List ℕ) (time pico : ℤ)
    → MayAsk (archive_schema indexed) at_text (Blob node ∷ Int time ∷ Int pico ∷ [])
unfolding understood everything
at_suits indexed node time pico = (refl, ((refl, refl), refl, refl, refl))

pub at_answered : (node : List ℕ) (time pico : ℤ)
    → ArchivesAnswer at_text (Blob node ∷ Int time ∷ Int pico ∷ [])
at_answered node time pico = λ indexed.
    let s = at_suits indexed node time pico in
    answered_by (archive_schema indexed) at_text _ s.0 s.1

some_at_suits : (indexed : Bool) (node : List ℕ) (time pico : ℤ)
    → MayAsk (archive_schema indexed) some_at_text (Blob node ∷ Int time ∷ Int pico ∷ [])
unfolding understood everything
some_at_suits indexed node time pico = (refl, ((refl, refl), refl, refl, refl))

pub some_at_answered : (node : List ℕ) (time pico : ℤ)
    → ArchivesAnswer some_at_text (Blob node ∷ Int time ∷ Int pico ∷ [])
some_at_answered node time pico = λ indexed.
    let s = some_at_suits indexed node time pico in
    answered_by (archive_schema indexed) some_at_text _ s.0 s.1

after_suits : (indexed : Bool) (node : List ℕ) (time pico count : ℤ)
    → MayAsk (archive_schema indexed) after_text (Blob node ∷ Int time ∷ Int pico ∷ Int count ∷ [])
unfolding understood everything
after_suits indexed node time pico count = (refl, ((refl, refl), refl, refl, refl))

pub after_answered : (node : List ℕ) (time pico count : ℤ)
    → ArchivesAnswer after_text (Blob node ∷ Int time ∷ Int pico ∷ Int count ∷ [])
after_answered node time pico count = λ indexed.
    let s = after_suits indexed node time pico count in
    answered_by (archive_schema indexed) after_text _ s.0 s.1

before_suits : (indexed : Bool) (node : List ℕ) (time pico count : ℤ)
    → MayAsk (archive_schema indexed) before_text (Blob node ∷ Int time ∷ Int pico ∷ Int count ∷ [])
unfolding understood everything
before_suits indexed node time pico count = (refl, ((refl, refl), refl, refl, refl))

pub before_answered : (node : List ℕ) (time pico count : ℤ)
    → ArchivesAnswer before_text (Blob node ∷ Int time ∷ Int pico ∷ Int count ∷ [])
before_answered node time pico count = λ indexed.
    let s = before_suits indexed node time pico count in
    answered_by (archive_schema indexed) before_text _ s.0 s.1

named_suits : (indexed : Bool) (origin number : ℤ)
    → MayAsk (archive_schema indexed) named_text (Int origin ∷ Int number ∷ [])
unfolding understood everything
named_suits indexed origin number = (refl, ((refl, refl), refl, refl, refl))

pub named_answered : (origin number : ℤ)
    → ArchivesAnswer named_text (Int origin ∷ Int number ∷ [])
named_answered origin number = λ indexed.
    let s = named_suits indexed origin number in
    answered_by (archive_schema indexed) named_text _ s.0 s.1

last_suits : (indexed : Bool) (origin : ℤ)
    → MayAsk (archive_schema indexed) last_text (Int origin ∷ [])
unfolding understood everything
last_suits indexed origin = (refl, ((refl, refl), refl, refl, refl))

pub last_answered : (origin : ℤ) → ArchivesAnswer last_text (Int origin ∷ [])
last_answered origin = λ indexed.
    let s = last_suits indexed origin in answered_by (archive_schema indexed) last_text _ s.0 s.1

since_suits : (indexed : Bool) (origin number count : ℤ)
    → MayAsk (archive_schema indexed) since_text (Int origin ∷ Int number ∷ Int count ∷ [])
unfolding understood everything
since_suits indexed origin number count = (refl, ((refl, refl), refl, refl, refl))

pub since_answered : (origin number count : ℤ)
    → ArchivesAnswer since_text (Int origin ∷ Int number ∷ Int count ∷ [])
since_answered origin number count = λ indexed.
    let s = since_suits indexed origin number count in
    answered_by (archive_schema indexed) since_text _ s.0 s.1

lives_after_suits : (indexed : Bool) (node : List ℕ) (time pico far far_pico count : ℤ)
    → MayAsk (archive_schema indexed) lives_after_text (Blob node ∷ Int time ∷ Int pico ∷ Int far
    ∷ Int far_pico ∷ Int count ∷ [])
unfolding understood everything
lives_after_suits indexed node time pico far far_pico count =
    (refl, ((refl, refl), refl, refl, refl))

pub lives_after_answered : (node : List ℕ) (time pico far far_pico count : ℤ)
    → ArchivesAnswer lives_after_text (Blob node ∷ Int time ∷ Int pico ∷ Int far
    ∷ Int far_pico ∷ Int count ∷ [])
lives_after_answered node time pico far far_pico count = λ indexed.
    let s = lives_after_suits indexed node time pico far far_pico count in
    answered_by (archive_schema indexed) lives_after_text _ s.0 s.1

lives_before_suits : (indexed : Bool) (node : List ℕ) (time pico far far_pico count : ℤ)
    → MayAsk (archive_schema indexed) lives_before_text (Blob node ∷ Int time ∷ Int pico ∷ Int far
    ∷ Int far_pico ∷ Int count ∷ [])
unfolding understood everything
lives_before_suits indexed node time pico far far_pico count =
    (refl, ((refl, refl), refl, refl, refl))

pub lives_before_answered : (node : List ℕ) (time pico far far_pico count : ℤ)
    → ArchivesAnswer lives_before_text (Blob node ∷ Int time ∷ Int pico ∷ Int far
    ∷ Int far_pico ∷ Int count ∷ [])
lives_before_answered node time pico far far_pico count = λ indexed.
    let s = lives_before_suits indexed node time pico far far_pico count in
    answered_by (archive_schema indexed) lives_before_text _ s.0 s.1

all_suits : (indexed : Bool) → MayAsk (archive_schema indexed) all_text []
unfolding understood everything
all_suits indexed = (refl, ((refl, refl), refl, refl, refl))

pub all_answered : ArchivesAnswer all_text []
all_answered = λ indexed.
    let s = all_suits indexed in answered_by (archive_schema indexed) all_text _ s.0 s.1

currents_stray_suits : (indexed : Bool) → MayAsk (archive_schema indexed) currents_stray_text []
unfolding understood everything
currents_stray_suits indexed = (refl, ((refl, refl), refl, refl, refl))

pub currents_stray_answered : ArchivesAnswer currents_stray_text []
currents_stray_answered = λ indexed.
    let s = currents_stray_suits indexed in
    answered_by (archive_schema indexed) currents_stray_text _ s.0 s.1

currents_alone_suits : (indexed : Bool) → MayAsk (archive_schema indexed) currents_alone_text []
unfolding understood everything
currents_alone_suits indexed = (refl, ((refl, refl), refl, refl, refl))

pub currents_alone_answered : ArchivesAnswer currents_alone_text []
currents_alone_answered = λ indexed.
    let s = currents_alone_suits indexed in
    answered_by (archive_schema indexed) currents_alone_text _ s.0 s.1

currents_hide_suits : (indexed : Bool) → MayAsk (archive_schema indexed) currents_hide_text []
unfolding understood everything
currents_hide_suits indexed = (refl, ((refl, refl), refl, refl, refl))

pub currents_hide_answered : ArchivesAnswer currents_hide_text []
currents_hide_answered = λ indexed.
    let s = currents_hide_suits indexed in
    answered_by (archive_schema indexed) currents_hide_text _ s.0 s.1

currents_held_suits : (indexed : Bool) → MayAsk (archive_schema indexed) currents_held_text []
unfolding understood everything
currents_held_suits indexed = (refl, ((refl, refl), refl, refl, refl))

pub currents_held_answered : ArchivesAnswer currents_held_text []
currents_held_answered = λ indexed.
    let s = currents_held_suits indexed in
    answered_by (archive_schema indexed) currents_held_text _ s.0 s.1

vectors_stray_suits : (indexed : Bool) → MayAsk (archive_schema indexed) vectors_stray_text []
unfolding understood everything
vectors_stray_suits indexed = (refl, ((refl, refl), refl, refl, refl))

pub vectors_stray_answered : ArchivesAnswer vectors_stray_text []
vectors_stray_answered = λ indexed.
    let s = vectors_stray_suits indexed in
    answered_by (archive_schema indexed) vectors_stray_text _ s.0 s.1

vectors_held_suits : (indexed : Bool) → MayAsk (archive_schema indexed) vectors_held_text []
unfolding understood everything
vectors_held_suits indexed = (refl, ((refl, refl), refl, refl, refl))

pub vectors_held_answered : ArchivesAnswer vectors_held_text []
vectors_held_answered = λ indexed.
    let s = vectors_held_suits indexed in
    answered_by (archive_schema indexed) vectors_held_text _ s.0 s.1

all_vectors_suits : (indexed : Bool) → MayAsk (archive_schema indexed) all_vectors_text []
unfolding understood everything
all_vectors_suits indexed = (refl, ((refl, refl), refl, refl, refl))

pub all_vectors_answered : ArchivesAnswer all_vectors_text []
all_vectors_answered = λ indexed.
    let s = all_vectors_suits indexed in
    answered_by (archive_schema indexed) all_vectors_text _ s.0 s.1

records1_suits : MayAsk schema1 records1_text []
unfolding understood everything
records1_suits = (refl, ((refl, refl), refl, refl, refl))

pub records1_answered : IsAnswered schema1 records1_text []
records1_answered = let s = records1_suits in answered_by schema1 records1_text _ s.0 s.1

currents1_suits : MayAsk schema1 currents1_text []
unfolding understood everything
currents1_suits = (refl, ((refl, refl), refl, refl, refl))

pub currents1_answered : IsAnswered schema1 currents1_text []
currents1_answered = let s = currents1_suits in answered_by schema1 currents1_text _ s.0 s.1

vectors1_suits : MayAsk schema1 all_vectors_text []
unfolding understood everything
vectors1_suits = (refl, ((refl, refl), refl, refl, refl))

pub vectors1_answered : IsAnswered schema1 all_vectors_text []
vectors1_answered = let s = vectors1_suits in answered_by schema1 all_vectors_text _ s.0 s.1

abbrev begun : List Stored → List Index → List View → Schema
begun rest ix vs = record { tables = first_table ∷ rest; indexes = ix; views = vs }

whose_suits : (rest : List Stored) (ix : List Index) (vs : List View)
    → MayAsk (begun rest ix vs) whose_text []
unfolding understood everything
whose_suits rest ix vs = (refl, ((refl, refl), refl, refl, refl))

pub whose_answered : (schema : Schema) → HasMeta schema → IsAnswered schema whose_text []
whose_answered schema (rest, is) = subst (λ s. IsAnswered s whose_text []) (sym
    (ap (λ ts. record { tables = ts; indexes = schema.indexes; views = schema.views }) is))
    (let s = whose_suits rest schema.indexes schema.views in
    answered_by (begun rest schema.indexes schema.views) whose_text [] s.0 s.1)
