use Rattle.std.proofs.Common.{◌∷◌, inr, ◌≡◌, [], Result, Ok, Err, IfErr, IsTrue, None, List, ℕ, refl, ap, arith, rules, sym, subst, subst₂, ◌∙◌}
use Rattle.std.specs.Option.{option_copied}
use Rattle.sqlite.specs.Given.{IsPlain, Advances, FailsToAdvance, GivesOn, row_if}
use Rattle.sqlite.specs.Effect.{Database, ReadsFirst}
use Rattle.sqlite.specs.Listing.{understood}
use Rattle.sqlite_value.specs.Order.{Row}
use Rattle.std.proofs.lemmas.List.{length-append}
use Rattle.sqlite.specs.State.{State, HasCleanDisk, Survives, CommitsShowing, FailsToQuery, Begins}
use Rattle.sqlite.specs.Held.{state}
use Rattle.sqlite.proofs.StateLemmas.{survives_weaker, survives_then}
use Rattle.sqlite.proofs.Callers.{never_commits, begun_plain, unchanged_then, given_begin}
use Rattle.sqlite.specs.declared.error.Error.{Error}
use Rattle.sqlite.specs.declared.error.Error.TheVariants.{SqliteFailure}
use Rattle.sqlite.specs.declared.error.ErrorCode.TheVariants.{OutOfMemory}
use Rattle.sql_tables.specs.Asking.{ArchivesAnswer}
use Rattle.sql_tables.specs.State.{Holds, Idles, MayBeStopped}
use Rattle.sql_tables.proofs.AnsweredLemmas.{answered_in, answered_plain, query_stops}
use Rattle.sql_schema.specs.Tables.{IsArchiveSchema}
use Rattle.sql_schema.proofs.StandingLemmas.{archive_as}
use Rattle.sql_tables.specs.Agreeing.{command_in, ShowsOf, AreUncountable, BeginsUncountable}
use Rattle.sql_tables.proofs.AskLemmas.{rests_of, stops_behind}
use Rattle.sql_tables.proofs.AgreeLemmas.{shows_of, begins_of}
use Rattle.sql_tables.proofs.WriteLemmas.{fails_query}
use Rattle.sql_tables.proofs.integrity.count_ids.Goals as goal

plain_in : (sql : List ℕ) (s : State) → ArchivesAnswer sql [] → IsArchiveSchema s.now.schema
    → IsPlain (understood s.now.schema sql)
plain_in sql s answer has =
    answered_plain s.now.schema sql [] (answered_in s.now.schema sql [] has answer)

commits_nothing : (sql : List ℕ) (old new : State) → ArchivesAnswer sql []
    → (HasCleanDisk old → Idles old) → Survives old new (CommitsShowing sql [] old)
    → Survives old new (λ _. ⊥)
commits_nothing sql old new answer idles s =
    survives_weaker old new _ _ (λ clean db. never_commits sql [] old db
    (plain_in sql old answer (idles (omega (arith, s.clean, clean))).tables)) s

begins_with : (sql : List ℕ) (s : State) (db : Database) (rows : List Row) → s.now ≡ db
    → IsArchiveSchema s.now.schema → ArchivesAnswer sql [] → Begins sql [] s rows
    → AreUncountable rows → BeginsUncountable sql db
begins_with sql s db rows same has answer begins so =
    record {
      rows = rows;
      shown = subst (λ (d : Database). ReadsFirst (command_in (understood d.schema sql)) d [] rows)
          same (begins_of sql s rows (plain_in sql s answer has)
          (answered_in s.now.schema sql [] has answer).unlisted begins);
      so = so;
    }

stops : (sql : List ℕ) (a b : State) (e : Error) → ArchivesAnswer sql []
    → IsArchiveSchema a.now.schema → IsTrue a.is_open → FailsToQuery sql [] a b e
    → (e ≡ SqliteFailure OutOfMemory → ⊥) → MayBeStopped a b
stops sql a b e answer has live h some =
    query_stops sql [] a b e (answered_in a.now.schema sql [] has answer) live some h

each_err : {A E : Type 0} {P : Type 0} (r : Result A E) → P → IfErr r (λ _. P)
each_err (Ok a) p = tt
each_err (Err e) p = p

pub returns-in_err-rows-clause-refused : goal.returns-in_err-rows-clause-refused
returns-in_err-rows-clause-refused g c clean =
    let old = state g.S.Store c.args.conn.now in
    let new = state g.S.Store c.query.follows.lender-at-none in
    let held = c.query.follows.holds-at-none in
    let kept : Survives old new (CommitsShowing c.args.sql.now [] old) = search rules in
    let failed : FailsToQuery c.args.sql.now [] old new c.in_err-rows.field-0.0 =
    (rw c.in_err-rows.was at held).err clean in
    let early : HasCleanDisk old = omega (arith, kept.clean, clean) in
    each_err {P = IsTrue new.is_open → Holds old new} _
    (λ is_open. fails_query c.args.sql.now [] old new _
    (plain_in c.args.sql.now old c.requires.answered (c.requires.idles early).tables)
    (rests_of old (c.requires.idles early)) is_open failed)

pub returns-in_err-rows-clause-stopped : goal.returns-in_err-rows-clause-stopped
returns-in_err-rows-clause-stopped g c clean =
    let old = state g.S.Store c.args.conn.now in
    let new = state g.S.Store c.query.follows.lender-at-none in
    let held = c.query.follows.holds-at-none in
    let kept : Survives old new (CommitsShowing c.args.sql.now [] old) = search rules in
    let failed : FailsToQuery c.args.sql.now [] old new c.in_err-rows.field-0.0 =
    (rw c.in_err-rows.was at held).err clean in
    let early : HasCleanDisk old = omega (arith, kept.clean, clean) in
    let told : c.from_residual.result ≡ Err c.in_err-rows.field-0.0 = search rules in
    subst (λ r. IfErr r (λ e. (e ≡ SqliteFailure OutOfMemory → ⊥) → MayBeStopped old new))
    (sym told)
    (stops c.args.sql.now old new _ c.requires.answered (c.requires.idles early).tables
    (c.requires.idles early).is_open failed)

pub returns-in_err-advance-clause-stopped : goal.returns-in_err-advance-clause-stopped
returns-in_err-advance-clause-stopped g c clean =
    let old = state g.S.Store c.args.conn.now in
    let mid = c.rows.rows.conn.now in
    let now = c.advance.new.self.conn.now in
    let moved = c.in_err-advance.ensures in
    let late : HasCleanDisk (state g.S.Store now) = search rules in
    let was = c.rows.invariant.2 (omega (arith, moved.survives.clean, late)) in
    let failed : FailsToAdvance g.S.Store mid now c.in_err-advance.field-0.0 = moved.err late in
    let idles = c.requires.idles (omega
    (arith, c.rows.invariant.1.clean, moved.survives.clean, late)) in
    let tables = archive_as (ap (λ (d : Database). d.schema) was.2.0.now_is) idles.tables in
    let told : c.from_residual-in_err-advance.result ≡ Err c.in_err-advance.field-0.0 =
    search rules in
    let left : c.conn-in_err-advance-1.given.0 ≡ now = search rules in
    subst₂ (λ r h. IfErr r (λ e. (e ≡ SqliteFailure OutOfMemory → ⊥)
    → MayBeStopped old (state g.S.Store h))) (sym told) (sym left)
    (λ some. stops_behind old (state g.S.Store mid) (state g.S.Store now) _ c.rows.invariant.1
    (stops c.args.sql.now (state g.S.Store mid) (state g.S.Store now) _ c.requires.answered tables
    was.2.0.is_open (failed c.args.sql.now [] was.0 was.1) some))

pub returns-in_err-rows-clause-crash : goal.returns-in_err-rows-clause-crash
returns-in_err-rows-clause-crash g c =
    let old = state g.S.Store c.args.conn.now in
    let new = state g.S.Store c.query.follows.lender-at-none in
    let held = c.query.follows.holds-at-none in
    let kept : Survives old new (CommitsShowing c.args.sql.now [] old) = search rules in
    commits_nothing c.args.sql.now old new c.requires.answered c.requires.idles kept

pub rows-init : goal.rows-init
rows-init g c =
    let old = state g.S.Store c.args.conn.now in
    let made = c.in_ok-rows.ensures in (
      refl,
      commits_nothing c.args.sql.now old _ c.requires.answered c.requires.idles made.survives,
      λ clean.
          let begun = begun_plain g.S.Store c.args.sql.now [] c.args.conn.now _
          (plain_in c.args.sql.now old c.requires.answered
          (c.requires.idles (omega (arith, made.survives.clean, clean))).tables)
          (made.begun clean) in
          ([], begun.0, begun.1, c.no_ids-ids.ensures, refl),
    )

pub returns-in_default-clause-counted : goal.returns-in_default-clause-counted
returns-in_default-clause-counted g c clean =
    let old = state g.S.Store c.args.conn.now in
    let mid = c.rows.rows.conn.now in
    let now = c.advance.new.self.conn.now in
    let moved = c.in_ok-advance.ensures in
    let late : HasCleanDisk (state g.S.Store now) = search rules in
    let was = c.rows.invariant.2 (omega (arith, moved.survives.clean, late)) in
    let on : Advances g.S.Store mid now (row_if c.advance.new.self.has_row now) = moved.ok late in
    let none : row_if c.advance.new.self.has_row now ≡ None =
    sym c.get.ensures ∙ ap option_copied c.in_default.is in
    let shown = subst (GivesOn g.S.Store c.args.sql.now [] mid now was.0) none
    (on c.args.sql.now [] was.0 was.1) in
    let idles = c.requires.idles (omega
    (arith, c.rows.invariant.1.clean, moved.survives.clean, late)) in
    let tables = archive_as (ap (λ (d : Database). d.schema) was.2.0.now_is) idles.tables in
    record {
      rows = was.0;
      shown = subst (λ d. ShowsOf c.args.sql.now d was.0) was.2.0.now_is
          (shows_of c.args.sql.now (state g.S.Store mid)
          (state g.S.Store now) was.0
          (plain_in c.args.sql.now (state g.S.Store mid) c.requires.answered tables)
          (answered_in _ c.args.sql.now [] tables c.requires.answered).unlisted shown);
      numbers = was.3.numbers;
      rise = was.3.rise;
      many = was.3.many;
    }

pub rows-preserved : goal.rows-preserved
rows-preserved g c =
    let old = state g.S.Store c.args.conn.now in
    let mid = c.rows.rows.conn.now in
    let now = c.advance.new.self.conn.now in
    let moved = c.in_ok-advance.ensures in (
      moved.same_reference ∙ c.rows.invariant.0,
      survives_then old (state g.S.Store mid) (state g.S.Store now) _ _ _ (λ clean db none. none)
          (λ clean db none. none) c.rows.invariant.1 moved.survives,
      λ clean.
          let was = c.rows.invariant.2 (omega (arith, moved.survives.clean, clean)) in
          let on : Advances g.S.Store mid now (row_if c.advance.new.self.has_row now) =
          moved.ok clean in
          let some = sym c.get.ensures ∙ ap option_copied c.in-Some.is in (
            _,
            subst (GivesOn g.S.Store c.args.sql.now [] mid now was.0) some
                (on c.args.sql.now [] was.0 was.1),
            unchanged_then old (state g.S.Store mid) (state g.S.Store now) was.2
                (moved.same clean),
            c.in-Ok.ensures.risen was.0 was.3,
            omega (arith, was.4, length-append was.0 (c.in-Some.row.now ∷ [])),
          ),
    )

pub returns-in-Err-clause-met : goal.returns-in-Err-clause-met
returns-in-Err-clause-met g c = (
  c.in-Err.ensures.met,
  λ clean.
      let old = state g.S.Store c.args.conn.now in
      let mid = c.rows.rows.conn.now in
      let now = c.advance.new.self.conn.now in
      let moved = c.in_ok-advance.ensures in
      let late : HasCleanDisk (state g.S.Store now) = search rules in
      let was = c.rows.invariant.2 (omega (arith, moved.survives.clean, late)) in
      let on : Advances g.S.Store mid now (row_if c.advance.new.self.has_row now) = moved.ok late in
      let some = sym c.get.ensures ∙ ap option_copied c.in-Some.is in
      let given = subst (GivesOn g.S.Store c.args.sql.now [] mid now was.0) some
      (on c.args.sql.now [] was.0 was.1) in
      let same = (unchanged_then old (state g.S.Store mid) (state g.S.Store now) was.2
      (moved.same late)).0.now_is in
      let idles = c.requires.idles (omega
      (arith, c.rows.invariant.1.clean, moved.survives.clean, late)) in
      let tables = archive_as (ap (λ (d : Database). d.schema) same) idles.tables in
      begins_with c.args.sql.now (state g.S.Store now) old.now _ same tables c.requires.answered
      (given_begin g.S.Store c.args.sql.now [] now _ given)
      (c.in-Err.ensures.refused was.0 was.3),
)

pub returns-clause-met : goal.returns-clause-met
returns-clause-met g c = (
  refl,
  λ clean.
      let old = state g.S.Store c.args.conn.now in
      let mid = c.rows.rows.conn.now in
      let late : HasCleanDisk (state g.S.Store mid) = search rules in
      let was = c.rows.invariant.2 late in
      let same = was.2.0.now_is in
      let idles = c.requires.idles (omega (arith, c.rows.invariant.1.clean, late)) in
      let tables = archive_as (ap (λ (d : Database). d.schema) same) idles.tables in
      begins_with c.args.sql.now (state g.S.Store mid) old.now was.0 same tables c.requires.answered
      (given_begin g.S.Store c.args.sql.now [] mid was.0 was.1)
      (inr (omega (arith, was.4, c.rows-test.false))),
)
