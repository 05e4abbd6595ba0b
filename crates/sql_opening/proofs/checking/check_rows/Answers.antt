use Rattle.sql_opening.proofs.OpenLemmas.{begins_out}
use Rattle.std.proofs.lemmas.List.{length-append}
use Rattle.std.proofs.Common.{inl, inr, ◌∷◌, ◌≡◌, [], Result, Ok, Err, IfErr, IsTrue, None, IsPermutation, refl, ap, arith, rules, sym, subst, subst₂, ◌∙◌}
use Rattle.std.specs.Option.{option_copied}
use Rattle.sqlite.specs.Given.{Advances, FailsToAdvance, GivesOn, row_if}
use Rattle.sqlite.specs.Effect.{Database}
use Rattle.sqlite.specs.State.{State, HasCleanDisk, Survives, CommitsShowing, FailsToQuery}
use Rattle.sqlite.specs.Held.{state}
use Rattle.sqlite.proofs.StateLemmas.{survives_weaker, survives_then}
use Rattle.sqlite.proofs.Callers.{never_commits, begun_plain, unchanged_then, given_begin}
use Rattle.sql_schema.specs.Tables.{IsArchiveSchema}
use Rattle.sql_schema.proofs.StandingLemmas.{archive_as}
use Rattle.sqlite.specs.declared.error.Error.{Error}
use Rattle.sqlite.specs.declared.error.Error.TheVariants.{SqliteFailure}
use Rattle.sqlite.specs.declared.error.ErrorCode.TheVariants.{OutOfMemory}
use Rattle.sql_tables.specs.State.{Holds, MayBeStopped}
use Rattle.sql_tables.proofs.AnsweredLemmas.{answered_in, all_answered, query_stops}
use Rattle.sql_tables.specs.Words.{cells}
use Rattle.sql_tables.proofs.Texts.{all_text}
use Rattle.sql_tables.proofs.QueryLemmas.{all_plain, finds_all}
use Rattle.sql_tables.proofs.AskLemmas.{stops_behind}
use Rattle.sql_tables.proofs.WriteLemmas.{fails_query}
use Rattle.sql_opening.proofs.checking.check_rows.Goals as goal

commits_nothing : (old new : State) → (HasCleanDisk old → IsArchiveSchema old.now.schema)
    → Survives old new (CommitsShowing all_text [] old) → Survives old new (λ _. ⊥)
commits_nothing old new known s = survives_weaker old new _ _
    (λ clean db. never_commits all_text [] old db (all_plain old.now.schema
    (known (omega (arith, s.clean, clean))))) s

each_err : {A E : Type 0} {P : Type 0} (r : Result A E) → P → IfErr r (λ _. P)
each_err (Ok a) p = tt
each_err (Err e) p = p

pub returns-in_err-rows-clause-refused : goal.returns-in_err-rows-clause-refused
returns-in_err-rows-clause-refused g c clean =
    let old = state g.S.Store c.args.conn.now in
    let new = state g.S.Store c.query.follows.lender-at-none in
    let held = c.query.follows.holds-at-none in
    let kept : Survives old new (CommitsShowing all_text [] old) = search rules in
    let failed : FailsToQuery all_text [] old new c.in_err-rows.field-0.0 =
    (rw c.in_err-rows.was at held).err clean in
    let early : HasCleanDisk old = omega (arith, kept.clean, clean) in
    each_err {P = IsTrue new.is_open → Holds old new} _
    (λ is_open. fails_query all_text [] old new _
    (all_plain old.now.schema (c.requires.known early)) (c.requires.rests early) is_open failed)

stops : (a b : State) (e : Error) → IsArchiveSchema a.now.schema → IsTrue a.is_open
    → FailsToQuery all_text [] a b e → (e ≡ SqliteFailure OutOfMemory → ⊥) → MayBeStopped a b
stops a b e known live h some = query_stops all_text [] a b e
    (answered_in a.now.schema all_text [] known all_answered) live some h

pub returns-in_err-rows-clause-stopped : goal.returns-in_err-rows-clause-stopped
returns-in_err-rows-clause-stopped g c clean =
    let old = state g.S.Store c.args.conn.now in
    let new = state g.S.Store c.query.follows.lender-at-none in
    let held = c.query.follows.holds-at-none in
    let kept : Survives old new (CommitsShowing all_text [] old) = search rules in
    let failed : FailsToQuery all_text [] old new c.in_err-rows.field-0.0 =
    (rw c.in_err-rows.was at held).err clean in
    let early : HasCleanDisk old = omega (arith, kept.clean, clean) in
    let told : c.from_residual.result ≡ Err c.in_err-rows.field-0.0 = search rules in
    subst (λ r. IfErr r (λ e. (e ≡ SqliteFailure OutOfMemory → ⊥) → MayBeStopped old new))
    (sym told)
    (stops old new _ (c.requires.known early) (c.requires.rests early).is_open failed)

pub returns-in_err-advance-clause-stopped : goal.returns-in_err-advance-clause-stopped
returns-in_err-advance-clause-stopped g c clean =
    let old = state g.S.Store c.args.conn.now in
    let mid = c.rows.rows.conn.now in
    let now = c.advance.new.self.conn.now in
    let moved = c.in_err-advance.ensures in
    let late : HasCleanDisk (state g.S.Store now) = search rules in
    let was = c.rows.invariant.2 (omega (arith, moved.survives.clean, late)) in
    let failed : FailsToAdvance g.S.Store mid now c.in_err-advance.field-0.0 = moved.err late in
    let known = c.requires.known (omega
    (arith, c.rows.invariant.1.clean, moved.survives.clean, late)) in
    let tables = archive_as (ap (λ (d : Database). d.schema) was.2.0.now_is) known in
    let told : c.from_residual-in_err-advance.result ≡ Err c.in_err-advance.field-0.0 =
    search rules in
    let left : c.conn-in_err-advance-1.given.0 ≡ now = search rules in
    subst₂ (λ r h. IfErr r (λ e. (e ≡ SqliteFailure OutOfMemory → ⊥)
    → MayBeStopped old (state g.S.Store h))) (sym told) (sym left)
    (λ some. stops_behind old (state g.S.Store mid) (state g.S.Store now) _ c.rows.invariant.1
    (stops (state g.S.Store mid) (state g.S.Store now) _ tables was.2.0.is_open
    (failed all_text [] was.0 was.1) some))

pub returns-in_err-rows-clause-crash : goal.returns-in_err-rows-clause-crash
returns-in_err-rows-clause-crash g c =
    let old = state g.S.Store c.args.conn.now in
    let new = state g.S.Store c.query.follows.lender-at-none in
    let held = c.query.follows.holds-at-none in
    let kept : Survives old new (CommitsShowing all_text [] old) = search rules in
    commits_nothing old new c.requires.known kept

pub rows-init : goal.rows-init
rows-init g c =
    let old = state g.S.Store c.args.conn.now in
    let made = c.in_ok-rows.ensures in (
      refl,
      commits_nothing old _ c.requires.known made.survives,
      λ clean.
          let begun = begun_plain g.S.Store all_text [] c.args.conn.now _
          (all_plain old.now.schema (c.requires.known
          (omega (arith, made.survives.clean, clean)))) (made.begun clean) in
          ([], begun.0, begun.1, c.start-walk.ensures, refl),
    )

pub returns-in_default-clause-checked : goal.returns-in_default-clause-checked
returns-in_default-clause-checked g c clean =
    let old = state g.S.Store c.args.conn.now in
    let mid = c.rows.rows.conn.now in
    let now = c.advance.new.self.conn.now in
    let moved = c.in_ok-advance.ensures in
    let late : HasCleanDisk (state g.S.Store now) = search rules in
    let was = c.rows.invariant.2 (omega (arith, moved.survives.clean, late)) in
    let on : Advances g.S.Store mid now (row_if c.advance.new.self.has_row now) = moved.ok late in
    let none : row_if c.advance.new.self.has_row now ≡ None =
    sym c.get.ensures ∙ ap option_copied c.in_default.is in
    let shown = subst (GivesOn g.S.Store all_text [] mid now was.0) none
    (on all_text [] was.0 was.1) in
    let known = c.requires.known (omega
    (arith, c.rows.invariant.1.clean, moved.survives.clean, late)) in
    let tables = archive_as (ap (λ (d : Database). d.schema) was.2.0.now_is) known in (
      was.0,
      subst (λ (d : Database). IsPermutation (cells (d.trees 1)) was.0) was.2.0.now_is
          (finds_all (state g.S.Store mid) (state g.S.Store now) was.0 tables shown),
      was.3,
    )

pub returns-in-Err-clause-refuted : goal.returns-in-Err-clause-refuted
returns-in-Err-clause-refuted g c clean =
    let old = state g.S.Store c.args.conn.now in
    let mid = c.rows.rows.conn.now in
    let now = c.advance.new.self.conn.now in
    let moved = c.in_ok-advance.ensures in
    let late : HasCleanDisk (state g.S.Store now) = search rules in
    let was = c.rows.invariant.2 (omega (arith, moved.survives.clean, late)) in
    let on : Advances g.S.Store mid now (row_if c.advance.new.self.has_row now) = moved.ok late in
    let some = sym c.get.ensures ∙ ap option_copied c.in-Some.is in
    let given = subst (GivesOn g.S.Store all_text [] mid now was.0) some
    (on all_text [] was.0 was.1) in
    let known = c.requires.known (omega
    (arith, c.rows.invariant.1.clean, moved.survives.clean, late)) in
    let same = unchanged_then old (state g.S.Store mid) (state g.S.Store now) was.2
    (moved.same late) in
    elim (c.in-Err.ensures.refused was.0 was.3) [
      | inl memory ↦ inl memory
      | inr so ↦ inr (begins_out old (state g.S.Store now) _ known same
          (given_begin g.S.Store all_text [] now _ given) so)
    ]

pub returns-clause-refuted : goal.returns-clause-refuted
returns-clause-refuted g c clean =
    let old = state g.S.Store c.args.conn.now in
    let mid = c.rows.rows.conn.now in
    let late : HasCleanDisk (state g.S.Store mid) = search rules in
    let was = c.rows.invariant.2 late in
    let known = c.requires.known (omega (arith, c.rows.invariant.1.clean, late)) in
    inr (begins_out old (state g.S.Store mid) was.0 known was.2
    (given_begin g.S.Store all_text [] mid was.0 was.1)
    (inr (omega (arith, was.4, c.rows-test.false))))

pub rows-preserved : goal.rows-preserved
rows-preserved g c =
    let old = state g.S.Store c.args.conn.now in
    let mid = c.rows.rows.conn.now in
    let now = c.advance.new.self.conn.now in
    let moved = c.in_ok-advance.ensures in (
      moved.same_reference ∙ c.rows.invariant.0,
      survives_then old (state g.S.Store mid) (state g.S.Store now) _ _ _ (λ clean db none. none)
          (λ clean db none. none) c.rows.invariant.1 moved.survives,
      λ clean.
          let was = c.rows.invariant.2 (omega (arith, moved.survives.clean, clean)) in
          let on : Advances g.S.Store mid now (row_if c.advance.new.self.has_row now) =
          moved.ok clean in
          let some = sym c.get.ensures ∙ ap option_copied c.in-Some.is in (
            _,
            subst (GivesOn g.S.Store all_text [] mid now was.0) some (on all_text [] was.0 was.1),
            unchanged_then old (state g.S.Store mid) (state g.S.Store now) was.2 (moved.same clean),
            c.in-Ok.ensures.walked was.0 was.3,
            omega (arith, was.4, length-append was.0 (c.in-Some.row.now ∷ [])),
          ),
    )
