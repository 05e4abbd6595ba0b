use Rattle.std.proofs.Common.{◌≡◌, arith, Ok, Err, IfOk, OnOk, IfErr, IsTrue, Result, Vec, List, ℕ}
use Rattle.std.specs.declared.alloc.Global.{Global}
use Rattle.sqlite_value.specs.Order.{Row}
use Rattle.sqlite.specs.declared.error.Error.{Error}
use Rattle.sqlite.specs.Given.{IsPlain}
use Rattle.sqlite.specs.declared.error.Error.TheVariants.{SqliteFailure}
use Rattle.sqlite.specs.declared.error.ErrorCode.TheVariants.{OutOfMemory}
use Rattle.sqlite.specs.Listing.{understood}
use Rattle.sqlite.specs.State.{State, HasCleanDisk, Shown, IsUnchanged, FailsToQuery}
use Rattle.sqlite.specs.Held.{state}
use Rattle.sqlite.proofs.StateLemmas.{survives_weaker}
use Rattle.sqlite.proofs.Callers.{never_commits}
use Rattle.sql_tables.specs.Asking.{IsAnswered}
use Rattle.sql_tables.specs.State.{IsOpenAndIdle, Holds, MayBeStopped}
use Rattle.sql_tables.proofs.AnsweredLemmas.{answered_plain, query_stops}
use Rattle.sql_tables.proofs.QueryLemmas.{leaves_all}
use Rattle.sql_tables.proofs.WriteLemmas.{fails_query}
use Rattle.sql_tables.proofs.statements.rows_of.Goals as goal

kept : (sql : List ℕ) (params : Row) (old new : State) (r : Result (Vec Row Global) Error)
    → IsPlain (understood old.now.schema sql) → IfOk r (λ rows. Shown sql params old new rows.items)
    → OnOk r (IsUnchanged old new)
kept sql params old new (Ok rows) plain h = leaves_all sql params old new rows.items plain h
kept sql params old new (Err e) plain h = tt

failed : (sql : List ℕ) (params : Row) (old new : State) (r : Result (Vec Row Global) Error)
    → IsPlain (understood old.now.schema sql) → IsOpenAndIdle old
    → IfErr r (FailsToQuery sql params old new) → IfErr r (λ _. IsTrue new.is_open → Holds old new)
failed sql params old new (Ok rows) plain was h = tt
failed sql params old new (Err e) plain was h =
    λ is_open. fails_query sql params old new e plain was is_open h

stopped : (sql : List ℕ) (params : Row) (old new : State) (r : Result (Vec Row Global) Error)
    → IsAnswered old.now.schema sql params → IsOpenAndIdle old
    → IfErr r (FailsToQuery sql params old new)
    → IfErr r (λ e. (e ≡ SqliteFailure OutOfMemory → ⊥) → MayBeStopped old new)
stopped sql params old new (Ok rows) answered was h = tt
stopped sql params old new (Err e) answered was h =
    λ some. query_stops sql params old new e answered was.is_open some h

pub returns-clause-stopped : goal.returns-clause-stopped
returns-clause-stopped g c clean =
    let old = state g.S.Store c.args.conn.now in
    let early : HasCleanDisk old = omega (arith, c.query_all.ensures.survives.clean, clean) in
    stopped c.args.sql.now _ old (state g.S.Store c.query_all.new.self) c.query_all.result
    (c.requires.answered early) (c.requires.rests early) (c.query_all.ensures.err clean)

pub returns-clause-same : goal.returns-clause-same
returns-clause-same g c clean =
    let old = state g.S.Store c.args.conn.now in
    let early : HasCleanDisk old = omega (arith, c.query_all.ensures.survives.clean, clean) in
    kept c.args.sql.now _ old (state g.S.Store c.query_all.new.self) c.query_all.result
    (answered_plain old.now.schema c.args.sql.now _ (c.requires.answered early))
    (c.query_all.ensures.ok clean)

pub returns-clause-refused : goal.returns-clause-refused
returns-clause-refused g c clean =
    let old = state g.S.Store c.args.conn.now in
    let early : HasCleanDisk old = omega (arith, c.query_all.ensures.survives.clean, clean) in
    failed c.args.sql.now _ old (state g.S.Store c.query_all.new.self) c.query_all.result
    (answered_plain old.now.schema c.args.sql.now _ (c.requires.answered early))
    (c.requires.rests early) (c.query_all.ensures.err clean)

pub returns-clause-crash : goal.returns-clause-crash
returns-clause-crash g c =
    let old = state g.S.Store c.args.conn.now in
    survives_weaker old (state g.S.Store c.query_all.new.self) _ _
    (λ clean db. never_commits c.args.sql.now _ old db
    (answered_plain old.now.schema c.args.sql.now _
    (c.requires.answered (omega (arith, c.query_all.ensures.survives.clean, clean)))))
    c.query_all.ensures.survives
