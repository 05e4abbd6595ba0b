use Rattle.sql_schema.proofs.StandingLemmas.{archive_as, archive_has_meta}
use Rattle.std.proofs.Common.{rules, ◌≡◌, arith, subst, Ok, Err, ap, refl}
use Rattle.sql_tables.specs.Rows.{content_in, meta_cells}
use Rattle.sql_opening.specs.Latest.{Remembers}
use Rattle.sql_tables.specs.State.{Found}
use Rattle.sql_opening.specs.Opening.{checked_meta}
use Rattle.sqlite.specs.Held.{state}
use Rattle.sqlite.specs.Effect.{Database}
use Rattle.sql_opening.proofs.OpenLemmas.{opened_by, opened_err, opened_told}
use Rattle.sql_opening.proofs.opening.open_tables.Goals as goal

pub walk-requires-clause-known : goal.walk-requires-clause-known
walk-requires-clause-known g c clean =
    let e = c.in_ok-told.ensures in
    archive_as (ap (λ (d : Database). d.schema) (e.kept clean refl).same)
    (c.requires.known (omega (arith, e.crash.clean, clean)))

pub returns-in-Ok : goal.returns-in-Ok
returns-in-Ok g c =
    opened_by c.args.id.now c.args.number (state g.S.Store c.args.conn.now)
    (state g.S.Store c.judge.new.conn) (state g.S.Store c.walk.new.conn)
    (λ d l. Remembers (content_in d) l.numbers l.tick) c.walk.result
    (subst (λ t. Found (state g.S.Store c.args.conn.now) (state g.S.Store c.judge.new.conn)
    (Ok t) (λ told. told ≡ checked_meta c.args.id.now c.args.number
    (meta_cells (state g.S.Store c.args.conn.now).now.trees))) c.in-Ok.is c.in_ok-told.ensures)
    c.walk.ensures (λ clean. omega (arith, c.walk.ensures.crash.clean, clean))

pub judge-requires-clause-known : goal.judge-requires-clause-known
judge-requires-clause-known g c clean =
    archive_has_meta (state g.S.Store c.args.conn.now).now.schema (c.requires.known clean)

pub returns-in_err-told : goal.returns-in_err-told
returns-in_err-told g c =
    let a = state g.S.Store c.args.conn.now in
    let b = state g.S.Store c.judge.new.conn in
    let told : c.from_residual.result ≡ Err c.in_err-told.field-0.0 = search rules in
    rw told (opened_err c.args.id.now c.args.number a b c.in_err-told.field-0.0 _ _
    (subst (λ r. Found a b r (λ t. t
    ≡ checked_meta c.args.id.now c.args.number (meta_cells a.now.trees))) c.in_err-told.was
    c.judge.ensures))

pub returns-in-Err : goal.returns-in-Err
returns-in-Err g c =
    let a = state g.S.Store c.args.conn.now in
    let b = state g.S.Store c.judge.new.conn in
    opened_told c.args.id.now c.args.number a b c.in-Err.fault _
    (subst (λ t. Found a b (Ok t) (λ told. told
    ≡ checked_meta c.args.id.now c.args.number (meta_cells a.now.trees))) c.in-Err.is
    c.in_ok-told.ensures)
