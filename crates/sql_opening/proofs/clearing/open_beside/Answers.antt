use Rattle.std.proofs.Common.{◌≡◌, arith, subst, Ok}
use Rattle.sqlite.specs.Held.{state}
use Rattle.sql_schema.proofs.StandingLemmas.{beside_has_meta}
use Rattle.sql_tables.specs.Rows.{meta_cells}
use Rattle.sql_tables.specs.State.{Found}
use Rattle.sql_opening.specs.Opening.{checked_meta}
use Rattle.sql_opening.proofs.ClearLemmas.{opened_beside}
use Rattle.sql_opening.proofs.clearing.open_beside.Goals as goal

pub judge-requires-clause-known : goal.judge-requires-clause-known
judge-requires-clause-known g c clean =
    beside_has_meta (state g.S.Store c.args.conn.now).now.schema (c.requires.beside clean)

pub returns-in-Ok : goal.returns-in-Ok
returns-in-Ok g c =
    let old = state g.S.Store c.args.conn.now in
    let mid = state g.S.Store c.judge.new.conn in
    opened_beside c.args.id.now c.args.number old mid
    (state g.S.Store c.check_bare.new.conn) c.check_bare.result
    (subst (λ t. Found old mid (Ok t) (λ told. told
    ≡ checked_meta c.args.id.now c.args.number (meta_cells old.now.trees))) c.in-Ok.is
    c.in_ok-told.ensures) c.check_bare.ensures
    (λ clean. omega (arith, c.check_bare.ensures.crash.clean, clean))
