use Rattle.sql_schema.proofs.StandingLemmas.{first_has_meta}
use Rattle.std.proofs.Common.{◌≡◌, arith, subst, Ok}
use Rattle.sqlite.specs.Held.{state}
use Rattle.sql_tables.specs.Rows.{meta_cells}
use Rattle.sql_tables.specs.State.{Found}
use Rattle.sql_opening.specs.Opening.{judged_as}
use Rattle.sql_opening.proofs.RenewLemmas.{opened_rows}
use Rattle.sql_opening.proofs.migrate.open_rows.Goals as goal

pub returns-in-Ok : goal.returns-in-Ok
returns-in-Ok g c =
    let old = state g.S.Store c.args.conn.now in
    let mid = state g.S.Store c.judge.new.conn in
    opened_rows c.args.id.now c.args.number old mid
    (state g.S.Store c.read_rows.new.conn) c.read_rows.result
    (subst (λ t. Found old mid (Ok t) (λ told. told
    ≡ judged_as 1 c.args.id.now c.args.number (meta_cells old.now.trees))) c.in-Ok.is
    c.in_ok-told.ensures) c.read_rows.ensures (λ clean.
    omega (arith, c.read_rows.ensures.crash.clean, clean))

pub judge-requires-clause-known : goal.judge-requires-clause-known
judge-requires-clause-known g c clean =
    first_has_meta (state g.S.Store c.args.conn.now).now.schema (c.requires.first clean)
