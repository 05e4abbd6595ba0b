use Rattle.std.proofs.Common.{arith, false}
use Rattle.sqlite.specs.State.{HasCleanDisk}
use Rattle.sqlite.specs.Held.{state}
use Rattle.sql_opening.proofs.FirstLemmas.{shows_currents, if_ok}
use Rattle.sql_opening.proofs.migrate.currents_made.Goals as goal

pub returns-clause-made : goal.returns-clause-made
returns-clause-made g c clean =
    let old = state g.S.Store c.args.tx.now.conn.now in
    let early : HasCleanDisk old = omega (arith, c.query_all.ensures.survives.clean, clean) in
    if_ok c.query_all.result (λ rows shown.
    shows_currents old (state g.S.Store c.query_all.new.self.conn.now) rows.items
    (false, (c.requires early).has) shown) (c.query_all.ensures.ok clean)
