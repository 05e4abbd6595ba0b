use Rattle.std.proofs.Common.{arith}
use Rattle.sqlite.specs.State.{HasCleanDisk}
use Rattle.sqlite.specs.Held.{state}
use Rattle.sql_opening.proofs.ClearLemmas.{drops_records}
use Rattle.sql_opening.proofs.clearing.drop_records.Goals as goal

pub returns-clause-made : goal.returns-clause-made
returns-clause-made g c clean =
    let old = state g.S.Store c.args.tx.now.conn.now in
    let early : HasCleanDisk old = omega (arith, c.execute.ensures.survives.clean, clean) in
    let was = c.requires early in
    drops_records old (state g.S.Store c.execute.new.self.conn.now) c.execute.result was
    (c.execute.ensures.runs clean was.inside)
