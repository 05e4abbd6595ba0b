use Rattle.std.proofs.Common.{arith}
use Rattle.sqlite.specs.State.{HasCleanDisk}
use Rattle.sqlite.specs.Held.{state}
use Rattle.sql_tables.proofs.WriteLemmas.{keeps_commit}
use Rattle.sql_tables.proofs.IndexLemmas.{makes_index}
use Rattle.sql_tables.proofs.indexing.make_index.Goals as goal

pub returns-clause-made : goal.returns-clause-made
returns-clause-made g c clean =
    let old = state g.S.Store c.args.tx.now.conn.now in
    let early : HasCleanDisk old = omega (arith, c.execute.ensures.survives.clean, clean) in
    let was = c.requires early in
    makes_index old (state g.S.Store c.execute.new.self.conn.now) c.execute.result was
    (c.execute.ensures.runs clean was.inside)

pub returns-clause-kept : goal.returns-clause-kept
returns-clause-kept g c clean =
    let old = state g.S.Store c.args.tx.now.conn.now in
    let early : HasCleanDisk old = omega (arith, c.execute.ensures.survives.clean, clean) in
    keeps_commit _ _ old (state g.S.Store c.execute.new.self.conn.now) c.execute.result
    (c.execute.ensures.runs clean (c.requires early).inside)
