use Rattle.std.proofs.Common.{arith}
use Rattle.sqlite.specs.State.{HasCleanDisk}
use Rattle.sqlite.specs.Held.{state}
use Rattle.sql_tables.proofs.WriteLemmas.{keeps_commit}
use Rattle.sql_tables.proofs.RenewLemmas.{raises_current, raises_one}
use Rattle.sql_tables.proofs.insert.raise_current.Goals as goal

pub returns-clause-made : goal.returns-clause-made
returns-clause-made g c clean =
    let old = state g.S.Store c.args.tx.now.conn.now in
    let early : HasCleanDisk old = omega (arith, c.execute.ensures.survives.clean, clean) in
    let was = c.requires early in
    let r = c.args.r.now in
    raises_current r.origin r.number r.tick r.node.items r.time r.pico r.asked r.who.items
    r.value.items old (state g.S.Store c.execute.new.self.conn.now) c.execute.result was
    (rw (
      c.params-to_sql.ensures,
      c.params-to_sql-2.ensures,
      c.params-to_sql-3.ensures,
      c.params-to_sql-4.ensures,
      c.params-to_sql-5.ensures,
      c.params-to_sql-6.ensures,
      c.params-to_sql-7.ensures,
    ) at (c.execute.ensures.runs clean was.inside))

pub returns-clause-met : goal.returns-clause-met
returns-clause-met g c clean =
    let old = state g.S.Store c.args.tx.now.conn.now in
    let early : HasCleanDisk old = omega (arith, c.execute.ensures.survives.clean, clean) in
    let was = c.requires early in
    let r = c.args.r.now in
    raises_one r.origin r.number r.tick r.node.items r.time r.pico r.asked r.who.items
    r.value.items old (state g.S.Store c.execute.new.self.conn.now) c.execute.result was
    (rw (
      c.params-to_sql.ensures,
      c.params-to_sql-2.ensures,
      c.params-to_sql-3.ensures,
      c.params-to_sql-4.ensures,
      c.params-to_sql-5.ensures,
      c.params-to_sql-6.ensures,
      c.params-to_sql-7.ensures,
    ) at (c.execute.ensures.runs clean was.inside))

pub returns-clause-kept : goal.returns-clause-kept
returns-clause-kept g c clean =
    let old = state g.S.Store c.args.tx.now.conn.now in
    let early : HasCleanDisk old = omega (arith, c.execute.ensures.survives.clean, clean) in
    keeps_commit _ _ old (state g.S.Store c.execute.new.self.conn.now) c.execute.result
    (c.execute.ensures.runs clean (c.requires early).inside)
