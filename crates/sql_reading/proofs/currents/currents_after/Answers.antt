use Rattle.std.proofs.Common.{arith}
use Rattle.sqlite.specs.Held.{state}
use Rattle.sql_tables.proofs.AskLemmas.{asked_as}
use Rattle.sql_tables.proofs.AnsweredLemmas.{lives_after_answered}
use Rattle.sql_tables.proofs.QueryLemmas.{finds_lives_after}
use Rattle.sql_reading.proofs.currents.currents_after.Goals as goal

pub select-requires-clause-answered : goal.select-requires-clause-answered
select-requires-clause-answered g c =
    rw (
      c.params-to_sql.ensures,
      c.params-to_sql-2.ensures,
      c.params-to_sql-3.ensures,
      c.params-to_sql-4.ensures,
      c.params-to_sql-5.ensures,
      c.params-to_sql-6.ensures,
    ) (lives_after_answered c.args.node.now c.args.along.now.near.ticks c.args.along.now.near.pico
    c.args.along.now.far.ticks c.args.along.now.far.pico c.args.along.now.count)

pub returns : goal.returns
returns g c =
    let old = state g.S.Store c.args.conn.now in
    let new = state g.S.Store c.select.new.conn in
    asked_as old new c.select.result _ _ (λ clean v shown.
    finds_lives_after old new c.args.node.now c.args.along.now.near.ticks
    c.args.along.now.near.pico c.args.along.now.far.ticks c.args.along.now.far.pico
    c.args.along.now.count v.items (c.requires
    (omega (arith, c.select.ensures.crash.clean, clean))).tables
    (rw (
      c.params-to_sql.ensures,
      c.params-to_sql-2.ensures,
      c.params-to_sql-3.ensures,
      c.params-to_sql-4.ensures,
      c.params-to_sql-5.ensures,
      c.params-to_sql-6.ensures,
    ) at shown))
    c.select.ensures
