use Rattle.std.proofs.Common.{arith}
use Rattle.sqlite.specs.Held.{state}
use Rattle.sql_tables.proofs.AskLemmas.{asked_as}
use Rattle.sql_tables.proofs.AnsweredLemmas.{last_answered}
use Rattle.sql_tables.proofs.QueryLemmas.{finds_last}
use Rattle.sql_tables.proofs.queries.rows_last.Goals as goal

pub select-requires-clause-answered : goal.select-requires-clause-answered
select-requires-clause-answered g c =
    rw c.params-to_sql.ensures (last_answered c.args.name.now.origin)

pub returns : goal.returns
returns g c =
    let old = state g.S.Store c.args.conn.now in
    let new = state g.S.Store c.select.new.conn in
    asked_as old new c.select.result _ _ (λ clean v shown.
    finds_last old new c.args.name.now.origin v.items
    (c.requires (omega (arith, c.select.ensures.crash.clean, clean))).tables
    (rw c.params-to_sql.ensures at shown)) c.select.ensures
