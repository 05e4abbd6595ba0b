use Rattle.std.proofs.Common.{arith}
use Rattle.sqlite.specs.Held.{state}
use Rattle.sql_tables.proofs.AskLemmas.{asked_as}
use Rattle.sql_tables.proofs.AnsweredLemmas.{named_answered}
use Rattle.sql_tables.proofs.QueryLemmas.{finds_named}
use Rattle.sql_tables.proofs.queries.rows_named.Goals as goal

pub select-requires-clause-answered : goal.select-requires-clause-answered
select-requires-clause-answered g c =
    rw (c.params-to_sql.ensures, c.params-to_sql-2.ensures)
    (named_answered c.args.name.now.origin c.args.name.now.number)

pub returns : goal.returns
returns g c =
    let old = state g.S.Store c.args.conn.now in
    let new = state g.S.Store c.select.new.conn in
    asked_as old new c.select.result _ _ (λ clean v shown.
    finds_named old new c.args.name.now.origin c.args.name.now.number v.items
    (c.requires (omega (arith, c.select.ensures.crash.clean, clean))).tables
    (rw (c.params-to_sql.ensures, c.params-to_sql-2.ensures) at shown)) c.select.ensures
