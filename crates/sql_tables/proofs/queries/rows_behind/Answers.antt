use Rattle.std.proofs.Common.{arith}
use Rattle.sqlite.specs.Held.{state}
use Rattle.sql_tables.proofs.AskLemmas.{asked_as}
use Rattle.sql_tables.proofs.AnsweredLemmas.{since_answered}
use Rattle.sql_tables.proofs.QueryLemmas.{finds_since}
use Rattle.sql_tables.proofs.queries.rows_behind.Goals as goal

pub select-requires-clause-answered : goal.select-requires-clause-answered
select-requires-clause-answered g c =
    rw (c.params-to_sql.ensures, c.params-to_sql-2.ensures, c.params-to_sql-3.ensures)
    (since_answered c.args.behind.now.origin c.args.behind.now.number
    c.args.behind.now.count)

pub returns : goal.returns
returns g c =
    let old = state g.S.Store c.args.conn.now in
    let new = state g.S.Store c.select.new.conn in
    let asked = c.args.behind.now in
    asked_as old new c.select.result _ _ (λ clean v shown.
    finds_since old new asked.origin asked.number asked.count v.items
    (c.requires (omega (arith, c.select.ensures.crash.clean, clean))).tables
    (rw (c.params-to_sql.ensures, c.params-to_sql-2.ensures, c.params-to_sql-3.ensures) at
    shown)) c.select.ensures
