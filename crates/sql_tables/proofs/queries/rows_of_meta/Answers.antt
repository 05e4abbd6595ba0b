use Rattle.std.proofs.Common.{arith}
use Rattle.sqlite.specs.Held.{state}
use Rattle.sql_tables.proofs.AskLemmas.{found_as}
use Rattle.sql_tables.proofs.AnsweredLemmas.{whose_answered}
use Rattle.sql_tables.proofs.QueryLemmas.{finds_whose}
use Rattle.sql_tables.proofs.queries.rows_of_meta.Goals as goal

pub ask-requires-clause-answered : goal.ask-requires-clause-answered
ask-requires-clause-answered g c clean =
    whose_answered (state g.S.Store c.args.conn.now).now.schema (c.requires.known clean)

pub returns : goal.returns
returns g c =
    let old = state g.S.Store c.args.conn.now in
    let new = state g.S.Store c.ask.new.conn in
    found_as old new c.ask.result _ _ (λ clean v shown.
    finds_whose old new v.items (c.requires.known
    (omega (arith, c.ask.ensures.crash.clean, clean))) shown) c.ask.ensures
