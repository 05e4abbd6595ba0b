use Rattle.std.proofs.Common.{arith}
use Rattle.sqlite.specs.Held.{state}
use Rattle.sql_tables.proofs.AskLemmas.{asked_as}
use Rattle.sql_tables.proofs.AnsweredLemmas.{all_vectors_answered}
use Rattle.sql_opening.proofs.FirstLemmas.{shows_vectors}
use Rattle.sql_opening.proofs.again.last_rows.Goals as goal

pub select-requires-clause-answered : goal.select-requires-clause-answered
select-requires-clause-answered g c = all_vectors_answered

pub returns : goal.returns
returns g c =
    let old = state g.S.Store c.args.conn.now in
    let new = state g.S.Store c.select.new.conn in
    asked_as old new c.select.result _ _ (λ clean v shown.
    (shows_vectors old new v.items (c.requires
    (omega (arith, c.select.ensures.crash.clean, clean))).tables shown).1) c.select.ensures
