use Rattle.std.proofs.Common.{[], arith, subst, sym}
use Rattle.sqlite.specs.Held.{state}
use Rattle.sql_tables.specs.Asking.{IsAnswered}
use Rattle.sql_tables.proofs.AnsweredLemmas.{vectors1_answered}
use Rattle.sql_tables.proofs.AskLemmas.{found_as}
use Rattle.sql_tables.proofs.Texts.{all_vectors_text}
use Rattle.sql_opening.proofs.FirstLemmas.{finds_vectors1}
use Rattle.sql_opening.proofs.migrate.vectors_of.Goals as goal

pub ask-requires-clause-answered : goal.ask-requires-clause-answered
ask-requires-clause-answered g c clean =
    subst (λ s. IsAnswered s all_vectors_text []) (sym (c.requires.first clean)) vectors1_answered

pub returns : goal.returns
returns g c =
    let old = state g.S.Store c.args.conn.now in
    let new = state g.S.Store c.ask.new.conn in
    found_as old new c.ask.result _ _ (λ clean v shown.
    finds_vectors1 old new v.items (c.requires.first
    (omega (arith, c.ask.ensures.crash.clean, clean))) shown) c.ask.ensures
