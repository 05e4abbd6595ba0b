use Rattle.std.proofs.Common.{[], arith, subst, sym}
use Rattle.sqlite.specs.Held.{state}
use Rattle.sql_tables.specs.Asking.{IsAnswered}
use Rattle.sql_tables.proofs.AskLemmas.{found_as}
use Rattle.sql_opening.proofs.ClearLemmas.{some_record_text, record_answered, no_record}
use Rattle.sql_opening.proofs.clearing.first_record.Goals as goal

pub ask-requires-clause-answered : goal.ask-requires-clause-answered
ask-requires-clause-answered g c clean =
    subst (λ s. IsAnswered s some_record_text []) (sym (c.requires.beside clean)) record_answered

pub returns : goal.returns
returns g c =
    let old = state g.S.Store c.args.conn.now in
    let new = state g.S.Store c.ask.new.conn in
    found_as old new c.ask.result _ _ (λ clean v shown.
    no_record old new v.items (c.requires.beside
    (omega (arith, c.ask.ensures.crash.clean, clean))) shown) c.ask.ensures
