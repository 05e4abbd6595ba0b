use Rattle.std.proofs.Common.{arith}
use Rattle.sqlite.specs.Held.{state}
use Rattle.sql_tables.proofs.AskLemmas.{asked_for}
use Rattle.sql_tables.proofs.AnsweredLemmas.{vectors_held_answered}
use Rattle.sql_tables.proofs.AgreeLemmas.{vectors_held_of}
use Rattle.sql_tables.proofs.WholeLemmas.{vectors_held_whole, few_vectors}
use Rattle.sql_tables.proofs.integrity.vectors_held.Goals as goal

pub ids_in-requires-clause-answered : goal.ids_in-requires-clause-answered
ids_in-requires-clause-answered g c = vectors_held_answered

pub returns : goal.returns
returns g c =
    let old = state g.S.Store c.args.conn.now in
    let new = state g.S.Store c.ids_in.new.conn in
    asked_for _ _ old new c.ids_in.result _ _ (λ clean n counts.
    vectors_held_of old.now (c.requires.idles
    (omega (arith, c.ids_in.ensures.crash.clean, clean))).tables n counts) (λ clean begins whole.
    vectors_held_whole old.now (c.requires.idles
    (omega (arith, c.ids_in.ensures.crash.clean, clean))).tables whole.kept.numbered.1
    (few_vectors old.now.trees whole) begins)
    c.ids_in.ensures
