use Rattle.std.proofs.Common.{IsPermutation, arith, map, subst, sym}
use Rattle.sqlite.specs.State.{HasCleanDisk}
use Rattle.sqlite.specs.Held.{state}
use Rattle.sql_tables.specs.Derived.{vector_columns}
use Rattle.sql_tables.proofs.AskLemmas.{passed_ok, passed_told}
use Rattle.sql_opening.proofs.LastsLemmas.{reach_told}
use Rattle.sql_opening.proofs.lasts.vectors_reach.Goals as goal

pub returns : goal.returns
returns g c =
    let old = state g.S.Store c.args.conn.now in
    let new = state g.S.Store c.last_rows.new.conn in
    let asked = c.in_ok-rows.ensures in
    passed_told old new c.tell_lasts.result _ (passed_ok old new c.in_ok-rows.rows _ asked)
    (λ clean.
    let early : HasCleanDisk old = omega (arith, asked.crash.clean, clean) in
    reach_told old.now.trees c.args.numbers.now c.deref.result.now (c.requires.filled early)
    (c.requires.lasts early)
    (subst (IsPermutation (map vector_columns (old.now.trees 6))) (sym c.deref.ensures.value)
    (asked.answer clean))
    c.tell_lasts.result c.tell_lasts.ensures.told c.tell_lasts.ensures.lacking)
