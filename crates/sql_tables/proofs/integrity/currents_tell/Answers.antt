use Rattle.std.proofs.Common.{arith}
use Rattle.sqlite.specs.Held.{state}
use Rattle.sql_tables.proofs.AskLemmas.{asked_as}
use Rattle.sql_tables.proofs.KeptLemmas.{filled_cells}
use Rattle.sql_tables.proofs.AnsweredLemmas.{currents_alone_answered}
use Rattle.sql_tables.proofs.ShownLemmas.{currents_tell_of, currents_alone_some}
use Rattle.sql_tables.proofs.integrity.currents_tell.Goals as goal

pub shows_none-requires-clause-answered : goal.shows_none-requires-clause-answered
shows_none-requires-clause-answered g c = currents_alone_answered

pub returns : goal.returns
returns g c =
    let old = state g.S.Store c.args.conn.now in
    let new = state g.S.Store c.shows_none.new.conn in
    asked_as old new c.shows_none.result _ _
    (λ clean fit told.
    let early = c.requires.idles (omega (arith, c.shows_none.ensures.crash.clean, clean)) in
    let filled = c.requires.filled (omega (arith, c.shows_none.ensures.crash.clean, clean)) in
    let typed = filled_cells filled.0 old.now.trees filled.2 in (
      λ none. currents_tell_of old.now early.tables
          (c.schema-schema.ensures.live early.is_open).0 typed
          (told.0 none),
      λ some. currents_alone_some old.now early.tables typed (told.1 some),
    )) c.shows_none.ensures
