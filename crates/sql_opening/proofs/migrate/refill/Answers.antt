use Rattle.std.proofs.Common.{◌∙◌, map, arith}
use Rattle.sqlite.specs.State.{HasCleanDisk}
use Rattle.sqlite.specs.Held.{state}
use Rattle.sql_tables.specs.State.{shown_of}
use Rattle.sql_opening.proofs.RenewLemmas.{refilled}
use Rattle.sql_opening.proofs.migrate.refill.Goals as goal

pub returns-clause-made : goal.returns-clause-made
returns-clause-made g c clean =
    let old = state g.S.Store c.args.tx.now.conn.now in
    let emptied = state g.S.Store c.drop_tables.new.tx.conn.now in
    let made = state g.S.Store c.make_tables.new.tx.conn.now in
    let put = state g.S.Store c.put_records.new.tx.conn.now in
    let new = state g.S.Store c.fill_beside.new.tx.conn.now in
    let put_clean : HasCleanDisk put =
    omega (arith, c.in_ok-fill_beside.ensures.crash.clean, clean) in
    let made_clean : HasCleanDisk made =
    omega (arith, c.in_ok-put_records.ensures.crash.clean, put_clean) in
    let emptied_clean : HasCleanDisk emptied =
    omega (arith, c.in_ok-make_tables.ensures.crash.clean, made_clean) in
    let first : HasCleanDisk old =
    omega (arith, c.in_ok-drop_tables.ensures.crash.clean, emptied_clean) in
    let one = c.in_ok-drop_tables.ensures.made emptied_clean in
    let two = rw c.as_bytes.ensures at (c.in_ok-make_tables.ensures.made made_clean) in
    let three = c.in_ok-put_records.ensures.made put_clean in
    let four = c.in_ok-fill_beside.ensures.made clean in (
      four.0,
      four.1 ∙ three.1 ∙ two.2 ∙ one.1,
      refilled c.args.id.now c.args.replica.now
          (map shown_of c.args.rows.now) made.now.trees put.now.trees new.now.trees
          (c.requires.lawful first) two.1 three.2 four.2,
    )
