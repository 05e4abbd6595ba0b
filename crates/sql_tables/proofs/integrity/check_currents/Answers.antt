use Rattle.std.proofs.Common.{rules, ◌≡◌, Err}
use Rattle.sqlite.specs.Held.{state}
use Rattle.sql_tables.specs.Agreeing.{HasCurrents}
use Rattle.sql_tables.specs.Connections.{tables_of}
use Rattle.sql_tables.proofs.AgreedLemmas.{checked_currents, fourth_failed}
use Rattle.sql_tables.proofs.integrity.check_currents.Goals as goal

pub returns-in_err-_held : goal.returns-in_err-_held
returns-in_err-_held g c =
    let told : c.from_residual-in_err-_held.result ≡ Err c.in_err-_held.field-0.0 = search rules in
    fourth_failed (state g.S.Store c.args.conn.now) (state g.S.Store c.currents_stand.new.conn)
    (state g.S.Store c.currents_tell.new.conn) (state g.S.Store c.currents_show.new.conn)
    (state g.S.Store c.currents_held.new.conn) c.in_ok-stand.stand c.in_ok-tell.tell
    c.in_ok-show.show c.in_err-_held.field-0.0 _ _ _ _
    (λ _. HasCurrents (tables_of g.S.Store c.args.conn.now))
    c.in_ok-stand.ensures c.in_ok-tell.ensures c.in_ok-show.ensures c.in_err-_held.ensures
    c.from_residual-in_err-_held.result told

pub returns : goal.returns
returns g c =
    checked_currents (state g.S.Store c.args.conn.now) (state g.S.Store c.currents_stand.new.conn)
    (state g.S.Store c.currents_tell.new.conn) (state g.S.Store c.currents_show.new.conn)
    (state g.S.Store c.currents_held.new.conn) c.in_ok-stand.stand c.in_ok-tell.tell
    c.in_ok-show.show c.in_ok-_held._held
    c.requires.filled c.in_ok-stand.ensures c.in_ok-tell.ensures c.in_ok-show.ensures
    c.in_ok-_held.ensures c.all_hold.result
    c.all_hold.ensures.same c.all_hold.ensures.met c.all_hold.ensures.refused
