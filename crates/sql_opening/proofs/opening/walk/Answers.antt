use Rattle.sqlite.specs.Held.{state}
use Rattle.std.proofs.Common.{arith}
use Rattle.sql_opening.proofs.OpenLemmas.{checked_is, walked_told, walked_failed}
use Rattle.sql_tables.proofs.AskLemmas.{told_failed}
use Rattle.sql_tables.proofs.WriteLemmas.{holds_as}
use Rattle.sql_opening.proofs.opening.walk.Goals as goal

pub returns-in-Ok-Ok : goal.returns-in-Ok-Ok
returns-in-Ok-Ok g c =
    let old = state g.S.Store c.args.conn.now in
    let new = state g.S.Store c.check_rows.new.conn in
    let e = c.in-Ok-Ok.ensures in
    record {
      answer = λ clean. checked_is old.now.trees c.in-Ok-Ok.walk
          (rw c.in-Ok-Ok.field-0-is at (e.checked clean));
      kept =
          λ clean ok. holds_as old new (c.requires.rests (omega (arith, e.crash.clean, clean)))
          (e.same clean);
      met = tt;
      refused = λ clean. tt;
      crash = e.crash;
    }

pub returns-in-Ok-Err : goal.returns-in-Ok-Err
returns-in-Ok-Err g c =
    let old = state g.S.Store c.args.conn.now in
    let new = state g.S.Store c.check_rows.new.conn in
    let e = c.in-Ok-Err.ensures in
    walked_told old new c.in-Ok-Err.fault _ (rw c.in-Ok-Err.field-0-is at e.met)
    (λ clean. rw c.in-Ok-Err.field-0-is at (e.refuted clean))
    (λ clean. holds_as old new (c.requires.rests (omega (arith, e.crash.clean, clean)))
    (e.same clean)) e.crash

pub returns-in-Err : goal.returns-in-Err
returns-in-Err g c =
    walked_failed _ (state g.S.Store c.args.conn.now)
    (state g.S.Store c.fault_of.new.conn) c.fault_of.result _
    (told_failed (state g.S.Store c.args.conn.now) (state g.S.Store c.check_rows.new.conn)
    (state g.S.Store c.fault_of.new.conn) c.in-Err.error c.fault_of.result _
    c.in-Err.ensures.refused
    c.in-Err.ensures.stopped c.in-Err.ensures.crash c.fault_of.ensures.alive
    c.fault_of.ensures.met c.fault_of.ensures.refused c.fault_of.ensures.crash)
