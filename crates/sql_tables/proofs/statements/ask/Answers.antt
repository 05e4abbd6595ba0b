use Rattle.std.proofs.Common.{arith}
use Rattle.sqlite.specs.Held.{state}
use Rattle.sql_tables.proofs.AskLemmas.{told_failed}
use Rattle.sql_tables.proofs.WriteLemmas.{holds_as}
use Rattle.sql_tables.proofs.statements.ask.Goals as goal

pub returns-in-Ok : goal.returns-in-Ok
returns-in-Ok g c =
    let old = state g.S.Store c.args.conn.now in
    let new = state g.S.Store c.rows_of.new.conn in
    let e = c.in-Ok.ensures in
    record {
      answer = e.rows;
      kept = λ clean ok. holds_as old new (c.requires.rests (omega (arith, e.crash.clean, clean)))
          (e.same clean);
      met = tt;
      refused = λ clean. tt;
      crash = e.crash;
    }

pub returns-in-Err : goal.returns-in-Err
returns-in-Err g c =
    told_failed (state g.S.Store c.args.conn.now) (state g.S.Store c.rows_of.new.conn)
    (state g.S.Store c.fault_of.new.conn) c.in-Err.error c.fault_of.result _
    c.in-Err.ensures.refused
    c.in-Err.ensures.stopped c.in-Err.ensures.crash c.fault_of.ensures.alive
    c.fault_of.ensures.met c.fault_of.ensures.refused c.fault_of.ensures.crash
