use Rattle.std.proofs.Common.{Err, arith}
use Rattle.sqlite.specs.Held.{state}
use Rattle.sql_tables.proofs.AskLemmas.{rests_of, stays_of, asked_found, told_failed}
use Rattle.sql_tables.proofs.WriteLemmas.{holds_as}
use Rattle.sql_tables.proofs.integrity.ids_in.Goals as goal

pub returns-in-Ok-Ok : goal.returns-in-Ok-Ok
returns-in-Ok-Ok g c =
    let old = state g.S.Store c.args.conn.now in
    let new = state g.S.Store c.count_ids.new.conn in
    let e = c.in-Ok-Ok.ensures in
    record {
      answer = λ clean. rw c.in-Ok-Ok.field-0-is at (e.counted clean);
      kept = λ clean ok. let idles = c.requires.idles (omega (arith, e.crash.clean, clean)) in
          stays_of old new idles (holds_as old new (rests_of old idles) (e.same clean));
      met = tt;
      refused = λ clean. tt;
      crash = e.crash;
    }

pub returns-in-Err : goal.returns-in-Err
returns-in-Err g c =
    let a = state g.S.Store c.args.conn.now in
    let b = state g.S.Store c.count_ids.new.conn in
    let d = state g.S.Store c.fault_of.new.conn in
    asked_found _ a d (Err c.fault_of.result) _ c.requires.idles
    (told_failed a b d c.in-Err.error c.fault_of.result _ c.in-Err.ensures.refused
    c.in-Err.ensures.stopped c.in-Err.ensures.crash c.fault_of.ensures.alive
    c.fault_of.ensures.met c.fault_of.ensures.refused c.fault_of.ensures.crash)
