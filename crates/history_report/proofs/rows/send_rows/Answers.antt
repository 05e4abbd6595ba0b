use Rattle.std.proofs.Common.{arith, refl, ◌∙◌}
use Rattle.history_report.proofs.LineLemmas.{sent-none, sent-next, sent-broken, sent-all, sent-stops}
use Rattle.history_report.proofs.rows.send_rows.Goals as goal

pub loop-row-init : goal.loop-row-init
loop-row-init g c = record {
  sent = sent-none (g.T.Row.is_line c.args.report.now) g.T.Row.is_textless c.args.rows.now
      (g.W.Write.contents c.args.output.now.inner) c.clear.new.self.items c.clear.ensures.items;
  faults = refl;
}

pub returns-in-Err-clause-sends : goal.returns-in-Err-clause-sends
returns-in-Err-clause-sends g c =
    let contents = g.W.Write.contents in
    sent-stops (g.T.Row.is_line c.args.report.now) g.T.Row.is_textless c.args.rows.now
    (contents c.args.output.now.inner) c.loop-row.row-index c.row-item.result
    c.loop-row.text.items c.put_line.new.out.items (contents c.loop-row.output.inner)
    (contents c.send_before.new.output.inner) c.in-Err.fault c.send_before.result (omega arith)
    c.loop-row.invariant.sent c.in-Err.ensures.kept
    (rw (← c.row-item.is) c.in-Err.ensures.refused) c.send_before.ensures.sends

pub returns-in-Err-send_long-clause-sends : goal.returns-in-Err-send_long-clause-sends
returns-in-Err-send_long-clause-sends g c =
    let contents = g.W.Write.contents in
    sent-broken (g.T.Row.is_line c.args.report.now) g.T.Row.is_textless c.args.rows.now
    (contents c.args.output.now.inner) c.loop-row.text.items c.put_line.new.out.items
    c.send_long.new.text.items (contents c.loop-row.output.inner)
    (contents c.send_long.new.output.inner) c.loop-row.row-index c.row-item.result
    c.in-Err-send_long.fault (omega arith) c.loop-row.invariant.sent
    (rw (← c.row-item.is) c.in-Ok.ensures.written) c.in-Err-send_long.ensures.sends

pub loop-row-preserved : goal.loop-row-preserved
loop-row-preserved g c =
    let contents = g.W.Write.contents in
    record {
      sent = sent-next (g.T.Row.is_line c.args.report.now) g.T.Row.is_textless c.args.rows.now
          (contents c.args.output.now.inner) c.loop-row.text.items c.put_line.new.out.items
          c.send_long.new.text.items (contents c.loop-row.output.inner)
          (contents c.send_long.new.output.inner) c.loop-row.row-index c.row-item.result
          (omega arith) c.loop-row.invariant.sent (rw (← c.row-item.is) c.in-Ok.ensures.written)
          c.in-Ok-send_long.ensures.sends;
      faults = c.in-Ok-send_long.ensures.kept (λ e. cc) ∙ c.loop-row.invariant.faults;
    }

pub returns-clause-sends : goal.returns-clause-sends
returns-clause-sends g c =
    let contents = g.W.Write.contents in
    sent-all (g.T.Row.is_line c.args.report.now) g.T.Row.is_textless c.args.rows.now
    (contents c.args.output.now.inner) c.loop-row.row-index c.loop-row.text.items
    (contents c.loop-row.output.inner) (contents c.send_text.new.output.inner) c.send_text.result
    (omega arith) c.loop-row.invariant.sent c.send_text.ensures.sends
