use Rattle.std.proofs.Common.{◌+◌, arith, refl, ap, ◌∙◌, inl, inr}
use Rattle.history_report.proofs.PortionLemmas.{rows-none, rows-next, rows-first, rows-stop}
use Rattle.history_report.proofs.portions.append_rows.Goals as goal

pub loop-row-init : goal.loop-row-init
loop-row-init g c = record {
  count = refl;
  puts = rows-none (g.T.Row.is_line c.args.report.now) g.T.Row.is_textless c.args.rows.now
      c.args.out.now.items;
}

pub loop-row-preserved : goal.loop-row-preserved
loop-row-preserved g c = record {
  count = ap (λ n. n + 1) c.loop-row.invariant.count;
  puts = rows-next (g.T.Row.is_line c.args.report.now) g.T.Row.is_textless c.args.rows.now
      c.args.out.now.items c.loop-row.out.items c.put_line.new.out.items c.loop-row.row-index
      c.row-item.result (omega arith) c.loop-row.invariant.puts
      (rw (← c.row-item.is) c.in-Ok.ensures.written);
}

pub returns-in-Err : goal.returns-in-Err
returns-in-Err g c =
    rows-stop (g.T.Row.is_line c.args.report.now) g.T.Row.is_textless c.args.rows.now
    c.args.out.now.items c.loop-row.out.items c.put_line.new.out.items c.take_back.new.out.items
    c.loop-row.row-index c.len-start.result c.row-item.result c.in-Err.fault c.take_back.result
    (c.len-start.ensures ∙ c.args.out.now.ok.0) (omega arith) c.loop-row.invariant.puts
    c.in-Err.ensures.kept
    (rw (← c.row-item.is) c.in-Err.ensures.refused) c.take_back.ensures.told
    c.take_back.ensures.kept

pub returns-then-saturating_sub-ge-LONG : goal.returns-then-saturating_sub-ge-LONG
returns-then-saturating_sub-ge-LONG g c =
    rows-first (g.T.Row.is_line c.args.report.now) g.T.Row.is_textless c.args.rows.now
    c.args.out.now.items c.put_line.new.out.items (c.loop-row.count + 1) (c.loop-row.row-index + 1)
    (ap (λ n. n + 1) c.loop-row.invariant.count) (omega arith)
    (inr (
      omega arith,
      omega (
        arith,
        c.len-start.ensures,
        c.args.out.now.ok.0,
        c.len.ensures,
        c.saturating_sub.ensures,
        c.if-saturating_sub-ge-LONG.true,
      ),
    ))
    (rows-next (g.T.Row.is_line c.args.report.now) g.T.Row.is_textless c.args.rows.now
    c.args.out.now.items c.loop-row.out.items c.put_line.new.out.items c.loop-row.row-index
    c.row-item.result (omega arith) c.loop-row.invariant.puts
    (rw (← c.row-item.is) c.in-Ok.ensures.written))

pub returns : goal.returns
returns g c =
    rows-first (g.T.Row.is_line c.args.report.now) g.T.Row.is_textless c.args.rows.now
    c.args.out.now.items c.loop-row.out.items c.loop-row.count c.loop-row.row-index
    c.loop-row.invariant.count (omega arith) (inl (omega arith)) c.loop-row.invariant.puts
