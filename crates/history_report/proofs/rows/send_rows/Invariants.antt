use Rattle.std.proofs.Common.{◌≡◌, take}
use Rattle.history_report.specs.Paging.{SentUpTo}
use Rattle.history_report.proofs.rows.send_rows.Given as goal

abbrev pub invariant-loop-row : goal.invariant-loop-row
invariant-loop-row g l = record {
  sent : SentUpTo (g.T.Row.is_line l.report) (take l.row-index l.rows) l.text.items
      (g.W.Write.contents l.fn.output.inner) (g.W.Write.contents l.output.inner);
  faults : l.output.faults ≡ l.fn.output.faults;
}
