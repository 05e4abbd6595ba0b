use Rattle.std.proofs.Common.{◌≡◌, take}
use Rattle.history_report.specs.Reports.{AreLines}
use Rattle.history_report.specs.Paging.{IsPut}
use Rattle.history_report.proofs.portions.append_rows.Given as goal

abbrev pub invariant-loop-row : goal.invariant-loop-row
invariant-loop-row g l = record {
  count : l.count ≡ l.row-index;
  puts : IsPut l.fn.out.items l.out.items
      (AreLines (g.T.Row.is_line l.report) (take l.row-index l.rows));
}
