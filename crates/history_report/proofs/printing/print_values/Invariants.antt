use Rattle.std.proofs.Common.{◌≡◌}
use Rattle.archive.specs.Store.{IsAskedWithin}
use Rattle.history_report.specs.Reports.{IsValueLine}
use Rattle.history_report.specs.Paging.{Printing, values_left}
use Rattle.history_report.proofs.printing.print_values.Given as goal

abbrev pub invariant-loop : goal.invariant-loop
invariant-loop g l = record {
  so_far : Printing (IsValueLine l.report) (g.A.Archive.state l.fn.archive)
      (g.A.Archive.state l.archive) (values_left l.report.node l.fn.pages)
      (values_left l.report.node l.pages)
      (g.W.Write.contents l.fn.output.inner) (g.W.Write.contents l.output.inner);
  faults : l.output.faults ≡ l.fn.output.faults;
  asked : IsAskedWithin 8 (g.A.Archive.asked l.fn.archive) (g.A.Archive.asked l.archive);
}
