use Rattle.std.proofs.Common.{◌≡◌}
use Rattle.archive.specs.Store.{IsAskedWithin}
use Rattle.history_report.specs.Reports.{IsChangeLine}
use Rattle.history_report.specs.Paging.{Printing, changes_left}
use Rattle.history_report.proofs.printing.print_changes.Given as goal

abbrev pub invariant-loop : goal.invariant-loop
invariant-loop g l = record {
  so_far : Printing (IsChangeLine l.report) (g.A.Archive.state l.fn.archive)
      (g.A.Archive.state l.archive) (changes_left l.report.node l.fn.pages)
      (changes_left l.report.node l.pages)
      (g.W.Write.contents l.fn.output.inner) (g.W.Write.contents l.output.inner);
  faults : l.output.faults ≡ l.fn.output.faults;
  asked : IsAskedWithin 8 (g.A.Archive.asked l.fn.archive) (g.A.Archive.asked l.archive);
}
