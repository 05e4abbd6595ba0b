use Rattle.archive.specs.Store.{IsAskedWithin}
use Rattle.history_report.proofs.TextlessLemmas.{Seeking}
use Rattle.history_report.proofs.parts.check_rows.Given as goal

abbrev pub invariant-loop : goal.invariant-loop
invariant-loop g l = record {
  so_far : Seeking g.T.Row.is_textless (g.A.Archive.state l.fn.archive)
      (g.A.Archive.state l.archive) (g.T.Row.left_of l.report.node l.fn.pages)
      (g.T.Row.left_of l.report.node l.pages);
  asked : IsAskedWithin 8 (g.A.Archive.asked l.fn.archive) (g.A.Archive.asked l.archive);
}
