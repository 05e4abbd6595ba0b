use Rattle.std.proofs.Common.{◌≡◌}
use Rattle.archive.specs.Store.{IsAskedWithin}
use Rattle.history_report.proofs.WalkLemmas.{Stays}
use Rattle.history_report.proofs.drawing.walk.Given as goal

abbrev pub invariant-loop : goal.invariant-loop
invariant-loop g l = record {
  stays : Stays (g.A.Archive.state l.fn.archive) (g.A.Archive.state l.archive);
  within : l.pages.within ≡ l.fn.pages.within;
  asked : IsAskedWithin 8 (g.A.Archive.asked l.fn.archive) (g.A.Archive.asked l.archive);
}
