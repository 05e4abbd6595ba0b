use Rattle.std.proofs.Common.{◌≤◌, length}
use Rattle.records.specs.declared.shown.Entry.{Entry}
use Rattle.archive.specs.Store.{IsAskedWithin}
use Rattle.history_report.specs.Paging.{changes_left}
use Rattle.history_report.proofs.ReadingLemmas.{Timing}
use Rattle.history_report.proofs.parts.change_times.Given as goal

abbrev pub invariant-loop : goal.invariant-loop
invariant-loop g l = record {
  so_far : Timing (λ (e : Entry). e.time) (g.A.Archive.state l.fn.archive)
      (g.A.Archive.state l.archive) (changes_left l.report.node l.fn.pages)
      (changes_left l.report.node l.pages) l.times.items;
  enough : l.counter ≤ length l.times.items;
  asked : IsAskedWithin 8 (g.A.Archive.asked l.fn.archive) (g.A.Archive.asked l.archive);
}
