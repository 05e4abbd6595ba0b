use Rattle.std.proofs.Common.{[], take}
use Rattle.archive.specs.Store.{IsAskedWithin}
use Rattle.history_report.specs.Paging.{IsPut}
use Rattle.settings_check.specs.Stored.{IsVectorOf, Reads}
use Rattle.web_page.specs.Front.{AreRows}
use Rattle.web_page.proofs.front.put_rows.Given as goal

abbrev pub invariant-loop-one : goal.invariant-loop-one
invariant-loop-one g l = record {
  told : Reads (g.A.Archive.state l.fn.archive) (g.A.Archive.state l.archive) []
      (λ R. IsVectorOf l.within R → IsPut l.initial.out.items l.out.items
      (AreRows l.overview.settings.now.space l.overview.now R (take l.one-index l.listed)));
  asked : IsAskedWithin 1 (g.A.Archive.asked l.fn.archive) (g.A.Archive.asked l.archive);
}
