use Rattle.std.proofs.Common.{[], take}
use Rattle.archive.specs.Store.{IsAskedWithin}
use Rattle.history_report.specs.Paging.{IsPut}
use Rattle.settings_check.specs.Stored.{IsVectorOf, TellsVariables, Reads}
use Rattle.settings_check.proofs.storing.tell_each.Given as goal

abbrev pub invariant-loop-node : goal.invariant-loop-node
invariant-loop-node g l = record {
  told : Reads (g.A.Archive.state l.fn.archive) (g.A.Archive.state l.archive) []
      (λ R. IsVectorOf l.within R → IsPut l.initial.out.items l.out.items
      (TellsVariables l.space R (take l.node-index l.nodes)));
  asked : IsAskedWithin 1 (g.A.Archive.asked l.fn.archive) (g.A.Archive.asked l.archive);
}
