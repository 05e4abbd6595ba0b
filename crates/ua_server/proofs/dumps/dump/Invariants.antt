use Rattle.std.proofs.Common.{◌≡◌}
use Rattle.archive.specs.Store.{IsAskedWithin}
use Rattle.ua_server.specs.Dumping.{Dumping}
use Rattle.ua_server.proofs.dumps.dump.Given as goal

abbrev pub invariant-loop : goal.invariant-loop
invariant-loop g l = record {
  so_far : Dumping (g.A.Archive.state l.fn.archive) (g.A.Archive.state l.archive) l.known
      (g.W.Write.contents l.fn.output.inner) (g.W.Write.contents l.output.inner);
  faults : l.output.faults ≡ l.fn.output.faults;
  asked : IsAskedWithin 16 (g.A.Archive.asked l.fn.archive) (g.A.Archive.asked l.archive);
}
