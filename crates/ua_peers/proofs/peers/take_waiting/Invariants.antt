use Rattle.std.proofs.Common.{◌≡◌, false, length}
use Rattle.ua_peers.specs.Talking.{IsReady, IsNoLess, DrainedSoFar}
use Rattle.ua_peers.proofs.peers.take_waiting.Given as goal

abbrev pub invariant-turns : goal.invariant-turns
invariant-turns g l = record {
  ready : IsReady l.dialog;
  sound : l.frames.failed ≡ false;
  no_less : IsNoLess l.initial.frames l.frames l.initial.dialog l.dialog;
  faults : l.writer.faults ≡ l.initial.writer.faults;
  so_far : DrainedSoFar l.initial.dialog (g.A.Archive.state l.initial.replica.archive)
      (g.A.Archive.state l.replica.archive) (g.W.Write.contents l.initial.writer.inner)
      (g.W.Write.contents l.writer.inner) l.initial.frames.waiting l.frames.waiting l.dialog;
}

abbrev pub decreases-turns : goal.decreases-turns
decreases-turns g l = length l.frames.waiting
