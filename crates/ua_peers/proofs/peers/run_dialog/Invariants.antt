use Rattle.std.proofs.Common.{◌≡◌, false, length, ◌-◌, ◌*◌, ◌+◌, Ok, None}
use Rattle.exchange.specs.Frames.{frame_header}
use Rattle.ua_peers.specs.Talking.{IsReady, MeetsSoFar}
use Rattle.ua_peers.proofs.peers.run_dialog.Given as goal

abbrev pub invariant-reads : goal.invariant-reads
invariant-reads g l = record {
  ready : IsReady l.dialog;
  sound : l.frames.failed ≡ false;
  short : frame_header l.frames.waiting ≡ Ok None;
  read_faults : l.reader.faults ≡ l.initial.reader.faults;
  write_faults : l.writer.faults ≡ l.initial.writer.faults;
  so_far : MeetsSoFar l.initial.dialog (g.A.Archive.state l.initial.replica.archive)
      (g.A.Archive.state l.replica.archive) l.first (g.R.Read.remaining l.initial.reader.inner)
      (g.R.Read.remaining l.reader.inner)
      (g.W.Write.contents l.initial.writer.inner)
      (g.W.Write.contents l.writer.inner) l.frames.waiting l.dialog;
}

-- a frame has at most 2,097,152 bytes, and less than one waits
abbrev pub decreases-reads : goal.decreases-reads
decreases-reads g l = 2097152 * 1000001 - (2097152 * l.dialog.taken + length l.frames.waiting)
