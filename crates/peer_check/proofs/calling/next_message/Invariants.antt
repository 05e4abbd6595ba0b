use Rattle.std.proofs.Common.{◌≡◌, ◌-◌, ◌++◌, ℕ, List, length, false}
use Rattle.std.specs.Io.KnownBytes.{Consumes}
use Rattle.peer_check.proofs.calling.next_message.Given as goal

abbrev pub invariant-reads : goal.invariant-reads
invariant-reads g l = record {
  sound : l.frames.failed ≡ false;
  came : List ℕ;
  read : Consumes (g.R.Read.remaining l.initial.reader.inner) (g.R.Read.remaining l.reader.inner) came;
  waits : l.frames.waiting ≡ l.initial.frames.waiting ++ came;
  faults : l.reader.faults ≡ l.initial.reader.faults;
}

abbrev pub decreases-reads : goal.decreases-reads
decreases-reads g l = 2097152 - length l.frames.waiting
