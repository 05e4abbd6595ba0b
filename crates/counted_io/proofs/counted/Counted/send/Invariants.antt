use Rattle.std.proofs.Common.{length, ◌-◌, ◌≡◌, ◌≤◌, take}
use Rattle.std.specs.Io.KnownBytes.{Appends}
use Rattle.counted_io.proofs.counted.Counted.send.Given as goal

abbrev pub invariant-loop-sent : goal.invariant-loop-sent
invariant-loop-sent g l = record {
  within : l.sent ≤ length l.bytes;
  faults : l.self.faults ≡ l.initial.self.faults;
  written : Appends (g.W.Write.contents l.initial.self.inner) (g.W.Write.contents l.self.inner)
      (take l.sent l.bytes);
}

abbrev pub decreases-loop-sent : goal.decreases-loop-sent
decreases-loop-sent g l = length l.bytes - l.sent
