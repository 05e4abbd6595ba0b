use Rattle.std.proofs.Common.{length, ◌-◌, ◌≡◌, ◌≤◌, take}
use Rattle.std.specs.Io.KnownBytes.{Consumes}
use Rattle.ua_server.proofs.either.read_first.Given as goal

abbrev pub invariant-loop-read : goal.invariant-loop-read
invariant-loop-read g l = record {
  length : length l.first ≡ 3;
  within : l.read ≤ 3;
  faults : l.reader.faults ≡ l.initial.reader.faults;
  consumed : Consumes (g.R.Read.remaining l.initial.reader.inner)
      (g.R.Read.remaining l.reader.inner) (take l.read l.first);
}

abbrev pub decreases-loop-read : goal.decreases-loop-read
decreases-loop-read g l = 3 - l.read
