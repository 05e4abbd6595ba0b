use Rattle.std.proofs.Common.{◌-◌, ◌≤◌, length}
use Rattle.std.specs.Io.KnownBytes.{Consumes}
use Rattle.ua_client.proofs.client.read_exactly.Given as goal

abbrev pub invariant-reads : goal.invariant-reads
invariant-reads g l = record {
  read : Consumes (g.R.Read.remaining l.initial.reader.inner) (g.R.Read.remaining l.reader.inner)
      l.bytes.items;
  within : length l.bytes.items ≤ l.count;
}

abbrev pub decreases-reads : goal.decreases-reads
decreases-reads g l = l.count - length l.bytes.items
