use Rattle.std.proofs.Common.{◌≡◌, ◌-◌, ◌^◌, vec_len}
use Rattle.std.specs.Io.KnownBytes.{Consumes}
use Rattle.ua_server.proofs.single.read_all.Given as goal

abbrev pub invariant-pieces : goal.invariant-pieces
invariant-pieces g l = record {
  faults : l.input.faults ≡ l.initial.input.faults;
  so_far : Consumes (g.R.Read.remaining l.initial.input.inner)
      (g.R.Read.remaining l.input.inner) l.bytes.items;
}

abbrev pub decreases-pieces : goal.decreases-pieces
decreases-pieces g l = 2 ^ 64 - vec_len l.bytes
