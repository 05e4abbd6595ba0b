use Rattle.std.proofs.Common.{◌≡◌, length}
use Rattle.multiplex.specs.Serving.{AreAllFree}
use Rattle.ua_server.proofs.connections.free_slots.Given as goal

abbrev pub invariant-loop : goal.invariant-loop
invariant-loop g l = record {
  free : AreAllFree l.slots.items;
  count : length l.slots.items ≡ l.counter;
}
