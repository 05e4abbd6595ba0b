use Rattle.std.proofs.Common.{◌≡◌, ◌≤◌, take}
use Rattle.exchange.specs.Ahead.{lacking_of, piece}
use Rattle.exchange.proofs.ahead.piece_end.Given as goal

abbrev pub invariant-loop-end : goal.invariant-loop-end
invariant-loop-end l = record {
  counted : l.lacking ≡ lacking_of l.held (take l.end l.records);
  few : l.lacking ≤ piece;
}
