use Rattle.std.proofs.Common.{◌≡◌, ◌-◌}
use Rattle.stamp.specs.Numbers.{IsVector, zeros}
use Rattle.stamp.proofs.Filling.{filling}
use Rattle.stamp.proofs.vectors.read_entries.Given as goal

abbrev pub invariant-loop : goal.invariant-loop
invariant-loop l = record {
  read : filling l.numbers l.last (l.count - l.counter) l.next
      ≡ filling zeros 0 l.count l.fn.cursor;
  vector : IsVector l.numbers;
}
