use Rattle.std.proofs.Common.{◌≡◌, ◌≤◌, length, take}
use Rattle.stamp.specs.Numbers.{entries}
use Rattle.stamp.proofs.vectors.count_entries.Given as goal

abbrev pub invariant-loop-number : goal.invariant-loop-number
invariant-loop-number l = (l.count ≡ length (entries (take l.number-index l.numbers)))
    × (l.count ≤ l.number-index)
