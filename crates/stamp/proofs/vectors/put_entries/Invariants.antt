use Rattle.std.proofs.Common.{◌≡◌, ◌++◌, take}
use Rattle.stamp.specs.Numbers.{entries}
use Rattle.stamp.proofs.Putting.{entry_bytes}
use Rattle.stamp.proofs.vectors.put_entries.Given as goal

abbrev pub invariant-loop-i : goal.invariant-loop-i
invariant-loop-i l = l.out.items ≡ l.fn.out.items ++ entry_bytes (entries (take l.i l.numbers))
