use Rattle.std.proofs.Common.{◌≡◌, ◌++◌}
use Rattle.std.specs.Vec.Iter.{into_iter_items}
use Rattle.hist_read.specs.Reads.{value_items}
use Rattle.hist_read.proofs.raw.push_values.Given as goal

-- the items so far, and the values that are left
abbrev pub invariant-loop-held : goal.invariant-loop-held
invariant-loop-held l = l.items.items ++ value_items (into_iter_items l.held-iterator)
    ≡ l.initial.items.items ++ value_items l.fn.body.items
