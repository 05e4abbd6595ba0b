use Rattle.std.proofs.Common.{◌≡◌, ◌++◌, map}
use Rattle.std.specs.Vec.Iter.{into_iter_items}
use Rattle.hist_read.specs.Showing.{shown}
use Rattle.hist_read.proofs.showing.show_items.Given as goal

-- the values so far, and the items that are left
abbrev pub invariant-loop-item : goal.invariant-loop-item
invariant-loop-item l = l.values.items ++ map (shown l.fn.stamps) (into_iter_items l.item-iterator)
    ≡ map (shown l.fn.stamps) l.fn.items.items
