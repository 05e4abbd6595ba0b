use Rattle.std.proofs.Common.{map, take}
use Rattle.history_text.specs.Arrays.{PutsItems}
use Rattle.history_text.proofs.arrays.put_items.Given as goal

abbrev pub invariant-loop-item : goal.invariant-loop-item
invariant-loop-item g l =
    PutsItems g.T.Item.said l.fn.out l.out (map g.T.Item.alone (take l.item-index l.items))
    (map g.T.Item.again (take l.item-index l.items))
