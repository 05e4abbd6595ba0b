use Rattle.std.proofs.Common.{subst}
use Rattle.history_text.specs.Arrays.{PutsItem}
use Rattle.history_text.proofs.ItemsLemmas.{values_push}
use Rattle.history_text.proofs.arrays.put_items.Goals as goal

pub loop-item-preserved : goal.loop-item-preserved
loop-item-preserved g c =
    values_push g.T.Item.said c.args.out.now c.loop-item.out c.put.new.out g.T.Item.alone
    g.T.Item.again c.args.items.now c.loop-item.item-index c.item-item.result c.loop-item-test.true
    c.loop-item.invariant (subst
    (λ x. PutsItem g.T.Item.said c.loop-item.out c.put.new.out (g.T.Item.alone x)
    (g.T.Item.again x)) c.item-item.is c.in_ok-put.ensures.put)
