use Rattle.hist_read.proofs.Carried.{size_is}
use Rattle.hist_read.proofs.node.read_size.Goals as goal

pub returns : goal.returns
returns c =
    size_is c.args.read.now c.size.result c.saturating_add-front.result
    c.saturating_add-head.result c.body_size.result c.saturating_add.result c.head_size.result
    c.requires c.size.ensures.counted c.saturating_add-front.ensures c.head_size.ensures.value
    c.head_size.ensures.small c.saturating_add-head.ensures c.body_size.ensures
    c.saturating_add.ensures
