use Rattle.hist_read.proofs.Cutting.{covered_as}
use Rattle.hist_read.proofs.node.is_covered.Goals as goal

pub returns : goal.returns
returns c = covered_as c.args.vector.now c.args.own.now c.at_least.result c.first_number.ensures
    c.first_number-2.ensures c.at_least.ensures.0 c.at_least.ensures.1
