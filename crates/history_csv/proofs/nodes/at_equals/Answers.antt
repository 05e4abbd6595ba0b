use Rattle.std.proofs.Common.{arith}
use Rattle.history_csv.proofs.NodesLemmas.{split_is}
use Rattle.history_csv.proofs.nodes.at_equals.Goals as goal

pub returns : goal.returns
returns c =
    split_is 61 c.args.text.now c.split_once.result c.split_once.ensures.cases (omega arith)
