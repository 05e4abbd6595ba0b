use Rattle.hist_read.proofs.Carried.{head_is, nothing_head, raw_head, modified_head}
use Rattle.hist_read.proofs.node.head_size.Goals as goal

pub returns-in-Nothing-clause-value : goal.returns-in-Nothing-clause-value
returns-in-Nothing-clause-value c = head_is _ _ 3 c.in-Nothing.is nothing_head

pub returns-in-Raw-clause-value : goal.returns-in-Raw-clause-value
returns-in-Raw-clause-value c = head_is _ _ 9 c.in-Raw.is (raw_head _)

pub returns-in-Modified-clause-value : goal.returns-in-Modified-clause-value
returns-in-Modified-clause-value c = head_is _ _ 9 c.in-Modified.is (modified_head _ _)
