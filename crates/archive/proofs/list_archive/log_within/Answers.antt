use Rattle.stamp.specs.Numbers.{number_of}
use Rattle.records.specs.Contents.{cut}
use Rattle.archive.proofs.Narrow.{own_log}
use Rattle.archive.proofs.list_archive.log_within.Goals as goal

pub returns-clause-value : goal.returns-clause-value
returns-clause-value c = rw (
  c.deref.ensures.value,
  c.in_ok-records.ensures.value,
  own_log (cut c.args.records.now (number_of c.args.within.now)) c.args.node.now,
) at
    c.log_of_node.ensures.value
