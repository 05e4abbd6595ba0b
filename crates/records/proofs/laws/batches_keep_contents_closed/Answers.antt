use Rattle.records.proofs.PartLemmas.{batch_closed, batch_above, batch_only, batch_compatible}
use Rattle.records.proofs.laws.batches_keep_contents_closed.Goals as goal

pub returns-clause-closed : goal.returns-clause-closed
returns-clause-closed c = batch_closed

pub returns-clause-above : goal.returns-clause-above
returns-clause-above c = batch_above

pub returns-clause-only : goal.returns-clause-only
returns-clause-only c = batch_only

pub returns-clause-compatible : goal.returns-clause-compatible
returns-clause-compatible c = batch_compatible
