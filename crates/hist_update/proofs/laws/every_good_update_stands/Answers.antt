use Rattle.hist_update.proofs.Standing.{writes_stand, deletes_stand, stretches_stand, writes_add, deletes_add, stretches_add, writes_keep, deletes_keep, stretches_keep}
use Rattle.hist_update.proofs.laws.every_good_update_stands.Goals as goal

pub returns-clause-writes : goal.returns-clause-writes
returns-clause-writes c = writes_stand

pub returns-clause-deletes : goal.returns-clause-deletes
returns-clause-deletes c = deletes_stand

pub returns-clause-stretches : goal.returns-clause-stretches
returns-clause-stretches c = stretches_stand

pub returns-clause-added : goal.returns-clause-added
returns-clause-added c = writes_add

pub returns-clause-added_by_deletes : goal.returns-clause-added_by_deletes
returns-clause-added_by_deletes c = deletes_add

pub returns-clause-added_by_stretches : goal.returns-clause-added_by_stretches
returns-clause-added_by_stretches c = stretches_add

pub returns-clause-kept : goal.returns-clause-kept
returns-clause-kept c = writes_keep

pub returns-clause-kept_by_deletes : goal.returns-clause-kept_by_deletes
returns-clause-kept_by_deletes c = deletes_keep

pub returns-clause-kept_by_stretches : goal.returns-clause-kept_by_stretches
returns-clause-kept_by_stretches c = stretches_keep
