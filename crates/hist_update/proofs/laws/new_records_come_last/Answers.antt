use Rattle.hist_update.proofs.NewRecords.{new_next, new_above, new_last, new_written, new_deleted}
use Rattle.hist_update.proofs.laws.new_records_come_last.Goals as goal

pub returns-clause-next : goal.returns-clause-next
returns-clause-next c = new_next

pub returns-clause-above : goal.returns-clause-above
returns-clause-above c = new_above

pub returns-clause-last : goal.returns-clause-last
returns-clause-last c = new_last

pub returns-clause-written : goal.returns-clause-written
returns-clause-written c = new_written

pub returns-clause-deleted : goal.returns-clause-deleted
returns-clause-deleted c = new_deleted
