use Rattle.hist_update.proofs.Stood.{stood_inserted, stood_replaced, stood_deleted, stood_insert, stood_replacement}
use Rattle.hist_update.proofs.laws.codes_tell_what_stood.Goals as goal

pub returns-clause-inserted : goal.returns-clause-inserted
returns-clause-inserted c = stood_inserted

pub returns-clause-replaced : goal.returns-clause-replaced
returns-clause-replaced c = stood_replaced

pub returns-clause-deleted : goal.returns-clause-deleted
returns-clause-deleted c = stood_deleted

pub returns-clause-insert : goal.returns-clause-insert
returns-clause-insert c = stood_insert

pub returns-clause-replacement : goal.returns-clause-replacement
returns-clause-replacement c = stood_replacement
