use Rattle.hist_update.proofs.Answered.{updated_closed}
use Rattle.hist_update.proofs.LawfulUpdates.{updated_lawful}
use Rattle.hist_update.proofs.laws.updates_keep_contents_lawful.Goals as goal

pub returns-clause-closed : goal.returns-clause-closed
returns-clause-closed c = updated_closed

pub returns-clause-lawful : goal.returns-clause-lawful
returns-clause-lawful c = updated_lawful
