use Rattle.archive.proofs.Logs.{log_of_has, log_goes}
use Rattle.archive.proofs.Resuming.{log_resumes}
use Rattle.archive.proofs.laws.logs_have_the_modifications.Goals as goal

pub returns-clause-members : goal.returns-clause-members
returns-clause-members c = log_of_has

pub returns-clause-order : goal.returns-clause-order
returns-clause-order c = log_goes

pub returns-clause-resumes : goal.returns-clause-resumes
returns-clause-resumes c = log_resumes
