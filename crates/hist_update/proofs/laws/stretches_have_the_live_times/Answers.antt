use Rattle.hist_update.proofs.LiveTimes.{doomed_has, doomed_rise}
use Rattle.hist_update.proofs.laws.stretches_have_the_live_times.Goals as goal

pub returns-clause-members : goal.returns-clause-members
returns-clause-members c = doomed_has

pub returns-clause-order : goal.returns-clause-order
returns-clause-order c = doomed_rise
