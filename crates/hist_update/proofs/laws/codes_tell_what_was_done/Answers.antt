use Rattle.hist_update.proofs.Answered.{bad_kept, good_done, bad_or_good}
use Rattle.hist_update.proofs.laws.codes_tell_what_was_done.Goals as goal

pub returns-clause-bad : goal.returns-clause-bad
returns-clause-bad c = bad_kept

pub returns-clause-good : goal.returns-clause-good
returns-clause-good c = good_done

pub returns-clause-either : goal.returns-clause-either
returns-clause-either c = bad_or_good
