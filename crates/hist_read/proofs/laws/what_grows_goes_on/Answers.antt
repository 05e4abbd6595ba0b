use Rattle.hist_read.proofs.Growing.{later_within, later_learned}
use Rattle.hist_read.proofs.laws.what_grows_goes_on.Goals as goal

pub returns-clause-held : goal.returns-clause-held
returns-clause-held c = later_within

pub returns-clause-learned : goal.returns-clause-learned
returns-clause-learned c = later_learned
