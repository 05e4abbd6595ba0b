use Rattle.hist_update.proofs.Answered.{updated_within, updated_adds, good_stands}
use Rattle.hist_update.proofs.laws.updates_lose_nothing.Goals as goal

pub returns-clause-within : goal.returns-clause-within
returns-clause-within c = updated_within

pub returns-clause-added : goal.returns-clause-added
returns-clause-added c = updated_adds

pub returns-clause-stands : goal.returns-clause-stands
returns-clause-stands c = good_stands
