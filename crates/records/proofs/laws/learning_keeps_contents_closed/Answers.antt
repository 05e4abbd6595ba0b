use Rattle.records.proofs.LearnLemmas.{closed-learned, learned_within}
use Rattle.records.proofs.laws.learning_keeps_contents_closed.Goals as goal

pub returns-clause-closed : goal.returns-clause-closed
returns-clause-closed c = closed-learned

pub returns-clause-within : goal.returns-clause-within
returns-clause-within c = learned_within
