use Rattle.exchange.proofs.StreamLemmas.{frames_kept, frames_end}
use Rattle.exchange.proofs.laws.frames_are_kept.Goals as goal

pub returns-clause-kept : goal.returns-clause-kept
returns-clause-kept c = frames_kept

pub returns-clause-ends : goal.returns-clause-ends
returns-clause-ends c = frames_end
