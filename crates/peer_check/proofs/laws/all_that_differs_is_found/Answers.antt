use Rattle.peer_check.proofs.Truths.{all_shared}
use Rattle.peer_check.proofs.laws.all_that_differs_is_found.Goals as goal

pub returns : goal.returns
returns c = all_shared
