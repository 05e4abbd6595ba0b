use Rattle.peer_check.proofs.Truths.{shared}
use Rattle.peer_check.proofs.laws.what_differs_is_found.Goals as goal

pub returns : goal.returns
returns c = shared
