use Rattle.exchange.proofs.Growths.{updates_happen}
use Rattle.exchange.proofs.laws.updates_are_events.Goals as goal

pub returns : goal.returns
returns c = updates_happen
