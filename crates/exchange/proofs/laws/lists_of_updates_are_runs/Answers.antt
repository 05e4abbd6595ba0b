use Rattle.exchange.proofs.WorldLemmas.{list_run}
use Rattle.exchange.proofs.laws.lists_of_updates_are_runs.Goals as goal

pub returns : goal.returns
returns c = list_run
