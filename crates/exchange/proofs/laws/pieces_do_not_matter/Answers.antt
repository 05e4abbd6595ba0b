use Rattle.exchange.proofs.StreamLemmas.{runs_one, readings_one}
use Rattle.exchange.proofs.laws.pieces_do_not_matter.Goals as goal

pub returns-clause-runs : goal.returns-clause-runs
returns-clause-runs c = runs_one

pub returns-clause-reading : goal.returns-clause-reading
returns-clause-reading c = readings_one
