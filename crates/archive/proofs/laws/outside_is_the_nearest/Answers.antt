use Rattle.archive.proofs.Ranges.{outside_nearest}
use Rattle.archive.proofs.laws.outside_is_the_nearest.Goals as goal

pub returns-clause-nearest : goal.returns-clause-nearest
returns-clause-nearest c = outside_nearest
