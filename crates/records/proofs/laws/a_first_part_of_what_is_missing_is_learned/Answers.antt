use Rattle.records.proofs.PartLemmas.{part_own, part_theirs}
use Rattle.records.proofs.laws.a_first_part_of_what_is_missing_is_learned.Goals as goal

pub returns-clause-compatible_left : goal.returns-clause-compatible_left
returns-clause-compatible_left c = part_own

pub returns-clause-compatible_right : goal.returns-clause-compatible_right
returns-clause-compatible_right c = part_theirs
