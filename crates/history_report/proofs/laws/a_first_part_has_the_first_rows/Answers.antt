use Rattle.history_report.proofs.PartLemmas.{end_within}
use Rattle.history_report.proofs.laws.a_first_part_has_the_first_rows.Goals as goal

pub returns-clause-asked : goal.returns-clause-asked
returns-clause-asked c = end_within
