use Rattle.history_report.proofs.WholeLemmas.{portions_part, portions_whole}
use Rattle.history_report.proofs.laws.all_portions_are_the_whole.Goals as goal

pub returns-clause-whole : goal.returns-clause-whole
returns-clause-whole c = portions_whole

pub returns-clause-part : goal.returns-clause-part
returns-clause-part c = portions_part
