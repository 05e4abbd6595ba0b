use Rattle.history_report.proofs.WholeLemmas.{texts_part, texts_whole}
use Rattle.history_report.proofs.laws.no_portion_lacks_a_text.Goals as goal

pub returns-clause-whole : goal.returns-clause-whole
returns-clause-whole c = texts_whole

pub returns-clause-part : goal.returns-clause-part
returns-clause-part c = texts_part
