use Rattle.history_report.proofs.WholeLemmas.{first_broken, first_few, first_started}
use Rattle.history_report.proofs.laws.first_portions_are_the_first_lines.Goals as goal

pub returns-clause-first : goal.returns-clause-first
returns-clause-first c = first_started

pub returns-clause-broken : goal.returns-clause-broken
returns-clause-broken c = first_broken

pub returns-clause-few : goal.returns-clause-few
returns-clause-few c = first_few
