use Rattle.event_lines.proofs.OneLineEvents.{started, connected, login, denied, updated, broken, ended, called}
use Rattle.event_lines.proofs.laws.a_line_is_one_line.Goals as goal

pub returns-clause-start : goal.returns-clause-start
returns-clause-start c = started

pub returns-clause-connected : goal.returns-clause-connected
returns-clause-connected c = connected

pub returns-clause-login : goal.returns-clause-login
returns-clause-login c = login

pub returns-clause-update : goal.returns-clause-update
returns-clause-update c = updated

pub returns-clause-denial : goal.returns-clause-denial
returns-clause-denial c = denied

pub returns-clause-broken : goal.returns-clause-broken
returns-clause-broken c = broken

pub returns-clause-end : goal.returns-clause-end
returns-clause-end c = ended

pub returns-clause-call : goal.returns-clause-call
returns-clause-call c = called
