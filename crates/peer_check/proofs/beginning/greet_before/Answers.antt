use Rattle.std.proofs.Common.{subst}
use Rattle.exchange.specs.Frames.{IsTitle}
use Rattle.peer_check.proofs.BeginningLemmas.{greets_before}
use Rattle.peer_check.proofs.beginning.greet_before.Goals as goal

pub returns-clause-greets : goal.returns-clause-greets
returns-clause-greets g c =
    let lawful = subst IsTitle c.title_of.ensures.is c.title_of.ensures.lawful in
    greets_before _ _ c.in_ok-held.held c.vector_before_last-numbers.result _ _ c.title_of.result
    c.put_message.result c.in_ok-held.ensures.asks c.vector_before_last-numbers.ensures
    lawful.vector c.title_of.ensures.is c.put_message.ensures
