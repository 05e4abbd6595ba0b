use Rattle.web_page.specs.Calls.{overview_of}
use Rattle.web_connection.specs.Answers.{sending_of}
use Rattle.web_connection.proofs.StepLemmas.{first-denied, first-next, goes-denied, goes-next}
use Rattle.web_connection.proofs.connection.tell_next.Goals as goal

pub returns-in-None-clause-answers : goal.returns-in-None-clause-answers
returns-in-None-clause-answers g c =
    let state = g.A.Archive.state in
    first-next (overview_of c.args.overview) c.args.came.now c.args.sending (state c.args.archive.now)
    (state c.answer_first.new.archive) c.answer_first.result c.in-None.is
    c.answer_first.ensures.answers

pub returns-in-None-clause-denied : goal.returns-in-None-clause-denied
returns-in-None-clause-denied g c =
    first-denied c.args.overview.settings.now c.args.came.now c.args.sending c.answer_first.result
    c.in-None.is c.answer_first.ensures.denied

pub returns-in-Ok-clause-answers : goal.returns-in-Ok-clause-answers
returns-in-Ok-clause-answers g c =
    let state = g.A.Archive.state in
    goes-next (overview_of c.args.overview) c.args.came.now c.args.sending c.in-Some.left
    (state c.args.archive.now) (state c.next_portion.new.archive) c.in-Ok.told.text.items
    (sending_of c.in-Ok.told.rest) c.in-Some.is c.in-Ok.ensures.answers

pub returns-in-Ok-clause-denied : goal.returns-in-Ok-clause-denied
returns-in-Ok-clause-denied g c =
    goes-denied c.args.overview.settings.now c.args.came.now c.args.sending c.in-Some.left
    c.in-Ok.told.rest c.in-Some.is c.in-Ok.ensures.let_in
