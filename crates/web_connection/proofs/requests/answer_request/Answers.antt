use Rattle.std.proofs.Common.{List, [], ℕ, Option, subst, sym}
use Rattle.records.specs.Contents.{Content}
use Rattle.archive.specs.declared.fault.StoreFault.{StoreFault}
use Rattle.web_page.specs.Calls.{overview_of}
use Rattle.web_connection.specs.Answers.{AnswersRequest, TellsAsked}
use Rattle.web_connection.specs.declared.sending.Sending.{Sending}
use Rattle.web_connection.proofs.AskingLemmas.{made-alone}
use Rattle.web_connection.proofs.DenialLemmas.{taken-denied}
use Rattle.web_connection.proofs.PageLemmas.{refused, result-as, taken}
use Rattle.web_connection.proofs.requests.answer_request.Goals as goal

pub returns-in_ok-refusal_text-in-Some-clause-answers :
    goal.returns-in_ok-refusal_text-in-Some-clause-answers
returns-in_ok-refusal_text-in-Some-clause-answers g c =
    let state = g.A.Archive.state in
    let overview = overview_of c.args.overview in
    let request = c.args.request in
    let text = c.in_ok-refusal_text-in-Some.field-0.items in
    made-alone (state c.args.archive.now) _
    (λ R. subst (λ (sending : Option Sending). AnswersRequest overview R request [] text sending)
    (sym c.refused_rest.ensures.none)
    (refused overview R request c.refusal_of.result c.in-Some.why text c.refusal_of.ensures c.in-Some.is
    c.in_ok-refusal_text-in-Some.ensures))

pub returns-in-None-clause-answers : goal.returns-in-None-clause-answers
returns-in-None-clause-answers g c =
    let state = g.A.Archive.state in
    let overview = overview_of c.args.overview in
    let request = c.args.request in
    result-as (state c.args.archive.now) (state c.told_request.new.archive) c.told_request.result
    (λ (R : Content) (faults : List StoreFault) (text : List ℕ) (sending : Option Sending).
    TellsAsked overview R request.page request.head_only request.takes_chunks faults text sending)
    (λ (R : Content) (faults : List StoreFault) (text : List ℕ) (sending : Option Sending).
    AnswersRequest overview R request faults text sending)
    (λ R faults text sending p. taken overview R request c.refusal_of.result faults text sending
    c.refusal_of.ensures c.in-None.is p) c.told_request.ensures.answers

pub returns-in-None-clause-denied : goal.returns-in-None-clause-denied
returns-in-None-clause-denied g c =
    taken-denied c.args.overview.settings.now c.args.request c.refusal_of.result c.told_request.result
    c.refusal_of.ensures c.in-None.is c.told_request.ensures.let_in
