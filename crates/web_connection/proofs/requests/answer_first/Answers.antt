use Rattle.std.proofs.Common.{◌≡◌, List, [], Option, Ok, Err, inl, inr, refl, subst}
use Rattle.records.specs.Contents.{Content}
use Rattle.archive.specs.declared.fault.StoreFault.{StoreFault}
use Rattle.web_request.specs.Requests.{ReadsRequest as IsRead}
use Rattle.web_request.specs.declared.page.Request.{Request}
use Rattle.web_request.specs.declared.page.RequestFault.{RequestFault}
use Rattle.web_page.specs.Calls.{overview_of}
use Rattle.web_connection.specs.Answers.{AnswersRequest, sending_of}
use Rattle.web_connection.proofs.AskingLemmas.{made-alone, made-as}
use Rattle.web_connection.proofs.DenialLemmas.{Finds, none-wrong, read-wrong, refused-wrong}
use Rattle.web_connection.proofs.requests.answer_first.Goals as goal

pub returns-in-Ok-None-clause-answers : goal.returns-in-Ok-None-clause-answers
returns-in-Ok-None-clause-answers g c =
    let state = g.A.Archive.state in (
      subst (λ (read : Option Request). IsRead c.args.came.now (Ok read)) c.in-Ok-None.field-0-is
          c.in-Ok-None.ensures.reads,
      made-alone (state c.args.archive.now) (λ R (faults : List StoreFault). faults ≡ [])
          (λ R. refl),
    )

pub returns-in_ok-answer_request-in-Ok-Some-clause-answers :
    goal.returns-in_ok-answer_request-in-Ok-Some-clause-answers
returns-in_ok-answer_request-in-Ok-Some-clause-answers g c =
    let state = g.A.Archive.state in
    let overview = overview_of c.args.overview in
    let request = c.in-Ok-Some.request in
    let told = c.in_ok-answer_request-in-Ok-Some.field-0 in
    made-as (state c.args.archive.now) (state c.answer_request.new.archive)
    (λ (R : Content) (faults : List StoreFault).
    AnswersRequest overview R request faults told.text.items (sending_of told.rest)) _
    (λ R faults p. inr (
      request,
      subst (λ (read : Option Request). IsRead c.args.came.now (Ok read))
          c.in-Ok-Some.field-0-is c.in-Ok-Some.ensures.reads,
      p,
    ))
    c.in_ok-answer_request-in-Ok-Some.ensures.answers

pub returns-in_ok-refusal_text-in-Err-Refused-clause-answers :
    goal.returns-in_ok-refusal_text-in-Err-Refused-clause-answers
returns-in_ok-refusal_text-in-Err-Refused-clause-answers g c =
    let state = g.A.Archive.state in
    made-alone (state c.args.archive.now) _
    (λ R. inl (
      c.in-Err-Refused.why,
      c.in-Err-Refused.head_only,
      subst (λ (fault : RequestFault).
          IsRead c.args.came.now (Err fault)) c.in-Err-Refused.field-0-is
          c.in-Err-Refused.ensures.reads,
      (refl, c.in_ok-refusal_text-in-Err-Refused.ensures),
      refl,
    ))

pub returns-in-Ok-None-clause-denied : goal.returns-in-Ok-None-clause-denied
returns-in-Ok-None-clause-denied g c =
    let came = c.args.came.now in
    none-wrong c.args.overview.settings.now came
    (subst (λ (read : Option Request). Finds came (Ok read)) c.in-Ok-None.field-0-is
    c.in-Ok-None.ensures.found)

pub returns-in_ok-answer_request-in-Ok-Some-clause-denied :
    goal.returns-in_ok-answer_request-in-Ok-Some-clause-denied
returns-in_ok-answer_request-in-Ok-Some-clause-denied g c =
    let came = c.args.came.now in
    read-wrong c.args.overview.settings.now came c.in-Ok-Some.request
    c.in_ok-answer_request-in-Ok-Some.field-0.rest
    (subst (λ (read : Option Request). Finds came (Ok read)) c.in-Ok-Some.field-0-is
    c.in-Ok-Some.ensures.found)
    (subst (λ (read : Option Request). IsRead came (Ok read)) c.in-Ok-Some.field-0-is
    c.in-Ok-Some.ensures.reads) c.in_ok-answer_request-in-Ok-Some.ensures.denied

pub returns-in_ok-refusal_text-in-Err-Refused-clause-denied :
    goal.returns-in_ok-refusal_text-in-Err-Refused-clause-denied
returns-in_ok-refusal_text-in-Err-Refused-clause-denied g c =
    let came = c.args.came.now in
    let none = refused-wrong c.args.overview.settings.now came c.in-Err-Refused.why
    c.in-Err-Refused.head_only
    (subst (λ (fault : RequestFault). Finds came (Err fault)) c.in-Err-Refused.field-0-is
    c.in-Err-Refused.ensures.found) in
    (λ over. absurd cc, λ wrong. absurd (none wrong))
