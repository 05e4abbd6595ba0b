use Rattle.std.proofs.Common.{List, ℕ, None, Option, refl}
use Rattle.records.specs.Contents.{Content}
use Rattle.archive.specs.declared.fault.StoreFault.{StoreFault}
use Rattle.web_page.specs.Front.{IsFront}
use Rattle.web_request.specs.declared.answer.Kind.TheVariants.{Html, Json}
use Rattle.web_request.specs.declared.page.Page.TheVariants as page
use Rattle.web_page.specs.Calls.{overview_of}
use Rattle.web_connection.specs.Answers.{IsStatus, TellsAsked, TellsCsv, TellsHistory, TellsPage}
use Rattle.web_connection.specs.declared.sending.Sending.{Sending}
use Rattle.web_connection.proofs.AskingLemmas.{made-as}
use Rattle.web_connection.proofs.PageLemmas.{asked-as, result-as}
use Rattle.web_connection.proofs.requests.told_request.Goals as goal

pub returns-in-Front-clause-answers : goal.returns-in-Front-clause-answers
returns-in-Front-clause-answers g c =
    let state = g.A.Archive.state in
    let overview = overview_of c.args.overview in
    let request = c.args.request in
    let text = c.in_ok-front_text-in-Front.field-0.items in
    made-as (state c.args.archive.now) (state c.front_text.new.archive)
    (λ (R : Content) (faults : List StoreFault).
    TellsPage Html request.head_only (IsFront overview R) faults text) _
    (λ R faults p. asked-as overview R request.page page.Front request.head_only request.takes_chunks
    faults text None c.in-Front.is (p, refl)) c.in_ok-front_text-in-Front.ensures.answers

pub returns-in-Status-clause-answers : goal.returns-in-Status-clause-answers
returns-in-Status-clause-answers g c =
    let state = g.A.Archive.state in
    let overview = overview_of c.args.overview in
    let request = c.args.request in
    let text = c.in_ok-state_text-in-Status.field-0.items in
    made-as (state c.args.archive.now) (state c.state_text.new.archive)
    (λ (R : Content) (faults : List StoreFault).
    TellsPage Json request.head_only (IsStatus overview R) faults text) _
    (λ R faults p. asked-as overview R request.page page.Status request.head_only request.takes_chunks
    faults text None c.in-Status.is (p, refl)) c.in_ok-state_text-in-Status.ensures.answers

pub returns-in-Csv-clause-answers : goal.returns-in-Csv-clause-answers
returns-in-Csv-clause-answers g c =
    let state = g.A.Archive.state in
    let overview = overview_of c.args.overview in
    let request = c.args.request in
    let question = c.in-Csv.question in
    result-as (state c.args.archive.now) (state c.told_csv.new.archive) c.told_csv.result
    (λ (R : Content) (faults : List StoreFault) (text : List ℕ) (sending : Option Sending).
    TellsCsv R question request.head_only request.takes_chunks faults text sending)
    (λ (R : Content) (faults : List StoreFault) (text : List ℕ) (sending : Option Sending).
    TellsAsked overview R request.page request.head_only request.takes_chunks faults text sending)
    (λ R faults text sending p. asked-as overview R request.page (page.Csv question) request.head_only
    request.takes_chunks faults text sending c.in-Csv.is p) c.told_csv.ensures.answers

pub returns-clause-answers : goal.returns-clause-answers
returns-clause-answers g c =
    let state = g.A.Archive.state in
    let overview = overview_of c.args.overview in
    let request = c.args.request in
    let question = c.in-History.question in
    result-as (state c.args.archive.now) (state c.told_page.new.archive) c.told_page.result
    (λ (R : Content) (faults : List StoreFault) (text : List ℕ) (sending : Option Sending).
    TellsHistory R question request.head_only request.takes_chunks faults text sending)
    (λ (R : Content) (faults : List StoreFault) (text : List ℕ) (sending : Option Sending).
    TellsAsked overview R request.page request.head_only request.takes_chunks faults text sending)
    (λ R faults text sending p. asked-as overview R request.page (page.History question)
    request.head_only request.takes_chunks faults text sending c.in-History.is p)
    c.told_page.ensures.answers
