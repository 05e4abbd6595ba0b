use Rattle.std.proofs.Common.{◌≡◌, List, ℕ, [], ◌∷◌, inl}
use Rattle.std.specs.Prelude.{⊤}
use Rattle.stamp.specs.Numbers.{number_of}
use Rattle.records.specs.Contents.{Content}
use Rattle.archive.specs.declared.fault.StoreFault.{StoreFault}
use Rattle.settings_check.specs.Stored.{IsVectorOf}
use Rattle.web_request.specs.Refusals.{refusal_text}
use Rattle.web_request.specs.declared.answer.Kind.TheVariants.{Json}
use Rattle.web_request.specs.declared.page.Refusal.TheVariants as why
use Rattle.web_page.specs.Calls.{overview_of}
use Rattle.web_connection.specs.Answers.{IsStatus, TellsPage}
use Rattle.web_connection.specs.Status.{IsStatusJson}
use Rattle.web_connection.specs.Texts.{answer_text}
use Rattle.web_connection.proofs.AskingLemmas.{text-by, text-of, reads-answer, reads-fault}
use Rattle.web_connection.proofs.PageLemmas.{state-told, store-told}
use Rattle.web_connection.proofs.pages.state_text.Goals as goal

pub returns-in-Ok-clause-answers : goal.returns-in-Ok-clause-answers
returns-in-Ok-clause-answers g c =
    let state = g.A.Archive.state in
    let overview = overview_of c.args.overview in
    let head_only = c.args.head_only in
    let numbers = c.in-Ok.vector in
    text-of (λ text. text.items) c.state_page.result
    (λ text. (page : List ℕ) × IsStatusJson overview (number_of numbers) page
    × (text ≡ answer_text Json page head_only))
    (state c.args.archive.now) (state c.vector.new.self) [] (λ R. IsVectorOf numbers R)
    (λ (R : Content) (faults : List StoreFault) (text : List ℕ).
    TellsPage Json head_only (IsStatus overview R) faults text)
    (λ R text p is. state-told overview R head_only numbers text p is) c.state_page.ensures
    (reads-answer (state c.args.archive.now) (state c.vector.new.self)
    (λ (R : Content) (v : List ℕ). IsVectorOf v R) numbers c.in-Ok.ensures.asks)

pub returns-in-Err-clause-answers : goal.returns-in-Err-clause-answers
returns-in-Err-clause-answers g c =
    let state = g.A.Archive.state in
    let overview = overview_of c.args.overview in
    let head_only = c.args.head_only in
    let fault = c.in-Err.field-0 in
    text-by (λ text. text.items) c.refusal_text.result (refusal_text why.Store head_only)
    (state c.args.archive.now) (state c.vector.new.self) (fault ∷ []) (λ R. ⊤)
    (λ (R : Content) (faults : List StoreFault) (text : List ℕ).
    TellsPage Json head_only (IsStatus overview R) faults text)
    (λ R p. inl (store-told head_only fault)) c.refusal_text.ensures
    (reads-fault (state c.args.archive.now) (state c.vector.new.self) fault _
    c.in-Err.ensures.asks)
