use Rattle.std.proofs.Common.{List, ℕ, [], ◌∷◌, inl, subst}
use Rattle.std.specs.Prelude.{⊤}
use Rattle.records.specs.Contents.{Content}
use Rattle.archive.specs.declared.fault.StoreFault.{StoreFault}
use Rattle.history_report.specs.Paging.{IsPut}
use Rattle.settings_check.specs.Stored.{Reads}
use Rattle.web_page.specs.declared.fault.PageFault.{PageFault}
use Rattle.web_page.specs.Front.{IsFront, page_faults}
use Rattle.web_request.specs.Refusals.{refusal_text}
use Rattle.web_request.specs.declared.answer.Kind.TheVariants.{Html}
use Rattle.web_request.specs.declared.page.Refusal.TheVariants as why
use Rattle.web_page.specs.Calls.{overview_of}
use Rattle.web_connection.specs.Answers.{TellsPage}
use Rattle.web_connection.specs.Texts.{answer_text}
use Rattle.web_connection.proofs.AskingLemmas.{text-by}
use Rattle.web_connection.proofs.PageLemmas.{front-asks, page-told, store-told}
use Rattle.web_connection.proofs.pages.front_text.Goals as goal

pub returns-in-Ok-clause-answers : goal.returns-in-Ok-clause-answers
returns-in-Ok-clause-answers g c =
    let state = g.A.Archive.state in
    let overview = overview_of c.args.overview in
    let empty = c.new-page.result.items in
    let page = c.put_front.new.out.items in
    let text = c.as_slice.result.now in
    let head_only = c.args.head_only in
    text-by (λ text. text.items) c.page_text.result (answer_text Html text head_only)
    (state c.args.archive.now) (state c.put_front.new.archive) []
    (λ R. IsPut empty page (IsFront overview R))
    (λ (R : Content) (faults : List StoreFault) (text : List ℕ).
    TellsPage Html head_only (IsFront overview R) faults text)
    (λ R p. page-told Html head_only (IsFront overview R) empty page text c.new-page.ensures.items
    c.as_slice.ensures.value p) c.page_text.ensures c.in-Ok.ensures.answers

pub returns-in-Err-Store-clause-answers : goal.returns-in-Err-Store-clause-answers
returns-in-Err-Store-clause-answers g c =
    let state = g.A.Archive.state in
    let overview = overview_of c.args.overview in
    let head_only = c.args.head_only in
    let fault = c.in-Err-Store.field-0-0 in
    text-by (λ text. text.items) c.refusal_text.result (refusal_text why.Store head_only)
    (state c.args.archive.now) (state c.put_front.new.archive) (fault ∷ []) (λ R. ⊤)
    (λ (R : Content) (faults : List StoreFault) (text : List ℕ).
    TellsPage Html head_only (IsFront overview R) faults text)
    (λ R p. inl (store-told head_only fault)) c.refusal_text.ensures
    (subst (λ (w : PageFault). Reads (state c.args.archive.now) (state c.put_front.new.archive)
    (page_faults w) (λ R. ⊤)) c.in-Err-Store.field-0-is c.in-Err-Store.ensures.answers)

pub returns-clause-answers : goal.returns-clause-answers
returns-clause-answers g c =
    let state = g.A.Archive.state in
    front-asks (state c.args.archive.now) (state c.put_front.new.archive) c.put_front.result
    (λ (R : Content). IsPut c.new-page.result.items c.put_front.new.out.items
    (IsFront (overview_of c.args.overview) R)) c.put_front.ensures.answers
