use Rattle.std.proofs.Common.{◌≡◌, [], ◌∷◌, List, ℕ, None, Option, Err, false, inl, inr, refl, subst}
use Rattle.std.specs.Prelude.{◌⊎◌}
use Rattle.records.specs.Contents.{Content}
use Rattle.archive.specs.declared.fault.StoreFault.{StoreFault}
use Rattle.settings_check.specs.Stored.{Reads}
use Rattle.history_report.specs.declared.fault.ReportFault.{ReportFault}
use Rattle.history_report.specs.declared.report.Form.TheVariants as form
use Rattle.history_report.specs.Reports.{report_faults}
use Rattle.history_report.specs.Portions.{IsWhole}
use Rattle.web_request.specs.Refusals.{refusal_text}
use Rattle.web_request.specs.declared.answer.Kind.TheVariants.{Csv}
use Rattle.web_request.specs.declared.page.Refusal.TheVariants as why
use Rattle.web_connection.specs.Answers.{BeginsHistory, IsBegun, TellsStoreFault, report_of}
use Rattle.web_connection.specs.declared.sending.Sending.{Sending}
use Rattle.web_connection.proofs.AskingLemmas.{reads-of}
use Rattle.web_connection.proofs.PageLemmas.{begin-asks, history-begun, store-refused, told-by}
use Rattle.web_connection.proofs.history.begin_csv.Goals as goal

pub returns-in-Ok-clause-answers : goal.returns-in-Ok-clause-answers
returns-in-Ok-clause-answers g c =
    let old = g.A.Archive.state c.args.archive.now in
    let new = g.A.Archive.state c.begin.new.archive in
    let question = c.args.question in
    let chunked = c.args.chunked in
    let report = c.report_of.result in
    let left = c.in-Ok.portions in
    let sent = c.as_slice.result.now in
    told-by c.begun.result
    (λ text sending. IsBegun Csv false sent (record { portions = left; chunked = chunked }) text
    sending) old new [] (λ (R : Content). IsWhole report left R)
    (λ (R : Content) (faults : List StoreFault) (text : List ℕ) (sending : Option Sending).
    (TellsStoreFault false faults text × (sending ≡ None))
    ⊎ ((faults ≡ []) × BeginsHistory R Csv (report_of question form.Csv) false chunked text sending))
    (λ R text sending whole told. inr (
      refl,
      history-begun R Csv report (report_of question form.Csv) false chunked left
          c.new-names.result.items c.begin.new.out.items sent text sending c.report_of.ensures
          c.new-names.ensures.items c.as_slice.ensures.value c.in-Ok.ensures.header whole told,
    )) c.begun.ensures.told
    (reads-of old new (λ (R : Content). IsWhole report left R) c.in-Ok.ensures.begins)

pub returns-in-Err-Store-clause-answers : goal.returns-in-Err-Store-clause-answers
returns-in-Err-Store-clause-answers g c =
    let old = g.A.Archive.state c.args.archive.now in
    let new = g.A.Archive.state c.begin.new.archive in
    let question = c.args.question in
    let chunked = c.args.chunked in
    let fault = c.in-Err-Store.field-0-0 in
    told-by c.refused.result
    (λ text sending. (text ≡ refusal_text why.Store false) × (sending ≡ None)) old new (fault ∷ [])
    (λ R. Unit {0})
    (λ (R : Content) (faults : List StoreFault) (text : List ℕ) (sending : Option Sending).
    (TellsStoreFault false faults text × (sending ≡ None))
    ⊎ ((faults ≡ []) × BeginsHistory R Csv (report_of question form.Csv) false chunked text sending))
    (λ R text sending p told. inl (store-refused false fault text told.0, told.1))
    c.refused.ensures.told
    (subst (λ (w : ReportFault). Reads old new (report_faults (Err w)) (λ R. Unit {0}))
    c.in-Err-Store.field-0-is c.in-Err-Store.ensures.begins.1)

pub returns-clause-answers : goal.returns-clause-answers
returns-clause-answers g c =
    let state = g.A.Archive.state in
    begin-asks c.report_of.result (state c.args.archive.now) (state c.begin.new.archive)
    c.begin.result c.begin.ensures.begins
