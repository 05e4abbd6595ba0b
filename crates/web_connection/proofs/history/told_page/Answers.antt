use Rattle.std.proofs.Common.{◌≡◌, true, Err, None, Option, List, ℕ, [], ◌∷◌, inl, inr, refl, subst}
use Rattle.records.specs.Contents.{Content}
use Rattle.archive.specs.declared.fault.StoreFault.{StoreFault}
use Rattle.settings_check.specs.Stored.{Reads}
use Rattle.history_report.specs.declared.fault.ReportFault.{ReportFault}
use Rattle.history_report.specs.declared.fault.ReportFault.TheVariants as ended
use Rattle.history_report.specs.Parts.{AreCrowded, PartHasTextless}
use Rattle.history_report.specs.Portions.{BeginsPart, Remainder}
use Rattle.history_report.specs.Reports.{changes_asked, report_faults}
use Rattle.web_request.specs.Refusals.{refusal_text}
use Rattle.web_request.specs.declared.answer.Kind.TheVariants.{Html}
use Rattle.web_request.specs.declared.page.Refusal.TheVariants as why
use Rattle.web_connection.specs.Answers.{IsBegun, TellsHistory}
use Rattle.web_connection.specs.declared.sending.Sending.{Sending}
use Rattle.web_connection.proofs.PageLemmas.{PartFails, page-begun, page-refused, crowded-told, part-asks, store-refused, textless-told, told-by}
use Rattle.web_connection.proofs.history.told_page.Goals as goal

pub returns-in-Ok-clause-answers : goal.returns-in-Ok-clause-answers
returns-in-Ok-clause-answers g c =
    let s = g.A.Archive.state c.args.archive.now in
    let t = g.A.Archive.state c.begin_part.new.archive in
    let question = c.args.question in
    let chunked = c.args.chunked in
    let head_only = c.args.head_only in
    let report = c.report_of.result in
    let left = c.in-Ok.portions in
    let empty = c.new-header.result.items in
    let header = c.begin_part.new.out.items in
    let sent = c.as_slice.result.now in
    told-by c.begun.result
    (λ text sending. IsBegun Html head_only sent (record { portions = left; chunked = chunked })
    text sending) s t [] (λ (R : Content). BeginsPart report left R empty header)
    (λ (R : Content) (faults : List StoreFault) (text : List ℕ) (sending : Option Sending).
    TellsHistory R question head_only chunked faults text sending)
    (λ R text sending p told. page-begun R question report head_only chunked left empty header sent
    text sending c.report_of.ensures c.new-header.ensures.items c.as_slice.ensures.value p told)
    c.begun.ensures.told c.in-Ok.ensures.begins

pub returns-in-Err-Crowded-clause-answers : goal.returns-in-Err-Crowded-clause-answers
returns-in-Err-Crowded-clause-answers g c =
    let s = g.A.Archive.state c.args.archive.now in
    let t = g.A.Archive.state c.begin_part.new.archive in
    let question = c.args.question in
    let chunked = c.args.chunked in
    let head_only = c.args.head_only in
    let report = c.report_of.result in
    told-by c.refused.result
    (λ text sending. (text ≡ refusal_text why.Crowded head_only) × (sending ≡ None)) s t []
    (λ R. (report.changes ≡ true) × AreCrowded (changes_asked R report))
    (λ (R : Content) (faults : List StoreFault) (text : List ℕ) (sending : Option Sending).
    TellsHistory R question head_only chunked faults text sending)
    (λ R text sending p told. page-refused R question head_only chunked [] text sending
    (inr (inl (crowded-told R question report c.report_of.ensures p, (refl, told.0)))) told.1)
    c.refused.ensures.told
    (subst (PartFails report c.new-header.result.items c.begin_part.new.out.items s t)
    c.in-Err-Crowded.field-0-is c.in-Err-Crowded.ensures.begins)

pub returns-in-Err-Report-Store-clause-answers : goal.returns-in-Err-Report-Store-clause-answers
returns-in-Err-Report-Store-clause-answers g c =
    let s = g.A.Archive.state c.args.archive.now in
    let t = g.A.Archive.state c.begin_part.new.archive in
    let question = c.args.question in
    let chunked = c.args.chunked in
    let head_only = c.args.head_only in
    let report = c.report_of.result in
    let fault = c.in-Err-Report-Store.field-0-0-0 in
    told-by c.refused-in-Err-Report-Store.result
    (λ text sending. (text ≡ refusal_text why.Store head_only) × (sending ≡ None)) s t (fault ∷ [])
    (λ R. ended.Store fault ≡ ended.NoText → PartHasTextless R report)
    (λ (R : Content) (faults : List StoreFault) (text : List ℕ) (sending : Option Sending).
    TellsHistory R question head_only chunked faults text sending)
    (λ R text sending p told. page-refused R question head_only chunked (fault ∷ []) text sending
    (inl (store-refused head_only fault text told.0)) told.1)
    c.refused-in-Err-Report-Store.ensures.told
    (subst (λ (w : ReportFault). Reads s t (report_faults (Err w))
    (λ R. w ≡ ended.NoText → PartHasTextless R report)) c.in-Err-Report-Store.field-0-0-is
    (subst (PartFails report c.new-header.result.items c.begin_part.new.out.items s t)
    c.in-Err-Report-Store.field-0-is c.in-Err-Report-Store.ensures.begins).1)

pub returns-in-Err-Report-NoText-clause-answers : goal.returns-in-Err-Report-NoText-clause-answers
returns-in-Err-Report-NoText-clause-answers g c =
    let s = g.A.Archive.state c.args.archive.now in
    let t = g.A.Archive.state c.begin_part.new.archive in
    let question = c.args.question in
    let chunked = c.args.chunked in
    let head_only = c.args.head_only in
    let report = c.report_of.result in
    told-by c.refused-in-Err-Report-NoText.result
    (λ text sending. (text ≡ refusal_text why.NoText head_only) × (sending ≡ None)) s t []
    (λ R. ended.NoText ≡ ended.NoText → PartHasTextless R report)
    (λ (R : Content) (faults : List StoreFault) (text : List ℕ) (sending : Option Sending).
    TellsHistory R question head_only chunked faults text sending)
    (λ R text sending p told. page-refused R question head_only chunked [] text sending
    (inr (inr (textless-told R question report c.report_of.ensures (p refl), (refl, told.0))))
    told.1) c.refused-in-Err-Report-NoText.ensures.told
    (subst (λ (w : ReportFault). Reads s t (report_faults (Err w))
    (λ R. w ≡ ended.NoText → PartHasTextless R report)) c.in-Err-Report-NoText.field-0-0-is
    (subst (PartFails report c.new-header.result.items c.begin_part.new.out.items s t)
    c.in-Err-Report-NoText.field-0-is c.in-Err-Report-NoText.ensures.begins).1)

pub returns-clause-answers : goal.returns-clause-answers
returns-clause-answers g c =
    let state = g.A.Archive.state in
    let report = c.report_of.result in
    part-asks (state c.args.archive.now) (state c.begin_part.new.archive) c.begin_part.result
    (λ R. (report.changes ≡ true) × AreCrowded (changes_asked R report))
    (λ R. PartHasTextless R report)
    (λ (left : Remainder) R.
    BeginsPart report left R c.new-header.result.items c.begin_part.new.out.items)
    c.begin_part.ensures.begins
