use Rattle.records.specs.Contents.{Content}
use Rattle.history_report.specs.Reports.{report_faults}
use Rattle.history_report.specs.Portions.{IsPortion, ending}
use Rattle.web_connection.specs.Answers.{sending_of}
use Rattle.web_connection.proofs.AskingLemmas.{made-by, only-asked}
use Rattle.web_connection.proofs.PageLemmas.{portion-told}
use Rattle.web_connection.proofs.history.next_portion.Goals as goal

pub returns-in-Ok-clause-answers : goal.returns-in-Ok-clause-answers
returns-in-Ok-clause-answers g c =
    let state = g.A.Archive.state in
    let was = c.args.sending in
    let now = c.next-next.new.self in
    let empty = c.new-portion.result.items in
    let portion = c.next-next.new.out.items in
    made-by (state c.args.archive.now) (state c.next-next.new.archive)
    (report_faults (ending c.next-next.result))
    (λ (R : Content). IsPortion was.portions now R empty portion c.next-next.result) _
    (λ R p. portion-told R was now c.next-next.result empty portion c.as_slice.result.now
    c.in-Ok.text.items (sending_of c.rest_of.result) c.new-portion.ensures.items
    c.as_slice.ensures.value c.next-next.ensures.same p c.in-Ok.ensures c.rest_of.ensures.left)
    c.next-next.ensures.takes

pub returns-in-Err-clause-answers : goal.returns-in-Err-clause-answers
returns-in-Err-clause-answers g c =
    let state = g.A.Archive.state in
    only-asked (state c.args.archive.now) (state c.next-next.new.archive)
    (report_faults (ending c.next-next.result))
    (λ (R : Content). IsPortion c.args.sending.portions c.next-next.new.self R
    c.new-portion.result.items c.next-next.new.out.items c.next-next.result)
    c.next-next.ensures.takes
