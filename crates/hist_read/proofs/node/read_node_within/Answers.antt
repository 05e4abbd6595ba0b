use Rattle.std.proofs.Common.{◌∙◌, [], Err, None, Some, ap, refl, sym, subst}
use Rattle.std.specs.Prelude.{Result}
use Rattle.std.specs.Option.{option_copied}
use Rattle.ua_services.specs.declared.history.HistoryReadResult.{HistoryReadResult}
use Rattle.hist_read.specs.declared.fault.PageFault.{PageFault}
use Rattle.hist_read.specs.Node.{checked_read, refused_read}
use Rattle.hist_read.proofs.Nodes.{TellsOf, shown_of, unread_told, refused_told, refused_acts, page_acts}
use Rattle.hist_read.proofs.node.read_node_within.Goals as goal

pub returns-in-Err-clause-acts : goal.returns-in-Err-clause-acts
returns-in-Err-clause-acts g c =
    let s = g.A.Archive.state c.args.archive.now in
    let node = c.args.node.now in
    let query = c.args.query.now in
    let told = c.in-Err.ensures.told
    ∙ ap (λ i. checked_read i node query.details (option_copied c.args.continuation))
    c.id-id.ensures in (
      [],
      c.refused.result,
      refused_acts s.id node query (option_copied c.args.continuation) s c.in-Err.status
          c.refused.result told c.refused.ensures.value,
      refused_told c.args.longest c.in-Err.status c.refused.result c.in-Err.ensures.bad
          c.refused.ensures.value,
    )

pub returns-in-Ok-short_page-clause-acts : goal.returns-in-Ok-short_page-clause-acts
returns-in-Ok-short_page-clause-acts g c =
    let s = g.A.Archive.state c.args.archive.now in
    let node = c.args.node.now in
    let query = c.args.query.now in
    let told = c.in-Ok.ensures.told
    ∙ ap (λ i. checked_read i node query.details (option_copied c.args.continuation))
    c.id-id.ensures in
    page_acts s.id node query (option_copied c.args.continuation) s _ c.args.longest
    c.short_page.result c.in-Ok.behind c.told_within.result told c.short_page.ensures.finds
    (subst (λ (r : Result HistoryReadResult PageFault). TellsOf c.args.longest
    c.told_within.result r) (sym c.in-Ok-short_page.is) c.told_within.ensures.told)

pub returns-in-Err-Step-clause-acts : goal.returns-in-Err-Step-clause-acts
returns-in-Err-Step-clause-acts g c =
    let s = g.A.Archive.state c.args.archive.now in
    let node = c.args.node.now in
    let query = c.args.query.now in
    let told = c.in-Ok.ensures.told
    ∙ ap (λ i. checked_read i node query.details (option_copied c.args.continuation))
    c.id-id.ensures in
    page_acts s.id node query (option_copied c.args.continuation) s _ c.args.longest
    c.short_page.result c.in-Ok.behind (Some c.refused-in-Err-Step.result) told
    c.short_page.ensures.finds (unread_told c.args.longest (Some c.refused-in-Err-Step.result) c.short_page.result
    c.in-Err-Step.field-0 c.in-Err-Step.is
    (ap Some (c.refused-in-Err-Step.ensures.value ∙ ap refused_read
    (rw c.in-Err-Step.field-0-is at c.status.ensures))
    ∙ sym (ap shown_of (c.in-Err-Step.is ∙ ap Err c.in-Err-Step.field-0-is))))

pub returns-in-Err-TooLong-clause-acts : goal.returns-in-Err-TooLong-clause-acts
returns-in-Err-TooLong-clause-acts g c =
    let s = g.A.Archive.state c.args.archive.now in
    let node = c.args.node.now in
    let query = c.args.query.now in
    let told = c.in-Ok.ensures.told
    ∙ ap (λ i. checked_read i node query.details (option_copied c.args.continuation))
    c.id-id.ensures in
    page_acts s.id node query (option_copied c.args.continuation) s _ c.args.longest
    c.short_page.result c.in-Ok.behind None told c.short_page.ensures.finds
    (unread_told c.args.longest None c.short_page.result c.in-Err-TooLong.field-0
    c.in-Err-TooLong.is (sym (ap shown_of (c.in-Err-TooLong.is ∙ ap Err c.in-Err-TooLong.field-0-is))))
