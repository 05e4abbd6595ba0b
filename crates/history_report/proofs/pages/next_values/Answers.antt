use Rattle.std.proofs.Common.{List, refl, subst}
use Rattle.records.specs.declared.shown.Held.{Held}
use Rattle.history_report.specs.Paging.{IsBehind}
use Rattle.history_report.proofs.PageLemmas.{values-page}
use Rattle.history_report.proofs.pages.next_values.Goals as goal

pub returns-clause-pages : goal.returns-clause-pages
returns-clause-pages g c =
    let state = g.A.Archive.state in
    let old = c.args.pages.now in
    values-page (state c.args.archive.now) (state c.first_values.new.archive)
    c.args.report.now.node old (record old { span = c.span_behind-pages.result })
    c.in-Ok.page.items 7 c.in-Ok.ensures.offers refl
    (subst (λ (l : List Held). IsBehind l old.span.from old.span.to c.span_behind-pages.result.from
    c.span_behind-pages.result.to) c.as_slice.ensures.value c.span_behind-pages.ensures)
