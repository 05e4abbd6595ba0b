use Rattle.std.proofs.Common.{List, ap, ◌∙◌}
use Rattle.records.specs.declared.shown.Entry.{Entry}
use Rattle.history_report.specs.declared.pages.Pages.{Pages}
use Rattle.history_report.specs.Paging.{place_behind}
use Rattle.history_report.proofs.PageLemmas.{changes-page}
use Rattle.history_report.proofs.pages.next_changes.Goals as goal

pub returns-clause-pages : goal.returns-clause-pages
returns-clause-pages g c =
    let state = g.A.Archive.state in
    let old = c.args.pages.now in
    changes-page (state c.args.archive.now) (state c.first_changes.new.archive)
    c.args.report.now.node old c.go_behind.new.pages c.in-Ok.page.items 7 c.in-Ok.ensures.offers
    (c.go_behind.ensures
    ∙ ap (λ (l : List Entry). let new : Pages =
    record old { after = place_behind old.after l } in new) c.as_slice.ensures.value)

pub returns-clause-same : goal.returns-clause-same
returns-clause-same g c = ap (λ (p : Pages). p.within) c.go_behind.ensures
