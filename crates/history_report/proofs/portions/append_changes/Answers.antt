use Rattle.std.proofs.Common.{◌≡◌, ◌-◌, false, List, drop, take, length, refl, sym, ap, ◌∙◌, subst}
use Rattle.std.specs.Prelude.{◌==◌, Err}
use Rattle.records.specs.declared.shown.Entry.{Entry}
use Rattle.history_csv.specs.Rows.{ShowsTextless}
use Rattle.history_report.specs.declared.pages.Pages.{Pages}
use Rattle.history_report.specs.Reports.{IsChangeLine, footer_of}
use Rattle.history_report.specs.Paging.{place_behind, changes_left}
use Rattle.history_report.specs.Portions.{PutsFirst, PutsRows}
use Rattle.history_report.proofs.PageLemmas.{offers-first, offers-page, changes-page}
use Rattle.history_report.proofs.PortionLemmas.{first-some, on-fault, portion-fails, portion-closes, portion-goes, portion-breaks}
use Rattle.history_report.proofs.PrintingLemmas.{no-items}
use Rattle.history_report.proofs.portions.append_changes.Goals as goal

pub returns-in-Err-clause-takes : goal.returns-in-Err-clause-takes
returns-in-Err-clause-takes g c =
    let state = g.A.Archive.state in
    let report = c.args.report.now in
    let old = c.args.out.now.items in
    portion-fails (IsChangeLine report) (λ (e : Entry). ShowsTextless e.value)
    (footer_of report) (state c.args.archive.now) (state c.first_changes.new.archive)
    (changes_left report.node c.args.pages.now) (changes_left report.node c.args.pages.now)
    old old c.in-Err.fault c.in-Err.ensures.offers refl

pub returns-then-is_empty-clause-takes : goal.returns-then-is_empty-clause-takes
returns-then-is_empty-clause-takes g c =
    let state = g.A.Archive.state in
    let report = c.args.report.now in
    let left = changes_left report.node c.args.pages.now in
    let page = c.in-Ok.page.items in
    portion-closes (IsChangeLine report) (λ (e : Entry). ShowsTextless e.value)
    (footer_of report) (state c.args.archive.now) (state c.first_changes.new.archive) left left
    c.args.out.now.items c.append_footer.new.out.items page (λ R. drop 8 (left R))
    (offers-page (state c.args.archive.now) (state c.first_changes.new.archive) page left
    c.in-Ok.ensures.offers)
    (sym c.as_slice-rows.ensures.value
    ∙ no-items c.as_slice-rows.result.now (sym c.if-is_empty.ensures)) c.append_footer.result
    c.append_footer.ensures

pub returns-then-is_empty-clause-kept : goal.returns-then-is_empty-clause-kept
returns-then-is_empty-clause-kept g c = on-fault c.append_footer.result refl

pub returns-in-Ok-append_rows-clause-takes : goal.returns-in-Ok-append_rows-clause-takes
returns-in-Ok-append_rows-clause-takes g c =
    let state = g.A.Archive.state in
    let report = c.args.report.now in
    let was = c.args.pages.now in
    let more = c.go_behind.new.pages in
    let old = c.args.out.now.items in
    let new = c.append_rows.new.out.items in
    let page = c.in-Ok.page.items in
    let count = c.in-Ok-append_rows.count in
    let puts : PutsFirst (IsChangeLine report) page old new count =
    subst (λ (l : List Entry). PutsFirst (IsChangeLine report) l old new count)
    c.as_slice-rows.ensures.value c.in-Ok-append_rows.ensures in
    let some : (length page == 0) ≡ false =
    ap (λ (l : List Entry). length l == 0) (sym c.as_slice-rows.ensures.value)
    ∙ sym c.if-is_empty.ensures in
    portion-goes (IsChangeLine report) (λ (e : Entry). ShowsTextless e.value)
    (footer_of report) (state c.args.archive.now) (state c.first_changes.new.archive)
    (changes_left report.node was) (changes_left report.node more) old new count page
    (changes-page (state c.args.archive.now) (state c.first_changes.new.archive) report.node was more
    (take count page) (count - 1)
    (offers-first (state c.args.archive.now) (state c.first_changes.new.archive) page
    (changes_left report.node was) c.in-Ok.ensures.offers count
    (first-some (IsChangeLine report) page old new count puts some) puts.1)
    (c.go_behind.ensures ∙ ap (λ (l : List Entry). let new : Pages =
    record was { after = place_behind was.after l } in new)
    (ap (take count) c.as_slice-rows.ensures.value))) some puts

pub returns-in-Ok-append_rows-clause-same : goal.returns-in-Ok-append_rows-clause-same
returns-in-Ok-append_rows-clause-same g c = ap (λ (p : Pages). p.within) c.go_behind.ensures

pub returns-clause-takes : goal.returns-clause-takes
returns-clause-takes g c =
    let state = g.A.Archive.state in
    let report = c.args.report.now in
    let left = changes_left report.node c.args.pages.now in
    let old = c.args.out.now.items in
    let new = c.append_rows.new.out.items in
    let page = c.in-Ok.page.items in
    portion-breaks (IsChangeLine report) (λ (e : Entry). ShowsTextless e.value)
    (footer_of report) (state c.args.archive.now) (state c.first_changes.new.archive) left left
    old new page (λ R. drop 8 (left R))
    (offers-page (state c.args.archive.now) (state c.first_changes.new.archive) page left
    c.in-Ok.ensures.offers) c.in-Err-append_rows.fault
    (subst (λ (l : List Entry). PutsRows (IsChangeLine report) (λ (e : Entry). ShowsTextless e.value)
    l old new (Err c.in-Err-append_rows.fault)) c.as_slice-rows.ensures.value
    c.in-Err-append_rows.ensures)
