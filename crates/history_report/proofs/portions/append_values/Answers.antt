use Rattle.std.proofs.Common.{◌≡◌, ◌-◌, false, List, drop, take, length, refl, sym, ap, ◌∙◌, subst}
use Rattle.std.specs.Prelude.{◌==◌, Err}
use Rattle.records.specs.declared.shown.Held.{Held}
use Rattle.history_csv.specs.Rows.{IsTextless}
use Rattle.history_report.specs.Reports.{IsValueLine, footer_of}
use Rattle.history_report.specs.Paging.{IsBehind, values_left}
use Rattle.history_report.specs.Portions.{PutsFirst, PutsRows}
use Rattle.history_report.proofs.PageLemmas.{offers-first, offers-page, values-page}
use Rattle.history_report.proofs.PortionLemmas.{first-some, on-fault, portion-fails, portion-closes, portion-goes, portion-breaks}
use Rattle.history_report.proofs.PrintingLemmas.{no-items}
use Rattle.history_report.proofs.portions.append_values.Goals as goal

pub returns-in-Err-clause-takes : goal.returns-in-Err-clause-takes
returns-in-Err-clause-takes g c =
    let state = g.A.Archive.state in
    let report = c.args.report.now in
    let old = c.args.out.now.items in
    portion-fails (IsValueLine report) (λ (h : Held). IsTextless h.value.value)
    (footer_of report) (state c.args.archive.now) (state c.first_values.new.archive)
    (values_left report.node c.args.pages.now) (values_left report.node c.args.pages.now)
    old old c.in-Err.fault c.in-Err.ensures.offers refl

pub returns-then-is_empty-clause-takes : goal.returns-then-is_empty-clause-takes
returns-then-is_empty-clause-takes g c =
    let state = g.A.Archive.state in
    let report = c.args.report.now in
    let left = values_left report.node c.args.pages.now in
    let page = c.in-Ok.page.items in
    portion-closes (IsValueLine report) (λ (h : Held). IsTextless h.value.value)
    (footer_of report) (state c.args.archive.now) (state c.first_values.new.archive) left left
    c.args.out.now.items c.append_footer.new.out.items page (λ R. drop 8 (left R))
    (offers-page (state c.args.archive.now) (state c.first_values.new.archive) page left
    c.in-Ok.ensures.offers)
    (sym c.as_slice-rows.ensures.value
    ∙ no-items c.as_slice-rows.result.now (sym c.if-is_empty.ensures)) c.append_footer.result
    c.append_footer.ensures

pub returns-then-is_empty-clause-kept : goal.returns-then-is_empty-clause-kept
returns-then-is_empty-clause-kept g c = on-fault c.append_footer.result refl

pub returns-in-Ok-append_rows-clause-takes : goal.returns-in-Ok-append_rows-clause-takes
returns-in-Ok-append_rows-clause-takes g c =
    let state = g.A.Archive.state in
    let report = c.args.report.now in
    let was = c.args.pages.now in
    let more = record was { span = c.span_behind-pages.result } in
    let old = c.args.out.now.items in
    let new = c.append_rows.new.out.items in
    let page = c.in-Ok.page.items in
    let count = c.in-Ok-append_rows.count in
    let puts : PutsFirst (IsValueLine report) page old new count =
    subst (λ (l : List Held). PutsFirst (IsValueLine report) l old new count)
    c.as_slice-rows.ensures.value c.in-Ok-append_rows.ensures in
    let some : (length page == 0) ≡ false =
    ap (λ (l : List Held). length l == 0) (sym c.as_slice-rows.ensures.value)
    ∙ sym c.if-is_empty.ensures in
    portion-goes (IsValueLine report) (λ (h : Held). IsTextless h.value.value)
    (footer_of report) (state c.args.archive.now) (state c.first_values.new.archive)
    (values_left report.node was) (values_left report.node more) old new count page
    (values-page (state c.args.archive.now) (state c.first_values.new.archive) report.node was more
    (take count page) (count - 1)
    (offers-first (state c.args.archive.now) (state c.first_values.new.archive) page
    (values_left report.node was) c.in-Ok.ensures.offers count
    (first-some (IsValueLine report) page old new count puts some) puts.1) refl
    (subst (λ (l : List Held). IsBehind l was.span.from was.span.to more.span.from more.span.to)
    (ap (take count) c.as_slice-rows.ensures.value)
    c.span_behind-pages.ensures)) some puts

pub returns-clause-takes : goal.returns-clause-takes
returns-clause-takes g c =
    let state = g.A.Archive.state in
    let report = c.args.report.now in
    let left = values_left report.node c.args.pages.now in
    let old = c.args.out.now.items in
    let new = c.append_rows.new.out.items in
    let page = c.in-Ok.page.items in
    portion-breaks (IsValueLine report) (λ (h : Held). IsTextless h.value.value)
    (footer_of report) (state c.args.archive.now) (state c.first_values.new.archive) left left
    old new page (λ R. drop 8 (left R))
    (offers-page (state c.args.archive.now) (state c.first_values.new.archive) page left
    c.in-Ok.ensures.offers) c.in-Err-append_rows.fault
    (subst (λ (l : List Held). PutsRows (IsValueLine report) (λ (h : Held). IsTextless h.value.value)
    l old new (Err c.in-Err-append_rows.fault)) c.as_slice-rows.ensures.value
    c.in-Err-append_rows.ensures)
