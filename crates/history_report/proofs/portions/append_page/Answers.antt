use Rattle.std.proofs.Common.{true, false}
use Rattle.history_report.proofs.PortionLemmas.{portion-by}
use Rattle.history_report.proofs.portions.append_page.Goals as goal

pub returns-then-report-clause-takes : goal.returns-then-report-clause-takes
returns-then-report-clause-takes g c =
    let state = g.A.Archive.state in
    portion-by c.args.report.now c.args.pages.now c.append_changes.new.pages
    (state c.args.archive.now) (state c.append_changes.new.archive) c.args.out.now.items
    c.append_changes.new.out.items c.append_changes.result true c.if-report.true
    c.append_changes.ensures.takes

pub returns-else-report-clause-takes : goal.returns-else-report-clause-takes
returns-else-report-clause-takes g c =
    let state = g.A.Archive.state in
    portion-by c.args.report.now c.args.pages.now c.append_values.new.pages
    (state c.args.archive.now) (state c.append_values.new.archive) c.args.out.now.items
    c.append_values.new.out.items c.append_values.result false c.if-report.false
    c.append_values.ensures.takes
