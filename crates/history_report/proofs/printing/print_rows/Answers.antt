use Rattle.std.proofs.Common.{true, false}
use Rattle.history_report.proofs.PrintingLemmas.{rows-by}
use Rattle.history_report.proofs.printing.print_rows.Goals as goal

pub returns-then-report-clause-prints : goal.returns-then-report-clause-prints
returns-then-report-clause-prints g c =
    let state = g.A.Archive.state in
    rows-by c.args.report.now c.args.pages (state c.args.archive.now)
    (state c.print_changes.new.archive) (g.W.Write.contents c.args.output.now.inner)
    (g.W.Write.contents c.print_changes.new.output.inner) c.print_changes.result true
    c.if-report.true c.print_changes.ensures.prints

pub returns-else-report-clause-prints : goal.returns-else-report-clause-prints
returns-else-report-clause-prints g c =
    let state = g.A.Archive.state in
    rows-by c.args.report.now c.args.pages (state c.args.archive.now)
    (state c.print_values.new.archive) (g.W.Write.contents c.args.output.now.inner)
    (g.W.Write.contents c.print_values.new.output.inner) c.print_values.result false
    c.if-report.false c.print_values.ensures.prints
