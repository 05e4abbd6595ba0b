use Rattle.history_report.proofs.DrawingLemmas.{plot-put}
use Rattle.history_report.proofs.figure.put_plot.Goals as goal

pub returns : goal.returns
returns c =
    plot-put c.args.out.now.items c.put_line.new.out.items c.put_marks.new.out.items
    c.extend_from_slice.new.self.items c.in_ok-put_line.ensures c.in_ok-put_marks.ensures
    c.in_ok-extend_from_slice.ensures.items
