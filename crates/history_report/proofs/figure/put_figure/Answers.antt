use Rattle.history_report.proofs.DrawingLemmas.{figure-put}
use Rattle.history_report.proofs.figure.put_figure.Goals as goal

pub returns : goal.returns
returns c =
    figure-put c.args.out.now.items c.put_plot.new.out.items c.put_edges.new.out.items
    c.extend_from_slice.new.self.items c.in_ok-put_plot.ensures c.in_ok-put_edges.ensures
    c.in_ok-extend_from_slice.ensures.items
