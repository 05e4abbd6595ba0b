use Rattle.history_report.proofs.DrawingLemmas.{edges-put}
use Rattle.history_report.proofs.figure.put_edges.Goals as goal

pub returns : goal.returns
returns c =
    edges-put c.args.out.now.items c.put_number_edge.new.out.items
    c.put_number_edge-2.new.out.items c.put_time_edge.new.out.items c.put_time_edge-2.new.out.items
    c.in_ok-put_number_edge.ensures c.in_ok-put_number_edge-2.ensures c.in_ok-put_time_edge.ensures
    c.in_ok-put_time_edge-2.ensures
