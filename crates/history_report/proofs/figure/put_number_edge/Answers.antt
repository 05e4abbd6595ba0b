use Rattle.history_report.proofs.DrawingLemmas.{edge-put}
use Rattle.history_report.proofs.figure.put_number_edge.Goals as goal

pub returns : goal.returns
returns c =
    edge-put c.args.out.now.items c.put_edge.new.out.items c.as_slice.result.now
    c.in_ok-put_edge.ensures
