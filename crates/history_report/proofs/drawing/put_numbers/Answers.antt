use Rattle.history_report.proofs.DrawingLemmas.{drawing-put}
use Rattle.history_report.proofs.WalkLemmas.{stays-then, walk-stops, stops-then}
use Rattle.history_report.proofs.drawing.put_numbers.Goals as goal

pub returns-in-Err-columns_between-clause-walks : goal.returns-in-Err-columns_between-clause-walks
returns-in-Err-columns_between-clause-walks g c =
    let state = g.A.Archive.state in
    stops-then (state c.args.archive.now) (state c.edges_of.new.archive)
    (state c.columns_between.new.archive) c.in-Err-columns_between.fault c.in-Ok.ensures.walks
    c.in-Err-columns_between.ensures.walks

pub returns-in-Ok-put_figure-clause-walks : goal.returns-in-Ok-put_figure-clause-walks
returns-in-Ok-put_figure-clause-walks g c =
    let state = g.A.Archive.state in
    stays-then (state c.args.archive.now) (state c.edges_of.new.archive)
    (state c.columns_between.new.archive) c.in-Ok.ensures.walks
    c.in-Ok-columns_between.ensures.walks

pub returns-in-Ok-put_figure-clause-drawn : goal.returns-in-Ok-put_figure-clause-drawn
returns-in-Ok-put_figure-clause-drawn g c =
    drawing-put c.args.report.now c.args.out.now.items c.put_figure.new.out.items
    c.if-report.false c.in-Ok-put_figure.ensures

pub returns-clause-walks : goal.returns-clause-walks
returns-clause-walks g c =
    let state = g.A.Archive.state in
    walk-stops (state c.args.archive.now) (state c.columns_between.new.archive)
    (stays-then (state c.args.archive.now) (state c.edges_of.new.archive)
    (state c.columns_between.new.archive) c.in-Ok.ensures.walks
    c.in-Ok-columns_between.ensures.walks)
