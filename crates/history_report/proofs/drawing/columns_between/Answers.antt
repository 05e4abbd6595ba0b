use Rattle.history_report.proofs.WalkLemmas.{stays-none, walk-stops}
use Rattle.history_report.proofs.drawing.columns_between.Goals as goal

pub returns-in-Err-clause-walks : goal.returns-in-Err-clause-walks
returns-in-Err-clause-walks g c =
    let s = g.A.Archive.state c.args.archive.now in
    walk-stops s s (stays-none s)
