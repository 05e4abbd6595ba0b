use Rattle.history_report.specs.Paging.{values_left}
use Rattle.history_report.proofs.PageLemmas.{offered}
use Rattle.history_report.proofs.pages.first_values.Goals as goal

pub returns-clause-offers : goal.returns-clause-offers
returns-clause-offers g c =
    let state = g.A.Archive.state in
    offered (state c.args.archive.now) (state c.range.new.self)
    (values_left c.args.report.now.node c.args.pages.now) c.range.result c.range.ensures.asks
