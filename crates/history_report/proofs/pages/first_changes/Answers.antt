use Rattle.history_report.specs.Paging.{changes_left}
use Rattle.history_report.proofs.PageLemmas.{offered}
use Rattle.history_report.proofs.pages.first_changes.Goals as goal

pub returns-clause-offers : goal.returns-clause-offers
returns-clause-offers g c =
    let state = g.A.Archive.state in
    offered (state c.args.archive.now) (state c.log.new.self)
    (changes_left c.args.report.now.node c.args.pages.now) c.log.result c.log.ensures.asks
