use Rattle.archive.specs.declared.reading.Direction.TheVariants.{Backward}
use Rattle.settings_check.proofs.StoredLemmas.{first-asked}
use Rattle.web_page.proofs.asking.latest_of.Goals as goal

pub returns-clause-answers : goal.returns-clause-answers
returns-clause-answers g c =
    let state = g.A.Archive.state in
    first-asked (λ values. values.items) (state c.args.archive.now) (state c.range.new.self)
    c.range.result c.args.node.now Backward c.args.within.now c.first_moment-from.result
    c.last_moment-to.result c.first_moment-from.ensures c.last_moment-to.ensures
    c.range.ensures.asks
