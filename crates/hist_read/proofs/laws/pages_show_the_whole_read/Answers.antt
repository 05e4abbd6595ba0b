use Rattle.std.proofs.Common.{refl}
use Rattle.hist_read.proofs.ChainLaws.{asked_from, chain_shows, chain_exists}
use Rattle.hist_read.proofs.laws.pages_show_the_whole_read.Goals as goal

pub returns-clause-shows : goal.returns-clause-shows
returns-clause-shows c = λ id node stamps first pages asked lawful later chain.
    chain_shows first.content lawful id node c.args.details stamps c.body-span.result.from
    c.body-span.result.to c.body-span.ensures asked c.requires
    (asked_from id node (record { details = c.args.details; stamps = stamps }) first pages chain)
    first pages refl later chain

pub returns-clause-ends : goal.returns-clause-ends
returns-clause-ends c = λ id node stamps contents asked ok lawful later.
    chain_exists (contents 0) lawful id node c.args.details stamps c.body-span.result.from
    c.body-span.result.to c.body-span.ensures asked c.requires ok contents refl later
