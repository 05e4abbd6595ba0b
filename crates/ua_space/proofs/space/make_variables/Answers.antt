use Rattle.ua_space.proofs.Ids.{short_made}
use Rattle.ua_space.proofs.space.make_variables.Goals as goal

pub returns-clause-short : goal.returns-clause-short
returns-clause-short c = short_made _ _ _ _ c.requires c.loop-plan.invariant c.loop-plan-test.false
    c.of.ensures
