use Rattle.std.proofs.Common.{subst, IsTrue}
use Rattle.hist_read.proofs.point.PagePoint.is_well_formed.Goals as goal

pub returns-then-not-is_spelled-clause-next : goal.returns-then-not-is_spelled-clause-next
returns-then-not-is_spelled-clause-next c =
    λ n x. subst IsTrue c.if-not-is_spelled.true (c.is_spelled.ensures.1 n)

pub returns-then-not-is_position-clause-next : goal.returns-then-not-is_position-clause-next
returns-then-not-is_position-clause-next c =
    λ n x. subst IsTrue c.if-not-is_position.true (c.is_position.ensures.next x.0 x.1)
