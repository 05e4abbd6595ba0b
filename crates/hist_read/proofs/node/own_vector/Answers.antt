use Rattle.archive.proofs.Vectors.{told_is}
use Rattle.hist_read.proofs.Askings.{asked_as}
use Rattle.hist_read.proofs.node.own_vector.Goals as goal

pub returns-clause-asks : goal.returns-clause-asks
returns-clause-asks g c = asked_as _ _ c.in_ok-own.own c.in_ok-own.own _ _ c.in_ok-own.ensures.asks
    (λ lawful is. told_is (g.A.Archive.state c.args.archive.now).content c.in_ok-own.own lawful
    c.first_number-first.ensures is)
