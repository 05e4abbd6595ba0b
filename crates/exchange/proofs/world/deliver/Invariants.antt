use Rattle.std.proofs.Common.{take}
use Rattle.exchange.proofs.RunLemmas.{Learned}
use Rattle.exchange.proofs.world.deliver.Given as goal

abbrev pub invariant-loop-held : goal.invariant-loop-held
invariant-loop-held g l = Learned (g.A.Archive.state l.fn.archive) (g.A.Archive.state l.archive)
    (take l.held-index l.records)
