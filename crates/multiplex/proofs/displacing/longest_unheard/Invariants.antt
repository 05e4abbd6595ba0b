use Rattle.multiplex.proofs.Finding.{IsFound}
use Rattle.multiplex.proofs.displacing.longest_unheard.Given as goal

abbrev pub invariant-loop-place : goal.invariant-loop-place
invariant-loop-place g l = IsFound g.H.Handler.behavior l.round.now l.slots l.place l.longest
    l.since
