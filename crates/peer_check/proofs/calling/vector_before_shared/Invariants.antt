use Rattle.std.proofs.Common.{◌≤◌}
use Rattle.stamp.specs.Numbers.{number_of}
use Rattle.peer_check.specs.Comparing.{before_shared}
use Rattle.peer_check.proofs.Raising.{IsRaisedBelow}
use Rattle.peer_check.proofs.calling.vector_before_shared.Given as goal

abbrev pub invariant-loop-n : goal.invariant-loop-n
invariant-loop-n l =
    IsRaisedBelow l.n (λ replica. before_shared l.extent (number_of l.ours replica) (number_of l.theirs replica))
    l.numbers × (1 ≤ l.n)
