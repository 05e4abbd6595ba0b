use Rattle.std.proofs.Common.{◌≤◌, ◌-◌}
use Rattle.stamp.specs.Numbers.{number_of}
use Rattle.peer_check.proofs.Raising.{IsRaisedBelow}
use Rattle.peer_check.proofs.beginning.vector_before_last.Given as goal

abbrev pub invariant-loop-n : goal.invariant-loop-n
invariant-loop-n l =
    IsRaisedBelow l.n (λ replica. number_of l.held replica - 1) l.numbers × (1 ≤ l.n)
