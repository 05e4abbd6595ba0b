use Rattle.std.proofs.Common.{◌≤◌, ◌-◌, ◌==◌, if◌then◌else◌}
use Rattle.stamp.specs.Limits.{greatest}
use Rattle.peer_check.proofs.Raising.{IsRaisedBelow}
use Rattle.peer_check.proofs.comparing.numbers_before.Given as goal

abbrev pub invariant-loop-n : goal.invariant-loop-n
invariant-loop-n l =
    IsRaisedBelow l.n (λ replica. if replica == l.origin then l.number - 1 else greatest) l.numbers
    × (1 ≤ l.n)
