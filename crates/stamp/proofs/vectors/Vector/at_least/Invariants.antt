use Rattle.std.proofs.Common.{ℕ, ◌<◌, ◌≤◌, get_or}
use Rattle.stamp.proofs.vectors.Vector.at_least.Given as goal

abbrev pub invariant-loop-i : goal.invariant-loop-i
invariant-loop-i l = (k : ℕ) → k < l.i
    → get_or l.other-inside.numbers k 0 ≤ get_or l.self-inside.numbers k 0
