use Rattle.stamp.proofs.Maps.{JoinedBelow}
use Rattle.stamp.proofs.vectors.Vector.join.Given as goal

abbrev pub invariant-loop-i : goal.invariant-loop-i
invariant-loop-i l = JoinedBelow l.initial.self-inside.numbers l.other-inside.numbers
    l.self-inside.numbers l.i
