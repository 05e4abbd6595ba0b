use Rattle.std.proofs.Common.{drop, map}
use Rattle.ua_space.specs.Space.{OfVariable}
use Rattle.ua_space.specs.Index.{Lists}
use Rattle.ua_space.proofs.index.add_variables.Given as goal

abbrev pub invariant-loop-i : goal.invariant-loop-i
invariant-loop-i l = Lists l.layout (map OfVariable (drop l.i l.layout.variables)) l.places
