use Rattle.std.proofs.Common.{◌≡◌, take, map}
use Rattle.ua_space.specs.Lent.{variable_of}
use Rattle.ua_space.proofs.space.make_variables.Given as goal

abbrev pub invariant-loop-plan : goal.invariant-loop-plan
invariant-loop-plan l = l.variables.items ≡ map variable_of (take l.plan-index l.plans)
