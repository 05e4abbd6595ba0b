use Rattle.std.proofs.Common.{◌≡◌, take, map}
use Rattle.ua_space.specs.Lent.{folder_of}
use Rattle.ua_space.proofs.space.make_folders.Given as goal

abbrev pub invariant-loop-plan : goal.invariant-loop-plan
invariant-loop-plan l = l.folders.items ≡ map folder_of (take l.plan-index l.plans)
