use Rattle.std.proofs.Common.{◌≡◌, drop, map, ◌++◌}
use Rattle.ua_space.specs.Plan.{have_equal}
use Rattle.ua_space.proofs.PlanParts.{variable_id, folder_id}
use Rattle.ua_space.proofs.judging.has_equal_folder.Given as goal

abbrev pub invariant-loop-i : goal.invariant-loop-i
invariant-loop-i l = have_equal (map folder_id l.folders ++ map variable_id l.variables)
    ≡ have_equal (map folder_id (drop l.i l.folders) ++ map variable_id l.variables)
