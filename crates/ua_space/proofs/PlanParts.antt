-- Names for parts of the definitions in specs/Plan, for the lemmas on these parts.
use Rattle.std.specs.Prelude.{◌+◌, Bool, length, nat_lt, ℕ, List}
use Rattle.ua_space.specs.declared.plan.Plan.{Plan}
use Rattle.ua_space.specs.declared.plan.FolderPlan.{FolderPlan}
use Rattle.ua_space.specs.declared.plan.VariablePlan.{VariablePlan}

-- more than 1,000 nodes
abbrev pub is_too_large : Plan → Bool
is_too_large plan = nat_lt 1000 (length plan.folders.now + length plan.variables.now)

abbrev pub folder_id : FolderPlan → List ℕ
folder_id folder = folder.id.now

abbrev pub variable_id : VariablePlan → List ℕ
variable_id variable = variable.id.now
