-- What a plan of the code asks for, without where its texts lie in memory, and what is asked of it.
use Rattle.std.specs.Prelude.{◌≡◌, ◌+◌, ◌<◌, ◌≤◌, true, not, List, ◌++◌, length, map, nat_eq, nat_lt, IfSome, is_some, option_copied, Result, Ok, Err, if◌then◌else◌}
use Rattle.std.specs.List.{list_any, list_all, AllByRecursion}
use Rattle.std.specs.Cmp.Lexicographic.{pointwise}
use Rattle.ua_space.specs.declared.fault.BuildFault.{BuildFault}
use Rattle.ua_space.specs.declared.fault.BuildFault.TheVariants.{DuplicateNode, BadType, TooMany}
use Rattle.ua_space.specs.declared.plan.Plan.{Plan}
use Rattle.ua_space.specs.declared.plan.FolderPlan.{FolderPlan}
use Rattle.ua_space.specs.declared.plan.VariablePlan.{VariablePlan}
use Rattle.ua_space.specs.declared.node.Folder.{Folder}
use Rattle.ua_space.specs.declared.node.Variable.{Variable}
use Rattle.ua_space.specs.declared.layout.Layout.{Layout}
use Rattle.ua_space.specs.Plan.{Entry, variable_for, type_number, have_equal, planned}
use Rattle.ua_space.specs.Space.{IsCountable, HasShortTexts, HasCountableName}

-- ---- what a plan asks for

abbrev pub folder_of : FolderPlan → Folder
folder_of folder = record { id = folder.id.now; name = folder.name.now }

abbrev pub entry_of : VariablePlan → Entry
entry_of plan =
    record {
      id = plan.id.now;
      name = plan.name.now;
      type_name = plan.type_name.now;
      array = plan.array;
      folder = option_copied plan.folder;
    }

abbrev pub variable_of : VariablePlan → Variable
variable_of plan = variable_for (entry_of plan)

-- the space of a plan, or why there is none
abbrev pub planned_by : Plan → Result Layout BuildFault
planned_by plan =
    planned plan.namespace.now (map folder_of plan.folders.now) (map entry_of plan.variables.now)

abbrev pub layout_of : Plan → Layout
layout_of plan =
    record {
      namespace = plan.namespace.now;
      folders = map folder_of plan.folders.now;
      variables = map variable_of plan.variables.now;
    }

-- the same as the code judges it
abbrev pub judged_by : Plan → Result Layout BuildFault
judged_by plan =
    if nat_lt 1000 (length plan.folders.now + length plan.variables.now) then Err TooMany
    else if not
    (list_all (λ variable. is_some (type_number variable.type_name.now)) plan.variables.now)
    then Err BadType
    else if have_equal
    (map (λ folder. folder.id.now) plan.folders.now
    ++ map (λ variable. variable.id.now) plan.variables.now) then Err DuplicateNode
    else Ok (layout_of plan)

-- ---- what is asked of a plan

-- a variable's id has 1 to 256 bytes
abbrev pub HasPlannedId : VariablePlan → Type 0
HasPlannedId variable = (0 < length variable.id.now) × (length variable.id.now ≤ 256)

-- the folder that a variable names is one of the plan
abbrev pub HasFolder : List FolderPlan → VariablePlan → Type 0
HasFolder folders variable =
    IfSome variable.folder
    (λ id. list_any (λ folder. pointwise nat_eq folder.id.now id.now) folders ≡ true)

-- each text can be counted
pub record HasShortPlan (plan : Plan) : Type 0 where
  pub namespace : IsCountable plan.namespace.now
  pub folders : AllByRecursion (λ folder. HasShortTexts (folder_of folder)) plan.folders.now
  pub variables : AllByRecursion
      (λ variable. HasCountableName (variable_of variable)) plan.variables.now
