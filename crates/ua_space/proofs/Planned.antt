-- A plan is judged as what it asks for is.
use Rattle.std.proofs.Common.{◌≡◌, ℕ, Bool, not, ◌&&◌, ◌+◌, List, [], ◌∷◌, ◌++◌, map, nat_lt, refl, ap, sym, subst, Result, Ok, Err, is_some}
use Rattle.std.specs.Prelude.{if◌then◌else◌}
use Rattle.std.specs.List.{list_all}
use Rattle.std.proofs.lemmas.List.{length-map}
use Rattle.ua_binary.specs.Format.{IsOrStarved}
use Rattle.ua_space.specs.declared.fault.BuildFault.{BuildFault}
use Rattle.ua_space.specs.declared.fault.BuildFault.TheVariants.{DuplicateNode, BadType, TooMany}
use Rattle.ua_space.specs.declared.plan.Plan.{Plan}
use Rattle.ua_space.specs.declared.plan.VariablePlan.{VariablePlan}
use Rattle.ua_space.specs.declared.node.Folder.{Folder}
use Rattle.ua_space.specs.declared.node.Variable.{Variable}
use Rattle.ua_space.specs.declared.layout.Layout.{Layout}
use Rattle.ua_space.specs.Plan.{Entry, variable_for, type_number, have_equal}
use Rattle.ua_space.specs.Lent.{folder_of, entry_of, planned_by, judged_by}

map_twice : {A B C : Type 0} (g : B → C) (f : A → B) (xs : List A)
    → map g (map f xs) ≡ map (λ x. g (f x)) xs
map_twice g f [] = refl
map_twice g f (x ∷ xs) = ap (λ more. g (f x) ∷ more) (map_twice g f xs)

typed : (plans : List VariablePlan)
    → list_all (λ (entry : Entry). is_some (type_number entry.type_name)) (map entry_of plans)
    ≡ list_all (λ plan. is_some (type_number plan.type_name.now)) plans
typed [] = refl
typed (plan ∷ plans) = ap (λ more. is_some (type_number plan.type_name.now) && more) (typed plans)

-- by how many there are, whether their types are known, their ids and the variables
decided : List ℕ → List Folder → ℕ → Bool → List (List ℕ) → List Variable → Result Layout BuildFault
decided namespace folders count known ids variables =
    if nat_lt 1000 count then Err TooMany
    else if not known then Err BadType
    else if have_equal ids then Err DuplicateNode
    else Ok (record { namespace = namespace; folders = folders; variables = variables })

pub same_planned : (plan : Plan) → planned_by plan ≡ judged_by plan
unfolding decided
same_planned plan =
    let folders = plan.folders.now in
    let variables = plan.variables.now in
    (λ i. decided plan.namespace.now (map folder_of folders)
    (length-map folders folder_of i + length-map variables entry_of i) (typed variables i)
    (map_twice (λ (folder : Folder). folder.id) folder_of folders i
    ++ map_twice (λ (entry : Entry). entry.id) entry_of variables i)
    (map_twice variable_for entry_of variables i))

pub as_planned : (plan : Plan) (memory : BuildFault) (result : Result Layout BuildFault)
    → IsOrStarved memory (judged_by plan) result → IsOrStarved memory (planned_by plan) result
as_planned plan memory result is = let P : Result Layout BuildFault → Type 0 =
    λ made. IsOrStarved memory made result in subst P (sym (same_planned plan)) is
