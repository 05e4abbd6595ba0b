-- Variables and the nodes that they hang below.
use Rattle.std.proofs.Common.{◌≡◌, ℕ, Bool, true, false, ◌||◌, List, [], ◌∷◌, map, None, Some, find, refl, sym, ap, ◌∙◌, cond, nat_eq, IfSome, IsSome}
use Rattle.std.specs.Prelude.{Option}
use Rattle.std.specs.Borrow.{Bor}
use Rattle.std.specs.Option.{option_map, option_copied, unwrap_or}
use Rattle.std.specs.List.{AllByRecursion, list_any}
use Rattle.std.specs.Cmp.Lexicographic.{pointwise, bytes_decides}
use Rattle.std.proofs.lemmas.Bool.{true≢false}
use Rattle.std.proofs.lemmas.Option.{none-some}
use Rattle.ua_space.specs.declared.layout.Layout.{Layout}
use Rattle.ua_space.specs.declared.node.Folder.{Folder}
use Rattle.ua_space.specs.declared.node.Variable.{Variable}
use Rattle.ua_space.specs.declared.plan.Plan.{Plan}
use Rattle.ua_space.specs.declared.plan.FolderPlan.{FolderPlan}
use Rattle.ua_space.specs.declared.plan.VariablePlan.{VariablePlan}
use Rattle.ua_space.specs.Lent.{HasFolder, layout_of, folder_of, variable_of}
use Rattle.ua_space.specs.Space.{OfFolder, OfVariable}
use Rattle.ua_space.specs.Index.{has_folder_id}
use Rattle.ua_space.specs.References.{parent, holds}
use Rattle.ua_space.proofs.ReferencesParts.{folder_node}

-- ---- below

-- what is found passes the test
find_test : {X : Type 0} (p : X → Bool) (xs : List X) (x : X) → Some x ≡ find p xs → p x ≡ true
find_test p [] x is = absurd (none-some x (sym is))
find_test p (first ∷ xs) x is = by (p first) refl is (find_test p xs x)
  where
    by : (b : Bool) → p first ≡ b → Some x ≡ cond b (Some first) (find p xs)
        → (Some x ≡ find p xs → p x ≡ true) → p x ≡ true
    by true here one later = let same : x ≡ first = ap (λ o. unwrap_or o first) one in
        ap p same ∙ here
    by false here rest later = later rest

in_folder : (space : Layout) (variable : Variable) (id : List ℕ) (found : Option Folder)
    → variable.folder ≡ Some id → found ≡ find (has_folder_id id) space.folders
    → IfSome (option_map OfFolder found) (λ node. holds node variable ≡ true)
in_folder space variable id None is at = tt
in_folder space variable id (Some folder) is at =
    let same : folder.id ≡ id = (bytes_decides folder.id id).0
    (find_test (has_folder_id id) space.folders folder at) in
    let test : pointwise nat_eq id folder.id ≡ true = (bytes_decides id folder.id).1 (sym same) in
    rw is test

pub below : (space : Layout) (variable : Variable)
    → IfSome (parent space (OfVariable variable)) (λ node. holds node variable ≡ true)
below space variable = by variable.folder refl
  where
    by : (folder : Option (List ℕ)) → variable.folder ≡ folder
        → IfSome (folder_node space folder) (λ node. holds node variable ≡ true)
    by None is = rw is refl
    by (Some id) is = in_folder space variable id _ is refl

-- ---- somewhere

any_found : (id : List ℕ) (folders : List FolderPlan)
    → list_any (λ folder. pointwise nat_eq folder.id.now id) folders ≡ true
    → IsSome (option_map OfFolder (find (has_folder_id id) (map folder_of folders)))
any_found id [] is = absurd (true≢false (sym is))
any_found id (folder ∷ folders) is =
    by (pointwise nat_eq folder.id.now id) is (any_found id folders)
  where
    by : (b : Bool) → (b || list_any (λ other. pointwise nat_eq other.id.now id) folders) ≡ true
        → (list_any (λ other. pointwise nat_eq other.id.now id) folders ≡ true
        → IsSome (option_map OfFolder (find (has_folder_id id) (map folder_of folders))))
        → IsSome (option_map OfFolder (cond b (Some (folder_of folder))
        (find (has_folder_id id) (map folder_of folders))))
    by true one later = refl
    by false rest later = later rest

has_parent : (plan : Plan) (folder : Option (Bor (List ℕ)))
    → IfSome folder (λ id. list_any (λ one. pointwise nat_eq one.id.now id.now) plan.folders.now
    ≡ true) → IsSome (folder_node (layout_of plan) (option_copied folder))
has_parent plan None is = refl
has_parent plan (Some id) is = any_found id.now plan.folders.now is

have_parents : (plan : Plan) (variables : List VariablePlan)
    → AllByRecursion (HasFolder plan.folders.now) variables
    → AllByRecursion (λ variable. IsSome (parent (layout_of plan) (OfVariable variable)))
    (map variable_of variables)
have_parents plan [] all = tt
have_parents plan (variable ∷ variables) all =
    (has_parent plan variable.folder all.0, have_parents plan variables all.1)

pub somewhere : (plan : Plan) → AllByRecursion (HasFolder plan.folders.now) plan.variables.now
    → AllByRecursion (λ variable. IsSome (parent (layout_of plan) (OfVariable variable)))
    (layout_of plan).variables
somewhere plan all = have_parents plan plan.variables.now all

pub ruleset hanging = (below, somewhere)
