-- The node of an id, by the kind of the id.
use Rattle.std.proofs.Common.{◌≡◌, ℕ, Bool, true, false, ◌&&◌, List, [], ◌∷◌, map, nat_eq, None, Some, find, refl, sym, ap, ◌∙◌, cond, subst}
use Rattle.std.specs.Prelude.{Option}
use Rattle.std.specs.Option.{option_map, option_or}
use Rattle.std.specs.Cmp.Lexicographic.{pointwise}
use Rattle.std.proofs.lemmas.Bool.{ne_eqb}
use Rattle.std.proofs.lemmas.List.Folds.{find-append}
use Rattle.ua_binary.specs.declared.values.NodeId.{NodeId}
use Rattle.ua_binary.specs.declared.values.NodeId.TheVariants.{Numeric, Named, Global, Opaque}
use Rattle.ua_binary.specs.declared.values.Guid.{Guid}
use Rattle.ua_space.specs.declared.layout.Layout.{Layout}
use Rattle.ua_space.specs.declared.node.Folder.{Folder}
use Rattle.ua_space.specs.declared.node.Variable.{Variable}
use Rattle.ua_space.specs.Space.{Node, OfFolder, OfVariable, is_same_id, node_at}
use Rattle.ua_space.specs.Nodes.{id_of}
use Rattle.ua_space.specs.Index.{node_in, planned_nodes, has_folder_id, has_variable_id}
use Rattle.ua_space.proofs.SpaceParts.{standard_nodes}

-- what fits no item of a list isn't found
pub find_missed : {X Y : Type 0} (p : Y → Bool) (f : X → Y) (xs : List X)
    → ((x : X) → p (f x) ≡ false) → find p (map f xs) ≡ None
find_missed p f [] none = refl
find_missed p f (x ∷ xs) none = let here = none x in rw here (find_missed p f xs none)

-- found among mapped items
pub find-map : {X Y : Type 0} (p : Y → Bool) (f : X → Y) (xs : List X)
    → find p (map f xs) ≡ option_map f (find (λ x. p (f x)) xs)
find-map p f [] = refl
find-map p f (x ∷ xs) = by (p (f x)) (find-map p f xs)
  where
    by : (b : Bool) → find p (map f xs) ≡ option_map f (find (λ x. p (f x)) xs)
        → cond b (Some (f x)) (find p (map f xs))
        ≡ option_map f (cond b (Some x) (find (λ x. p (f x)) xs))
    by true rest = refl
    by false rest = rest

-- ---- among the nodes of the plan

pub planned_at : (space : Layout) (id : List ℕ)
    → node_in (planned_nodes space) (Named 1 id)
    ≡ option_or (option_map OfFolder (find (has_folder_id id) space.folders))
    (option_map OfVariable (find (has_variable_id id) space.variables))
planned_at space id =
    let p : Node → Bool = λ node. is_same_id (id_of node) (Named 1 id) in
    find-append p (map OfFolder space.folders) (map OfVariable space.variables)
    ∙ (λ i. option_or (find-map p OfFolder space.folders i)
    (find-map p OfVariable space.variables i))

pub planned_folder : (space : Layout) (id : List ℕ) (folder : Folder)
    → Some folder ≡ find (has_folder_id id) space.folders
    → Some (OfFolder folder) ≡ node_in (planned_nodes space) (Named 1 id)
planned_folder space id folder one = sym (planned_at space id ∙ rw (← one) refl)

pub planned_variable : (space : Layout) (id : List ℕ) (variable : Variable)
    → None ≡ find (has_folder_id id) space.folders
    → Some variable ≡ find (has_variable_id id) space.variables
    → Some (OfVariable variable) ≡ node_in (planned_nodes space) (Named 1 id)
planned_variable space id variable none one = sym (planned_at space id ∙ rw (← none, ← one) refl)

pub planned_none : (space : Layout) (id : List ℕ) → None ≡ find (has_folder_id id) space.folders
    → None ≡ find (has_variable_id id) space.variables
    → None ≡ node_in (planned_nodes space) (Named 1 id)
planned_none space id none nothing = sym (planned_at space id ∙ rw (← none, ← nothing) refl)

pub ruleset planned = (planned_folder, planned_variable, planned_none)

-- ---- among all nodes

-- an id that is of no folder and no variable
rest_none : (space : Layout) (id : NodeId) → ((name : List ℕ)
    → is_same_id (Named 1 name) id ≡ false) → node_in (planned_nodes space) id ≡ None
rest_none space id apart =
    let p : Node → Bool = λ node. is_same_id (id_of node) id in
    find-append p (map OfFolder space.folders) (map OfVariable space.variables)
    ∙ (λ i. option_or (find_missed p OfFolder space.folders (λ folder. apart folder.id) i)
    (find_missed p OfVariable space.variables (λ variable. apart variable.id) i))

or_none : {X : Type 0} (x : Option X) → option_or x None ≡ x
or_none (Some x) = refl
or_none None = refl

pub at_standard : (space : Layout) (m n : ℕ) (found : Option Node) → m ≡ 0
    → found ≡ node_in standard_nodes (Numeric 0 n) → found ≡ node_at space (Numeric m n)
at_standard space m n found zero is =
    let p : Node → Bool = λ node. is_same_id (id_of node) (Numeric 0 n) in
    let rest = rest_none space (Numeric 0 n) (λ name. refl) in
    let here : node_at space (Numeric 0 n) ≡ node_in standard_nodes (Numeric 0 n) =
    find-append p standard_nodes (planned_nodes space)
    ∙ ap (option_or (node_in standard_nodes (Numeric 0 n))) rest
    ∙ or_none (node_in standard_nodes (Numeric 0 n)) in
    let P : ℕ → Type 0 = λ k. node_in standard_nodes (Numeric 0 n) ≡ node_at space (Numeric k n) in
    is ∙ subst P (sym zero) (sym here)

pub at_planned : (space : Layout) (m : ℕ) (name : List ℕ) (found : Option Node) → m ≡ 1
    → found ≡ node_in (planned_nodes space) (Named 1 name) → found ≡ node_at space (Named m name)
at_planned space m name found one is =
    let P : ℕ → Type 0 = λ k. node_in (planned_nodes space) (Named 1 name)
    ≡ node_at space (Named k name) in
    is ∙ subst P (sym one) refl

pub at_other_number : (space : Layout) (m n : ℕ) → (m ≡ 0 → ⊥) → None ≡ node_at space (Numeric m n)
at_other_number space m n apart =
    let other = ne_eqb 0 m (λ e. apart (sym e)) in
    let rest = rest_none space (Numeric m n) (λ name. refl) in
    sym (rw (other, rest) refl)

pub at_other_name : (space : Layout) (m : ℕ) (name : List ℕ) → (m ≡ 1 → ⊥)
    → None ≡ node_at space (Named m name)
at_other_name space m name apart =
    let other = ne_eqb 1 m (λ e. apart (sym e)) in
    sym (rest_none space (Named m name) (λ id. ap (λ b. b && pointwise nat_eq id name) other))

pub at_global : (space : Layout) (m : ℕ) (id : Guid) → None ≡ node_at space (Global m id)
at_global space m id = sym (rest_none space (Global m id) (λ name. refl))

pub at_opaque : (space : Layout) (m : ℕ) (id : List ℕ) → None ≡ node_at space (Opaque m id)
at_opaque space m id = sym (rest_none space (Opaque m id) (λ name. refl))

pub ruleset anywhere = (
  at_standard,
  at_planned,
  at_other_number,
  at_other_name,
  at_global,
  at_opaque,
)
