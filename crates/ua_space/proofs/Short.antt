-- What is told of a space's nodes can be written.
use Rattle.std.proofs.Common.{◌≡◌, ◌≤◌, ◌<◌, ◌+◌, ◌^◌, ℕ, Bool, true, false, List, [], ◌∷◌, ◌++◌, map, filter, length, None, Some, find, nat_eq, nat_lt, Ok, Err, refl, sym, cond, subst, arith}
use Rattle.std.specs.Prelude.{Option, Result, All, IfSome, IfOk, MatchResult, codes, if◌then◌else◌}
use Rattle.std.specs.Option.{option_map, option_to_list, ok_or}
use Rattle.std.specs.List.{AllByRecursion}
use Rattle.std.proofs.lemmas.Bool.{ltb-false}
use Rattle.std.proofs.lemmas.List.{length-map, length-append}
use Rattle.std.proofs.lemmas.List.Elements.{All-nil, All-cons, All-map}
use Rattle.std.specs.Map.{lookup}
use Rattle.std.proofs.lemmas.Map.Entries.{All-lookup}
use Rattle.ua_binary.specs.declared.values.NodeId.{NodeId}
use Rattle.ua_binary.specs.Binary.{IsShortNode, IsCounted, IsShortLocalized}
use Rattle.ua_binary.specs.declared.codes.TheConstants.Status.{BAD_ATTRIBUTE_ID_INVALID}
use Rattle.ua_binary.specs.Format.{IsOrStarved}
use Rattle.ua_variant.specs.DataValue.{has}
use Rattle.ua_services.specs.Browsing.{BrowseFields, IsShortReference}
use Rattle.ua_services.specs.declared.browsing.BrowseDirection.{BrowseDirection}
use Rattle.ua_services.specs.declared.browsing.ReferenceDescription.{ReferenceDescription}
use Rattle.ua_session.specs.declared.identity.Access.{Access}
use Rattle.ua_space.specs.declared.attributes.Answered.{Answered}
use Rattle.ua_space.specs.declared.layout.Layout.{Layout}
use Rattle.ua_space.specs.declared.node.Folder.{Folder}
use Rattle.ua_space.specs.declared.plan.Plan.{Plan}
use Rattle.ua_space.specs.declared.fault.BuildFault.{BuildFault}
use Rattle.ua_space.specs.declared.plan.VariablePlan.{VariablePlan}
use Rattle.ua_space.specs.Lent.{HasShortPlan, HasPlannedId, folder_of, variable_of, layout_of, judged_by}
use Rattle.ua_space.proofs.PlanParts.{is_too_large}
use Rattle.ua_space.specs.Space.{Node, Root, Objects, NamespaceArray, State, OfFolder, OfVariable, FolderType, BaseDataVariableType, node_at, is_same_id, HasShortId, HasShortTexts, HasCountableName, IsShortLayout, browse_name_of, display_name_of}
use Rattle.ua_space.specs.Nodes.{id_of, name_of}
use Rattle.ua_space.specs.Index.{has_folder_id}
use Rattle.ua_space.proofs.SpaceParts.{nodes}
use Rattle.ua_space.specs.Attributes.{own_attributes, attributes, IsShortAnswered}
use Rattle.ua_space.proofs.AttributesParts.{common_attributes}
use Rattle.ua_space.specs.References.{Link, holds, children, type_definition, parent, references, is_followed, shown_reference}
use Rattle.ua_space.proofs.ReferencesParts.{type_id, definition_id, folder_node, no_node, objects_below, organizes, is_defined_by}

-- its texts can be counted
abbrev pub IsShort : Node → Type 0
IsShort (OfFolder folder) = HasShortTexts folder
IsShort (OfVariable variable) = HasShortId variable × HasCountableName variable
IsShort node = Unit {0}

-- ---- lists

all_of : {X : Type 0} (P : X → Type 0) (xs : List X) → AllByRecursion P xs → All P xs
all_of P [] all = All-nil P
all_of P (x ∷ xs) all = All-cons P x xs all.0 (all_of P xs all.1)

pub all_map : {X Y : Type 0} (f : X → Y) (P : Y → Type 0) (xs : List X)
    → AllByRecursion (λ x. P (f x)) xs → AllByRecursion P (map f xs)
all_map f P [] all = tt
all_map f P (x ∷ xs) all = (all.0, all_map f P xs all.1)

all_append : {X : Type 0} (P : X → Type 0) (xs ys : List X) → AllByRecursion P xs
    → AllByRecursion P ys → AllByRecursion P (xs ++ ys)
all_append P [] ys a b = b
all_append P (x ∷ xs) ys a b = (a.0, all_append P xs ys a.1 b)

all_filter : {X : Type 0} (p : X → Bool) (P : X → Type 0) (xs : List X) → AllByRecursion P xs
    → AllByRecursion P (filter p xs)
all_filter p P [] all = tt
all_filter p P (x ∷ xs) all = by (p x) (all_filter p P xs all.1)
  where
    by : (b : Bool) → AllByRecursion P (filter p xs)
        → AllByRecursion P (cond b (x ∷ filter p xs) (filter p xs))
    by true later = (all.0, later)
    by false later = later

fewer : {X : Type 0} (p : X → Bool) (xs : List X) → length (filter p xs) ≤ length xs
fewer p [] = omega arith
fewer p (x ∷ xs) = by (p x) (fewer p xs)
  where
    by : (b : Bool) → length (filter p xs) ≤ length xs
        → length (cond b (x ∷ filter p xs) (filter p xs)) ≤ length (x ∷ xs)
    by true less = omega arith
    by false less = omega arith

-- what is found is as each of the list is
found_as : {X : Type 0} (p : X → Bool) (P : X → Type 0) (xs : List X) → AllByRecursion P xs
    → IfSome (find p xs) P
found_as p P [] all = tt
found_as p P (x ∷ xs) all = by (p x) (found_as p P xs all.1)
  where
    by : (b : Bool) → IfSome (find p xs) P → IfSome (cond b (Some x) (find p xs)) P
    by true later = all.0
    by false later = later

all_both : {X : Type 0} (P Q : X → Type 0) (xs : List X) → AllByRecursion P xs → AllByRecursion Q xs
    → AllByRecursion (λ x. P x × Q x) xs
all_both P Q [] a b = tt
all_both P Q (x ∷ xs) a b = ((a.0, b.0), all_both P Q xs a.1 b.1)

-- ---- nodes

variables_short : (space : Layout) → IsShortLayout space
    → AllByRecursion IsShort (map OfVariable space.variables)
variables_short space short = all_map OfVariable IsShort space.variables
    (all_both HasShortId HasCountableName space.variables short.ids short.names)

folders_short : (space : Layout) → IsShortLayout space
    → AllByRecursion IsShort (map OfFolder space.folders)
folders_short space short = all_map OfFolder IsShort space.folders short.folders

nodes_short : (space : Layout) → IsShortLayout space → AllByRecursion IsShort (nodes space)
nodes_short space short = (
  tt,
  (
    tt,
    (
      tt,
      (
        tt,
        all_append IsShort (map OfFolder space.folders)
            (map OfVariable space.variables) (folders_short space short)
            (variables_short space short),
      ),
    ),
  ),
)

pub node_short : (space : Layout) (id : NodeId) (node : Node) → IsShortLayout space
    → Some node ≡ node_at space id → IsShort node
node_short space id node short is = let P : Option Node → Type 0 = λ o. IfSome o IsShort in
    subst P (sym is) (found_as (λ node. is_same_id (id_of node) id) IsShort (nodes space)
    (nodes_short space short))

name_counted : (node : Node) → IsShort node → length (name_of node) < 2 ^ 31
name_counted Root short = omega arith
name_counted Objects short = omega arith
name_counted NamespaceArray short = omega arith
name_counted State short = omega arith
name_counted (OfFolder folder) short = short.1
name_counted (OfVariable variable) short = short.1
name_counted FolderType short = omega arith
name_counted BaseDataVariableType short = omega arith

id_counted : (node : Node) → IsShort node → IsShortNode (id_of node)
id_counted Root short = tt
id_counted Objects short = tt
id_counted NamespaceArray short = tt
id_counted State short = tt
id_counted (OfFolder folder) short = short.0
id_counted (OfVariable variable) short = let few : length variable.id ≤ 256 = short.0 in omega arith
id_counted FolderType short = tt
id_counted BaseDataVariableType short = tt

-- ---- attributes

abbrev IsShortEntry : ℕ × Answered → Type 0
IsShortEntry entry = IsShortAnswered entry.1

commons_short : (node : Node) → IsShort node → AllByRecursion IsShortEntry (common_attributes node)
commons_short node short = (
  id_counted node short,
  (tt, (name_counted node short, ((tt, name_counted node short), tt))),
)

owns_short : (space : Layout) → IsShortLayout space → (access : Access) → (node : Node)
    → AllByRecursion IsShortEntry (own_attributes space access node)
owns_short space short access Root = (tt, tt)
owns_short space short access Objects = (tt, tt)
owns_short space short access (OfFolder folder) = (tt, tt)
owns_short space short access NamespaceArray =
    ((omega arith, array_short), (tt, (tt, (tt, (tt, (tt, tt))))))
  where
    array_short : All IsCounted (Some (codes "http://opcfoundation.org/UA/") ∷ Some space.namespace
        ∷ [])
    array_short = All-cons IsCounted (Some (codes "http://opcfoundation.org/UA/"))
        (Some space.namespace ∷ []) (omega arith) (All-cons IsCounted
        (Some space.namespace) [] short.namespace (All-nil IsCounted))
owns_short space short access State = (tt, (tt, (tt, (tt, (tt, (tt, tt))))))
owns_short space short access (OfVariable variable) = (tt, (tt, (tt, (tt, (tt, (tt, tt))))))
owns_short space short access FolderType = tt
owns_short space short access BaseDataVariableType = tt

entry_short : (number : ℕ) (table : List (ℕ × Answered)) → AllByRecursion IsShortEntry table
    → IfSome (lookup (nat_eq number) table) IsShortAnswered
entry_short number table all = All-lookup IsShortAnswered (nat_eq number) table
    (all_of IsShortEntry table all)

pub attribute_short : (space : Layout) (access : Access) (node : Node) (number : ℕ)
    → IsShortLayout space → IsShort node
    → IfOk (ok_or (lookup (nat_eq number) (attributes space access node))
    BAD_ATTRIBUTE_ID_INVALID) IsShortAnswered
attribute_short space access node number short is =
    by (lookup (nat_eq number) (attributes space access node))
    (entry_short number (attributes space access node)
    (all_append IsShortEntry (common_attributes node) (own_attributes space access node)
    (commons_short node is) (owns_short space short access node)))
  where
    by : (o : Option Answered) → IfSome o IsShortAnswered
        → IfOk (ok_or o BAD_ATTRIBUTE_ID_INVALID) IsShortAnswered
    by None is = tt
    by (Some answered) is = is

-- ---- references

below_short : (space : Layout) → IsShortLayout space → (node : Node)
    → AllByRecursion IsShort (objects_below space node)
below_short space short Root = (tt, tt)
below_short space short Objects = folders_short space short
below_short space short NamespaceArray = tt
below_short space short State = tt
below_short space short (OfFolder folder) = tt
below_short space short (OfVariable variable) = tt
below_short space short FolderType = tt
below_short space short BaseDataVariableType = tt

children_short : (space : Layout) → IsShortLayout space → (node : Node)
    → AllByRecursion IsShort (children space node)
children_short space short node =
    let both = all_both HasShortId HasCountableName space.variables short.ids short.names in
    all_append IsShort (objects_below space node) (map OfVariable
    (filter (holds node) space.variables)) (below_short space short node)
    (all_map OfVariable IsShort (filter (holds node) space.variables)
    (all_filter (holds node) (λ v. HasShortId v × HasCountableName v) space.variables both))

listed_short : (o : Option Node) → IfSome o IsShort → AllByRecursion IsShort (option_to_list o)
listed_short None is = tt
listed_short (Some node) is = (is, tt)

definition_short : (node : Node) → IfSome (type_definition node) IsShort
definition_short Root = tt
definition_short Objects = tt
definition_short NamespaceArray = tt
definition_short State = tt
definition_short (OfFolder folder) = tt
definition_short (OfVariable variable) = tt
definition_short FolderType = tt
definition_short BaseDataVariableType = tt

folder_short : (space : Layout) → IsShortLayout space → (folder : Option (List ℕ))
    → IfSome (folder_node space folder) IsShort
folder_short space short None = tt
folder_short space short (Some id) =
    by (find (has_folder_id id) space.folders) (found_as
    (has_folder_id id) HasShortTexts space.folders short.folders)
  where
    by : (o : Option Folder) → IfSome o HasShortTexts → IfSome (option_map OfFolder o) IsShort
    by None is = tt
    by (Some folder) is = is

parent_short : (space : Layout) → IsShortLayout space → (node : Node)
    → IfSome (parent space node) IsShort
parent_short space short Root = tt
parent_short space short Objects = tt
parent_short space short NamespaceArray = tt
parent_short space short State = tt
parent_short space short (OfFolder folder) = tt
parent_short space short (OfVariable variable) = folder_short space short variable.folder
parent_short space short FolderType = tt
parent_short space short BaseDataVariableType = tt

abbrev LeadsShort : Link → Type 0
LeadsShort link = IsShort link.target

links_short : (space : Layout) → IsShortLayout space → (node : Node)
    → AllByRecursion LeadsShort (references space node)
links_short space short node =
    let back = all_map (organizes false) LeadsShort (option_to_list (parent space node))
    (listed_short (parent space node) (parent_short space short node)) in
    let type = all_map is_defined_by LeadsShort (option_to_list (type_definition node))
    (listed_short (type_definition node) (definition_short node)) in
    let down = all_map (organizes true) LeadsShort (children space node)
    (children_short space short node) in
    all_append LeadsShort (map (organizes true) (children space node)
    ++ map is_defined_by (option_to_list (type_definition node))) _
    (all_append LeadsShort (map (organizes true) (children space node)) _ down type) back

told_short : (mask : ℕ) (link : Link) → LeadsShort link
    → IsShortReference (shown_reference mask link)
told_short mask link short = (
  type_short (has mask 1),
  id_counted link.target short,
  name_short (has mask 8),
  text_short (has mask 16),
  defined_short (has mask 32),
)
  where
    type_short : (b : Bool) → IsShortNode (if b then type_id link.reference_type else no_node)
    type_short true = tt
    type_short false = tt

    name_short : (b : Bool) → IsCounted (if b then browse_name_of link.target else
        record { namespace = 0; name = None }).name
    name_short true = name_counted link.target short
    name_short false = tt

    text_short : (b : Bool) → IsShortLocalized (if b then display_name_of link.target else
        record { locale = None; text = None })
    text_short true = (tt, name_counted link.target short)
    text_short false = (tt, tt)

    by : (o : Option Node) → IfSome o IsShort
        → IsShortNode (elim o [ None ↦ no_node | Some type ↦ id_of type ])
    by None is = tt
    by (Some type) is = id_counted type is

    defined_short : (b : Bool) → IsShortNode (if b then definition_id link.target else no_node)
    defined_short true = by (type_definition link.target) (definition_short link.target)
    defined_short false = tt

few_below : (space : Layout) (node : Node)
    → length (objects_below space node) ≤ length space.folders + 1
few_below space Root = omega arith
few_below space Objects = omega (arith, length-map space.folders OfFolder)
few_below space NamespaceArray = omega arith
few_below space State = omega arith
few_below space (OfFolder folder) = omega arith
few_below space (OfVariable variable) = omega arith
few_below space FolderType = omega arith
few_below space BaseDataVariableType = omega arith

few_listed : (o : Option Node) → length (option_to_list o) ≤ 1
few_listed None = omega arith
few_listed (Some node) = omega arith

few_links : (space : Layout) (node : Node) → IsShortLayout space
    → length (references space node) ≤ 1003
few_links space node short =
    let most : length space.folders + length space.variables ≤ 1000 = short.few in
    let down = map (organizes true) (children space node) in
    let type = map is_defined_by (option_to_list (type_definition node)) in
    let back = map (organizes false) (option_to_list (parent space node)) in
    let below = map OfVariable (filter (holds node) space.variables) in
    omega (
      arith,
      few_below space node,
      fewer (holds node) space.variables,
      few_listed (type_definition node),
      few_listed (parent space node),
      length-append (down ++ type) back,
      length-append down type,
      length-append (objects_below space node) below,
      length-map (children space node) (organizes true),
      length-map (option_to_list (type_definition node)) is_defined_by,
      length-map (option_to_list (parent space node)) (organizes false),
      length-map (filter (holds node) space.variables) OfVariable,
    )

abbrev pub AreShort : List ReferenceDescription → Type 0
AreShort references = (length references < 2 ^ 31) × All IsShortReference references

each_told : (mask : ℕ) (links : List Link) → AllByRecursion LeadsShort links
    → AllByRecursion (λ link. IsShortReference (shown_reference mask link)) links
each_told mask [] all = tt
each_told mask (link ∷ links) all = (told_short mask link all.0, each_told mask links all.1)

pub told_all : (space : Layout) (d : BrowseFields) → IsShortLayout space
    → (direction : BrowseDirection) (node : Node)
    → AreShort (map (shown_reference d.1.1.1.1.1) (filter (is_followed direction d)
    (references space node)))
told_all space d short direction node =
    let mask = d.1.1.1.1.1 in
    let some = filter (is_followed direction d) (references space node) in (
      omega (
        arith,
        length-map some (shown_reference mask),
        fewer (is_followed direction d) (references space node),
        few_links space node short,
      ),
      All-map IsShortReference (shown_reference mask) some
          (all_of (λ link. IsShortReference (shown_reference mask link)) some
          (all_filter (is_followed direction d) (λ link.
          IsShortReference (shown_reference mask link)) (references space node)
          (each_told mask (references space node) (links_short space short node)))),
    )

-- what is answered unless memory is wanting
pub starved_short : {A E : Type 0} (memory : E) (P : A → Type 0) (answer result : Result A E)
    → IfOk answer P → IsOrStarved memory answer result → IfOk result P
starved_short memory P (Ok a) (Ok b) is so = subst P (sym so) is
starved_short memory P (Ok a) (Err e) is so = tt
starved_short memory P (Err e) (Ok b) is so = absurd cc
starved_short memory P (Err e) (Err f) is so = tt

-- ---- plans

pub plan_short : (plan : Plan) → HasShortPlan plan → AllByRecursion HasPlannedId plan.variables.now
    → length plan.folders.now + length plan.variables.now ≤ 1000 → IsShortLayout (layout_of plan)
plan_short plan short ids few = record {
  namespace = short.namespace;
  folders = all_map folder_of HasShortTexts plan.folders.now short.folders;
  ids = all_map variable_of HasShortId plan.variables.now (each plan.variables.now ids);
  names = all_map variable_of HasCountableName plan.variables.now short.variables;
  few = omega (
    arith,
    few,
    length-map plan.folders.now folder_of,
    length-map plan.variables.now variable_of,
  );
}
  where
    each : (variables : List VariablePlan) → AllByRecursion HasPlannedId variables
        → AllByRecursion (λ v. HasShortId (variable_of v)) variables
    each [] all = tt
    each (v ∷ variables) all = (all.0.1, each variables all.1)

few_judged : (plan : Plan) (b : Bool)
    → nat_lt 1000 (length plan.folders.now + length plan.variables.now) ≡ b → (space : Layout)
    → judged_by plan ≡ Ok space → length plan.folders.now + length plan.variables.now ≤ 1000
few_judged plan true e space is = absurd cc
few_judged plan false e space is =
    ltb-false 1000 (length plan.folders.now + length plan.variables.now) e

-- a plan that was judged to make a space
pub judged_short : (plan : Plan) (judged : Result (Unit {0}) BuildFault) (nothing : Unit {0})
    → HasShortPlan plan → AllByRecursion HasPlannedId plan.variables.now
    → MatchResult (judged_by plan) (λ _. judged ≡ Ok tt) (λ fault. judged ≡ Err fault)
    → judged ≡ Ok nothing → IsShortLayout (layout_of plan)
judged_short plan judged nothing short ids so ok = by (judged_by plan) refl so
  where
    by : (r : Result Layout BuildFault) → judged_by plan ≡ r
        → MatchResult r (λ _. judged ≡ Ok tt) (λ fault. judged ≡ Err fault)
        → IsShortLayout (layout_of plan)
    by (Ok space) is _ = plan_short plan short ids
        (few_judged plan (is_too_large plan) refl space is)
    by (Err fault) is refused = absurd cc
