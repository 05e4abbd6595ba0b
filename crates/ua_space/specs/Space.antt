-- The nodes of an address space (Part 3, 5): what each is, its id, its class and its names.
use Rattle.std.specs.Prelude.{◌≤◌, ◌<◌, ◌+◌, ◌^◌, ℕ, Bool, false, ◌==◌, ◌&&◌, List, [], ◌∷◌, ◌++◌, length, map, codes, nat_eq, Option, None, Some, find}
use Rattle.std.specs.List.{AllByRecursion}
use Rattle.std.specs.Cmp.Lexicographic.{pointwise}
use Rattle.ua_binary.specs.declared.values.NodeId.{NodeId}
use Rattle.ua_binary.specs.declared.values.NodeId.TheVariants.{Numeric, Named}
use Rattle.ua_binary.specs.declared.values.QualifiedName.{QualifiedName}
use Rattle.ua_binary.specs.declared.values.LocalizedText.{LocalizedText}
use Rattle.ua_variant.specs.declared.value.ValueType.{ValueType}
use Rattle.ua_space.specs.declared.node.Folder.{Folder}
use Rattle.ua_space.specs.declared.node.Variable.{Variable}
use Rattle.ua_space.specs.declared.layout.Layout.{Layout}
use Rattle.ua_services.specs.declared.browsing.NodeClass.{NodeClass}
use Rattle.ua_services.specs.declared.browsing.NodeClass.TheVariants as class
use Rattle.ua_space.specs.declared.node.Node.{Node as Lent}
use Rattle.ua_space.specs.declared.node.Node.TheVariants as lent

-- A node. The last two are types, which references lead to; they are no nodes of the space.
pub data Node : Type 0 where
  Root Objects NamespaceArray State FolderType BaseDataVariableType : Node
  OfFolder : Folder → Node
  OfVariable : Variable → Node

-- a node of the code without where it lies in memory
abbrev pub node_of : Lent → Node
node_of lent.Root = Root
node_of lent.Objects = Objects
node_of lent.NamespaceArray = NamespaceArray
node_of lent.State = State
node_of (lent.Folder folder) = OfFolder folder.now
node_of (lent.Variable variable) = OfVariable variable.now
node_of lent.FolderType = FolderType
node_of lent.BaseDataVariableType = BaseDataVariableType

-- ---- attributes that each node has (Part 3, 5.2)

-- what is fixed of a node: its id, its class and its name
abbrev pub Facts : Type 0
Facts = record { id : NodeId; node_class : NodeClass; name : List ℕ }

-- these
abbrev pub facts_of : NodeId → NodeClass → List ℕ → Facts
facts_of id kind name = record { id = id; node_class = kind; name = name }

-- the id of each, its class and its name
abbrev pub facts : Node → Facts
facts Root = facts_of (Numeric 0 84) class.Object (codes "Root")
facts Objects = facts_of (Numeric 0 85) class.Object (codes "Objects")
facts NamespaceArray = facts_of (Numeric 0 2255) class.Variable (codes "NamespaceArray")
facts State = facts_of (Numeric 0 2259) class.Variable (codes "State")
facts (OfFolder folder) = facts_of (Named 1 folder.id) class.Object folder.name
facts (OfVariable variable) = facts_of (Named 1 variable.id) class.Variable variable.name
facts FolderType = facts_of (Numeric 0 61) class.ObjectType (codes "FolderType")
facts BaseDataVariableType =
    facts_of (Numeric 0 63) class.VariableType (codes "BaseDataVariableType")

-- the BrowseName of a node (Part 3, 5.2.4)
abbrev pub browse_name_of : Node → QualifiedName
browse_name_of node =
    record {
      namespace = elim node [ OfFolder folder ↦ 1 | OfVariable variable ↦ 1 | _ ↦ 0 ];
      name = Some (facts node).name;
    }

-- the name, in no language
abbrev pub display_name_of : Node → LocalizedText
display_name_of node = record { locale = None; text = Some (facts node).name }

-- ---- the node of an id

-- whether two ids are the same; a GUID or an opaque id is no node's
abbrev pub is_same_id : NodeId → NodeId → Bool
is_same_id (Numeric m i) (Numeric n j) = m == n && i == j
is_same_id (Named m a) (Named n b) = m == n && pointwise nat_eq a b
is_same_id _ _ = false

-- the node of this id: one of the four of namespace 0, a folder or a variable
abbrev pub node_at : Layout → NodeId → Option Node
node_at space id =
    find (λ node. is_same_id (facts node).id id)
    ((Root ∷ Objects ∷ NamespaceArray ∷ State ∷ [])
    ++ (map OfFolder space.folders ++ map OfVariable space.variables))

-- the type of the variable with this id, where there is one
abbrev pub value_type_at : Layout → NodeId → Option ValueType
value_type_at space id =
    elim (node_at space id) [ Some (OfVariable variable) ↦ Some variable.value_type | _ ↦ None ]

-- ---- what each variable keeps

-- the variable's id has at most 256 bytes
abbrev pub HasShortId : Variable → Type 0
HasShortId variable = length variable.id ≤ 256

-- an id of at most 256 bytes
abbrev pub IsShortId : NodeId → Type 0
IsShortId (Named namespace name) = length name ≤ 256
IsShortId _ = Unit {0}

-- ---- what each space keeps: texts that can be counted, and at most 1,000 nodes

-- the text's length has 31 bits
abbrev pub IsCountable : List ℕ → Type 0
IsCountable text = length text < 2 ^ 31

-- the folder's id and its name can be counted in 31 bits
abbrev pub HasShortTexts : Folder → Type 0
HasShortTexts folder = IsCountable folder.id × IsCountable folder.name

-- the variable's name can be counted in 31 bits
abbrev pub HasCountableName : Variable → Type 0
HasCountableName variable = IsCountable variable.name

-- what the types and the settings' rules promise of a layout
pub record IsShortLayout (space : Layout) : Type 0 where
  pub namespace : IsCountable space.namespace
  pub folders : AllByRecursion HasShortTexts space.folders
  pub ids : AllByRecursion HasShortId space.variables
  pub names : AllByRecursion HasCountableName space.variables
  pub few : length space.folders + length space.variables ≤ 1000
