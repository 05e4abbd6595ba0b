-- Names for parts of the definitions in specs/References, for the lemmas on these parts.
use Rattle.std.specs.Prelude.{ℕ, Bool, true, ◌==◌, List, [], ◌∷◌, map, Option, None, Some, option_map, find, if◌then◌else◌}
use Rattle.ua_binary.specs.declared.values.NodeId.{NodeId}
use Rattle.ua_binary.specs.declared.values.NodeId.TheVariants.{Numeric}
use Rattle.ua_space.specs.declared.link.ReferenceType.{ReferenceType}
use Rattle.ua_space.specs.declared.link.ReferenceType.TheVariants.{Organizes, HasTypeDefinition}
use Rattle.ua_space.specs.declared.layout.Layout.{Layout}
use Rattle.ua_space.specs.Space.{Node, Root, Objects, OfFolder}
use Rattle.ua_space.specs.Nodes.{id_of}
use Rattle.ua_space.specs.Index.{has_folder_id}
use Rattle.ua_space.specs.References.{Link, link_to, type_definition, reference_type_number}

abbrev pub no_node : NodeId
no_node = Numeric 0 0

-- the number of an id of namespace 0
abbrev pub in_standard : NodeId → Option ℕ
in_standard v = elim v [
  | Numeric namespace id ↦ if namespace == 0 then Some id else None
  | _ ↦
      None
]

-- the objects that hang below a node, in the order of the plan
abbrev pub objects_below : Layout → Node → List Node
objects_below space node = elim node [
  | Root ↦ Objects ∷ []
  | Objects ↦
      map OfFolder space.folders
  | _ ↦ []
]

abbrev pub organizes : Bool → Node → Link
organizes is_forward node = link_to Organizes is_forward node

abbrev pub is_defined_by : Node → Link
is_defined_by type = link_to HasTypeDefinition true type

-- the folder of this id; none: Objects
abbrev pub folder_node : Layout → Option (List ℕ) → Option Node
folder_node space given = elim given [
  | None ↦ Some Objects
  | Some id ↦
      option_map OfFolder (find (has_folder_id id) space.folders)
]

abbrev pub definition_id : Node → NodeId
definition_id node = elim (type_definition node) [ None ↦ no_node | Some type ↦ id_of type ]

abbrev pub type_id : ReferenceType → NodeId
type_id reference_type = Numeric 0 (reference_type_number reference_type)
