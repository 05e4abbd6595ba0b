-- The references of the nodes (Part 3, 4.3.4 and 7), and what a browse finds of them (Part 4,
-- 5.9.2).
use Rattle.std.specs.Prelude.{ℕ, Bool, true, false, not, ◌==◌, ◌&&◌, ◌||◌, List, [], ◌∷◌, ◌++◌, map, filter, nat_eq, Option, None, Some, option_map, option_to_list, find, is_none, Result, Ok, Err, ok_or, if◌then◌else◌}
use Rattle.std.specs.List.{list_any}
use Rattle.std.specs.Cmp.Lexicographic.{pointwise}
use Rattle.ua_binary.specs.Format.{◌>>=◌}
use Rattle.ua_binary.specs.declared.values.NodeId.{NodeId}
use Rattle.ua_binary.specs.declared.values.NodeId.TheVariants.{Numeric}
use Rattle.ua_variant.specs.DataValue.{has}
use Rattle.ua_binary.specs.declared.codes.Status.{Status}
use Rattle.ua_binary.specs.declared.codes.TheConstants.Status.{BAD_NODE_ID_UNKNOWN, BAD_BROWSE_DIRECTION_INVALID, BAD_REFERENCE_TYPE_ID_INVALID}
use Rattle.ua_space.specs.declared.node.Variable.{Variable}
use Rattle.ua_space.specs.declared.link.ReferenceType.{ReferenceType}
use Rattle.ua_space.specs.declared.link.ReferenceType.TheVariants.{Organizes, HasTypeDefinition}
use Rattle.ua_space.specs.declared.link.Link.{Link as Lent}
use Rattle.ua_services.specs.declared.browsing.BrowseDirection.{BrowseDirection}
use Rattle.ua_services.specs.declared.browsing.BrowseDirection.TheVariants.{Forward, Inverse, Both}
use Rattle.ua_services.specs.declared.browsing.ReferenceDescription.{ReferenceDescription}
use Rattle.ua_services.specs.declared.browsing.NodeClass.TheVariants.{Unspecified}
use Rattle.ua_services.specs.Browsing.{BrowseFields, class_number}
use Rattle.ua_services.specs.Structure.{is_standard_type}
use Rattle.ua_space.specs.declared.layout.Layout.{Layout}
use Rattle.ua_space.specs.Space.{Node, Root, Objects, OfFolder, OfVariable, FolderType, BaseDataVariableType, facts, node_of, browse_name_of, display_name_of, node_at}

-- ---- the references of a node

-- a reference from a node, and the node that it leads to
abbrev pub Link : Type 0
Link = record { reference_type : ReferenceType; is_forward : Bool; target : Node }

-- one of the code without where its target lies in memory
abbrev pub link_of : Lent → Link
link_of link =
    record {
      reference_type = link.reference_type;
      is_forward = link.is_forward;
      target = node_of link.target;
    }

-- whether a variable hangs below a node: below its folder, or below Objects where it has none
abbrev pub holds : Node → Variable → Bool
holds node variable =
    elim node [
      | Objects ↦ is_none variable.folder
      | OfFolder folder ↦ elim (variable.folder)
          [ None ↦ false | Some id ↦ pointwise nat_eq id folder.id ]
      | _ ↦ false
    ]

-- what hangs below a node: objects before variables, each in the order of the plan
abbrev pub children : Layout → Node → List Node
children space node =
    (elim node [ Root ↦ Objects ∷ [] | Objects ↦ map OfFolder space.folders | _ ↦ [] ])
    ++ map OfVariable (filter (holds node) space.variables)

-- the type of a node, of those that have one
abbrev pub type_definition : Node → Option Node
type_definition node =
    elim node [
      | Root ↦ Some FolderType
      | Objects ↦ Some FolderType
      | OfFolder folder ↦ Some FolderType
      | OfVariable variable ↦ Some BaseDataVariableType
      | _ ↦ None
    ]

-- the node that organizes a node
abbrev pub parent : Layout → Node → Option Node
parent space node =
    elim node [
      | Objects ↦ Some Root
      | OfFolder folder ↦ Some Objects
      | OfVariable variable ↦ elim variable.folder [
        | None ↦ Some Objects
        | Some id ↦ option_map OfFolder (find (λ f. pointwise nat_eq f.id id) space.folders)
      ]
      | _ ↦ None
    ]

-- a reference to a node
abbrev pub link_to : ReferenceType → Bool → Node → Link
link_to type is_forward node =
    record { reference_type = type; is_forward = is_forward; target = node }

-- to the children, to the type definition, and back to the parent
abbrev pub references : Layout → Node → List Link
references space node =
    map (link_to Organizes true) (children space node)
    ++ map (link_to HasTypeDefinition true) (option_to_list (type_definition node))
    ++ map (link_to Organizes false) (option_to_list (parent space node))

-- ---- which references a browse follows

-- the id of a reference type in namespace 0 (Part 3, 7)
abbrev pub reference_type_number : ReferenceType → ℕ
reference_type_number type = elim type [ Organizes ↦ 35 | HasTypeDefinition ↦ 40 ]

-- a type that can be asked for: none, or one of the standard's that this space could have
abbrev pub is_reference_type : NodeId → Bool
is_reference_type id =
    list_any (λ number. is_standard_type number id)
    (0 ∷ 31 ∷ 32 ∷ 33 ∷ 34 ∷ 35 ∷ 40 ∷ 44 ∷ 45 ∷ 46 ∷ 47 ∷ [])

-- the asked type is no type at all, or this one, or one of which this is a subtype, where subtypes
-- count
abbrev pub is_of_type : NodeId → Bool → ReferenceType → Bool
is_of_type id subtypes type =
    is_standard_type 0 id || is_standard_type (reference_type_number type) id || subtypes
    && list_any (λ number. is_standard_type number id)
    (elim type [ Organizes ↦ 33 ∷ 31 ∷ [] | HasTypeDefinition ↦ 32 ∷ 31 ∷ [] ])

-- the reference goes the asked way
abbrev pub has_direction : BrowseDirection → Link → Bool
has_direction direction link =
    elim direction [ Forward ↦ link.is_forward | Inverse ↦ not link.is_forward | Both ↦ true ]

-- and leads to a node of a class in the mask; a mask of 0 is that of all classes
abbrev pub leads_to_class : ℕ → Link → Bool
leads_to_class mask link = mask == 0 || has mask (class_number (facts link.target).node_class)

-- the reference goes the asked way, is of the asked type, and leads to a node of an asked class
-- (Part 4, 5.9.2)
abbrev pub is_followed : BrowseDirection → BrowseFields → Link → Bool
is_followed direction (node, (asked, (type, (subtypes, (classes, fields))))) link =
    has_direction direction link && is_of_type type subtypes link.reference_type
    && leads_to_class classes link

-- ---- what is told of a reference

-- the type of a node, where it has one
abbrev pub type_id_of : Node → NodeId
type_id_of node = elim (type_definition node) [ None ↦ Numeric 0 0 | Some type ↦ (facts type).id ]

-- the fields whose bits are set (Part 4, 5.9.2); the others are null, false, Unspecified or empty
abbrev pub shown_reference : ℕ → Link → ReferenceDescription
shown_reference mask link = record {
  reference_type_id =
      if has mask 1 then (Numeric 0 (reference_type_number link.reference_type)) else (Numeric 0 0);
  is_forward = has mask 2 && link.is_forward;
  node_id = (facts link.target).id;
  node_class = if has mask 4 then (facts link.target).node_class else Unspecified;
  browse_name =
      if has mask 8 then browse_name_of link.target else record { namespace = 0; name = None };
  display_name =
      if has mask 16 then display_name_of link.target else record { locale = None; text = None };
  type_definition = if has mask 32 then type_id_of link.target else (Numeric 0 0);
}

-- ---- a browse

-- the direction that a description asks for
abbrev pub way_asked : BrowseFields → Option BrowseDirection
way_asked (node, (way, more)) = way

-- the reference type that it asks for
abbrev pub reference_type_asked : BrowseFields → NodeId
reference_type_asked (node, (way, (type, more))) = type

-- the mask of the fields that it wants
abbrev pub fields_asked : BrowseFields → ℕ
fields_asked (node, (way, (type, (subtypes, (classes, fields))))) = fields

-- the references of a node that a description asks for, as it wants them
abbrev pub found_references : Layout → BrowseFields → Node → BrowseDirection
    → List ReferenceDescription
found_references space d node direction =
    map (shown_reference (fields_asked d))
    (filter (is_followed direction d) (references space node))

-- the references that a description asks for, or why it is refused (Part 4, 5.9.2)
abbrev pub browse_at : Layout → BrowseFields → Result (List ReferenceDescription) Status
browse_at space d =
    ok_or (node_at space d.0) BAD_NODE_ID_UNKNOWN
    >>= λ node. ok_or (way_asked d) BAD_BROWSE_DIRECTION_INVALID >>= λ direction.
    if is_reference_type (reference_type_asked d) then Ok (found_references space d node direction)
    else Err BAD_REFERENCE_TYPE_ID_INVALID
