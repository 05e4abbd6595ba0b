-- The attributes of the nodes, as tables from an attribute's number (Part 6, A.1) to its value
-- (Part 3, 5).
use Rattle.std.specs.Prelude.{ℕ, pos, negsuc, Bool, true, false, nat_eq, List, [], ◌∷◌, codes, Some, Result, ok_or, if◌then◌else◌}
use Rattle.std.specs.Map.{lookup}
use Rattle.ua_binary.specs.Format.{◌>>=◌}
use Rattle.ua_session.specs.declared.identity.Access.{Access}
use Rattle.ua_session.specs.declared.identity.Access.TheVariants as may
use Rattle.ua_binary.specs.declared.values.NodeId.{NodeId}
use Rattle.ua_binary.specs.declared.values.NodeId.TheVariants.{Numeric}
use Rattle.ua_variant.specs.declared.value.Scalar.{Scalar}
use Rattle.ua_variant.specs.declared.value.Scalar.TheVariants as scalar
use Rattle.ua_variant.specs.declared.value.Array.TheVariants as array
use Rattle.ua_variant.specs.declared.value.Variant.TheVariants as variant
use Rattle.ua_variant.specs.Variant.{IsShortVariant}
use Rattle.ua_space.specs.declared.attributes.Answered.{Answered}
use Rattle.ua_space.specs.declared.attributes.Answered.TheVariants.{Value, Archived}
use Rattle.ua_binary.specs.declared.codes.Status.{Status}
use Rattle.ua_binary.specs.declared.codes.TheConstants.Status.{BAD_NODE_ID_UNKNOWN, BAD_ATTRIBUTE_ID_INVALID}
use Rattle.ua_space.specs.declared.layout.Layout.{Layout}
use Rattle.ua_space.specs.declared.node.Variable.{Variable}
use Rattle.ua_services.specs.Browsing.{class_number}
use Rattle.ua_space.specs.Space.{Node, NamespaceArray, State, OfVariable, FolderType, BaseDataVariableType, facts, browse_name_of, display_name_of, node_at}

-- a single value
abbrev pub one : Scalar → Answered
one value = Value (variant.Scalar value)

-- of a variable (5.6) beside its Value: DataType, ValueRank, AccessLevel, UserAccessLevel,
-- Historizing. A level of access (8.57): bit 0 is CurrentRead, bit 2 HistoryRead, bit 3
-- HistoryWrite; that of the node, and what of it this user may do.
abbrev pub variable_attributes : ℕ → Bool → (level user_level : ℕ) → Bool → List (ℕ × Answered)
variable_attributes data_type is_array level user_level historizing =
    (14, one (scalar.NodeId (Numeric 0 data_type)))
    ∷ (15, one (scalar.Int32 (if is_array then pos 1 else negsuc 0)))
    ∷ (17, one (scalar.Byte level)) ∷ (18, one (scalar.Byte user_level))
    ∷ (20, one (scalar.Boolean historizing)) ∷ []

-- what a user may do with an archived variable: read it and its history, and write the history too
abbrev pub user_level : Access → ℕ
user_level access = elim access [ may.Read ↦ 5 | may.Write ↦ 13 ]

-- the URIs of the namespaces: the standard's and the archive's
abbrev pub namespaces : Layout → Answered
namespaces space =
    Value
    (variant.Array
    (array.String (Some (codes "http://opcfoundation.org/UA/") ∷ Some space.namespace ∷ [])))

-- of an archived variable: the level 13 is read, history and its changes
abbrev pub archived_attributes : Access → Variable → List (ℕ × Answered)
archived_attributes access variable =
    let type = variable.value_type in
    (13, Archived) ∷ variable_attributes type.number type.array 13 (user_level access) true

-- What a node of its class has besides, for a user who may do this. The data types 12 and 852 are
-- String and ServerState; the state is 0, Running; the level 1 is read alone. The last line is of
-- an object (5.5): EventNotifier, that it has no events.
abbrev pub own_attributes : Layout → Access → Node → List (ℕ × Answered)
own_attributes space access NamespaceArray =
    (13, namespaces space) ∷ variable_attributes 12 true 1 1 false
own_attributes space access State =
    (13, one (scalar.Int32 (pos 0))) ∷ variable_attributes 852 false 1 1 false
own_attributes space access (OfVariable variable) = archived_attributes access variable
own_attributes space access FolderType = []
own_attributes space access BaseDataVariableType = []
own_attributes space access _ = (12, one (scalar.Byte 0)) ∷ []

-- all attributes of a node, for a user who may do this: those of all nodes (5.2), NodeId,
-- NodeClass, BrowseName and DisplayName, and its own
abbrev pub attributes : Layout → Access → Node → List (ℕ × Answered)
attributes space access node =
    (1, one (scalar.NodeId (facts node).id))
    ∷ (2, one (scalar.Int32 (pos (class_number (facts node).node_class))))
    ∷ (3, one (scalar.QualifiedName (browse_name_of node)))
    ∷ (4, one (scalar.LocalizedText (display_name_of node))) ∷ own_attributes space access node

-- an attribute of the node of an id, for a user who may do this
abbrev pub attribute_at : Layout → Access → NodeId → ℕ → Result Answered Status
attribute_at space access id number =
    ok_or (node_at space id) BAD_NODE_ID_UNKNOWN >>= λ node.
    ok_or (lookup (nat_eq number) (attributes space access node)) BAD_ATTRIBUTE_ID_INVALID

-- it can be written
abbrev pub IsShortAnswered : Answered → Type 0
IsShortAnswered (Value value) = IsShortVariant value
IsShortAnswered Archived = Unit {0}
