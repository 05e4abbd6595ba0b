-- What a Browse asks and answers (Part 4, 5.9.2).
use Rattle.std.specs.Prelude.{◌<◌, ◌^◌, ℕ, ℤ, pos, List, length, map, All, Option, Some, None, Bool, if◌then◌else◌}
use Rattle.std.specs.Ordering.{int_eq}
use Rattle.std.specs.Int.{w32}
use Rattle.std.specs.Int.RustNames.{FitsSigned}
use Rattle.ua_binary.specs.declared.fault.BinaryFault.{BinaryFault}
use Rattle.ua_binary.specs.declared.values.NodeId.{NodeId}
use Rattle.ua_binary.specs.declared.values.NodeId.TheVariants.{Numeric}
use Rattle.ua_binary.specs.declared.codes.Status.{Status}
use Rattle.ua_binary.specs.declared.values.QualifiedName.{QualifiedName}
use Rattle.ua_binary.specs.declared.values.LocalizedText.{LocalizedText}
use Rattle.ua_binary.specs.Format.{Format, ◌▸◌, standing_for, fitting}
use Rattle.ua_binary.specs.Binary.{unsigned, signed, boolean, byte_string, node_id, node_of, IsNodeId, IsShortNode, ticks, status, qualified, IsQualified, localized, IsLocalized, IsShortLocalized, IsCounted}
use Rattle.ua_services.specs.Unkept.{unkept, ◌▹◌, ◌◃◌, many, AreFew, first_items_of, null}
use Rattle.ua_services.specs.declared.browsing.BrowseDirection.{BrowseDirection}
use Rattle.ua_services.specs.declared.browsing.BrowseDirection.TheVariants.{Forward, Inverse, Both}
use Rattle.ua_services.specs.declared.browsing.NodeClass.{NodeClass}
use Rattle.ua_services.specs.declared.browsing.NodeClass.TheVariants.{Unspecified, Object, Variable, Method, ObjectType, VariableType, ReferenceType, DataType, View}
use Rattle.ua_services.specs.declared.browsing.BrowseDescription.{BrowseDescription}
use Rattle.ua_services.specs.declared.browsing.ReferenceDescription.{ReferenceDescription}
use Rattle.ua_services.specs.declared.browsing.BrowseResult.{BrowseResult}

-- ---- the request

-- another number is no direction
abbrev pub direction_of : ℤ → Option BrowseDirection
direction_of n =
    if int_eq n (pos 0) then Some Forward else if int_eq n (pos 1) then Some Inverse
    else if int_eq n (pos 2) then Some Both else None

-- a BrowseDirection by its number (Part 4, 7.5)
unfoldable pub browse_direction : Format BinaryFault (Option BrowseDirection)
browse_direction =
    standing_for direction_of
    (λ given.
    elim given [ Some Forward ↦ pos 0 | Some Inverse ↦ pos 1 | Some Both ↦ pos 2 | None ↦ pos 3 ])
    (signed w32)

-- node, direction, reference type, whether its subtypes count, classes, fields of the results
abbrev pub BrowseFields : Type 0
BrowseFields = NodeId × (Option BrowseDirection × (NodeId × (Bool × (ℕ × ℕ))))

abbrev pub browse_fields : BrowseDescription → BrowseFields
browse_fields d = (
  node_of d.node_id,
  (
    d.direction,
    (node_of d.reference_type_id, (d.include_subtypes, (d.node_class_mask, d.result_mask))),
  ),
)

-- a BrowseDescription (Part 4, 5.9.2): node, direction, reference type, subtypes, classes, fields
unfoldable pub browse_description : Format BinaryFault BrowseFields
browse_description = node_id ▸ browse_direction ▸ node_id ▸ boolean ▸ unsigned w32 ▸ unsigned w32

-- the view (its id, a moment, a version), the most references, what is browsed: of which 1,001 are
-- kept
unfoldable pub browse_request : Format BinaryFault (List BrowseFields)
browse_request =
    unkept (Numeric 0 0, (record { 0 = pos 0 }, 0)) (node_id ▸ ticks ▸ unsigned w32) ▹ unkept 0
    (unsigned w32) ▹ first_items_of 1001 (λ e. e) browse_description

-- ---- the response

-- the bit of a class of nodes (Part 3, 8.29)
abbrev pub class_number : NodeClass → ℕ
class_number class =
    elim class [
      | Unspecified ↦ 0
      | Object ↦ 1
      | Variable ↦ 2
      | Method ↦ 4
      | ObjectType ↦ 8
      | VariableType ↦ 16
      | ReferenceType ↦ 32
      | DataType ↦ 64
      | View ↦ 128
    ]

-- reference type, whether it is a forward one, node, browse name, display name, class, type
-- definition
abbrev pub ReferenceFields : Type 0
ReferenceFields = NodeId × (Bool × (NodeId × (QualifiedName × (LocalizedText × (ℤ × NodeId)))))

-- the names, the class and the type of the node that a reference leads to
abbrev pub target_fields : ReferenceDescription
    → QualifiedName × (LocalizedText × (ℤ × NodeId))
target_fields r =
    (r.browse_name, (r.display_name, (pos (class_number r.node_class), r.type_definition)))

-- the fields of a ReferenceDescription in the order in which they are spelled
abbrev pub reference_fields : ReferenceDescription → ReferenceFields
reference_fields r = (r.reference_type_id, (r.is_forward, (r.node_id, target_fields r)))

-- what has a spelling
abbrev pub IsReferenceFields : ReferenceFields → Type 0
IsReferenceFields (type, (is_forward, (node, (name, (display, (class, definition)))))) =
    IsNodeId type × IsNodeId node × IsQualified name × IsLocalized display × FitsSigned w32 class
    × IsNodeId definition

-- the expanded ids of the node and of its type definition are spelled as those of this server
unfoldable pub reference_description : Format BinaryFault ReferenceFields
reference_description =
    fitting IsReferenceFields
    (node_id ▸ boolean ▸ node_id ▸ qualified ▸ localized ▸ signed w32 ▸ node_id)

abbrev pub IsShortReference : ReferenceDescription → Type 0
IsShortReference r =
    IsShortNode r.reference_type_id × IsShortNode r.node_id × IsCounted r.browse_name.name
    × IsShortLocalized r.display_name × IsShortNode r.type_definition

-- the status of a browse, and the references
abbrev pub browsed_fields : BrowseResult → Status × List ReferenceFields
browsed_fields r = (r.status, map reference_fields r.references)

-- status, continuation point, references
unfoldable pub browse_result : Format BinaryFault (Status × List ReferenceFields)
browse_result =
    fitting (λ (status, references). (status.0 < 2 ^ 32) × AreFew reference_description references)
    (status ▸ unkept None byte_string ▹ many reference_description)

abbrev pub IsShortBrowsed : BrowseResult → Type 0
IsShortBrowsed r = (length r.references < 2 ^ 31) × All IsShortReference r.references

abbrev pub AreShortBrowsed : List BrowseResult → Type 0
AreShortBrowsed results = (length results < 2 ^ 31) × All IsShortBrowsed results

abbrev pub AreBrowsed : List BrowseResult → Type 0
AreBrowsed results = AreFew browse_result (map browsed_fields results)

-- the results, diagnostics
unfoldable pub browse_response : Format BinaryFault (List (Status × List ReferenceFields))
browse_response = fitting (AreFew browse_result) (many browse_result ◃ null)
