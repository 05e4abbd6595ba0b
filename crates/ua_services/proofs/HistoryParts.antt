-- Names for parts of the definitions in specs/History, for the lemmas on these parts.
use Rattle.std.specs.Prelude.{[], ℕ, List, Option, Some, None, ◌∷◌}
use Rattle.ua_binary.specs.declared.fault.BinaryFault.{BinaryFault}
use Rattle.ua_binary.specs.declared.values.NodeId.{NodeId}
use Rattle.ua_binary.specs.declared.values.NodeId.TheVariants.{Numeric}
use Rattle.ua_binary.specs.declared.values.Body.TheVariants.{Absent}
use Rattle.ua_binary.specs.Format.{Format, chosen, standing_for}
use Rattle.ua_binary.specs.Binary.{body}
use Rattle.ua_variant.specs.declared.fault.VariantFault.{VariantFault}
use Rattle.ua_variant.specs.Variant.{raise}
use Rattle.ua_services.specs.Structure.{is_standard_type, structure_with_values}
use Rattle.ua_services.specs.Attributes.{data_values}
use Rattle.ua_services.specs.declared.history.HistoryReadDetails.{HistoryReadDetails}
use Rattle.ua_services.specs.declared.history.HistoryReadDetails.TheVariants.{ReadRawModified, Other}
use Rattle.ua_services.specs.History.{History, Modified, Nothing, Raw, history_modified_data, read_raw_modified_form}

-- the type that is written
abbrev pub history_type : History → NodeId
history_type v = elim v [
  | Nothing ↦ Numeric 0 0
  | Raw _ ↦ Numeric 0 658
  | Modified _ ↦
      Numeric 0 11227
]

-- what the type calls for: 658 HistoryData, 11227 HistoryModifiedData, another nothing
abbrev pub history_form : NodeId → Format VariantFault History
history_form id =
    chosen (is_standard_type 658 id) (standing_for Raw
    (λ v. elim v [ Raw values ↦ values | _ ↦ [] ]) (structure_with_values data_values)) (
    chosen (is_standard_type 11227 id) (standing_for Modified
    (λ v. elim v [ Modified p ↦ p | _ ↦ ([], []) ])
    (structure_with_values history_modified_data))
    (standing_for (λ _. Nothing) (λ _. Absent) (raise body)))

-- the type that is written
abbrev pub read_details_type : HistoryReadDetails → NodeId
read_details_type v = elim v [ ReadRawModified _ ↦ Numeric 0 649 | Other ↦ Numeric 0 0 ]

abbrev pub other_read_form : Format BinaryFault HistoryReadDetails
other_read_form = standing_for (λ _. Other) (λ _. Absent) body

-- what the type calls for: 649 a structure that fills the body; the body of another type isn't
-- looked into
abbrev pub read_details_form : NodeId → Format BinaryFault HistoryReadDetails
read_details_form id = chosen (is_standard_type 649 id) read_raw_modified_form other_read_form

-- an empty continuation point counts as none
abbrev pub point_of : Option (List ℕ) → Option (List ℕ)
point_of given = elim given [
  | Some [] ↦ None
  | Some (byte ∷ bytes) ↦ Some (byte ∷ bytes)
  | None ↦
      None
]
