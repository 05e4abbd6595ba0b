-- Names for parts of the definitions in specs/Updates, for the lemmas on these parts.
use Rattle.ua_binary.specs.declared.fault.BinaryFault.{BinaryFault}
use Rattle.ua_binary.specs.declared.values.NodeId.{NodeId}
use Rattle.ua_binary.specs.declared.values.NodeId.TheVariants.{Numeric}
use Rattle.ua_binary.specs.declared.values.Body.TheVariants.{Absent}
use Rattle.ua_binary.specs.Format.{Format, chosen, standing_for}
use Rattle.ua_binary.specs.Binary.{body}
use Rattle.ua_variant.specs.declared.fault.VariantFault.{VariantFault}
use Rattle.ua_variant.specs.Variant.{raise}
use Rattle.ua_services.specs.Structure.{is_standard_type}
use Rattle.ua_services.specs.Updates.{DeleteAtTime, DeleteRawModified, Details, Other, UpdateData, delete_at_time_form, delete_raw_modified_form, update_data_form}

-- the type that is written
abbrev pub details_type : Details → NodeId
details_type details = elim details [
  | UpdateData _ ↦ Numeric 0 682
  | DeleteRawModified _ ↦
      Numeric 0 688
  | DeleteAtTime _ ↦ Numeric 0 691
  | Other ↦ Numeric 0 0
]

abbrev pub other_form : Format BinaryFault Details
other_form = standing_for (λ _. Other) (λ _. Absent) body

-- what the type calls for: 682, 688 and 691 a structure that fills the body; the body of another
-- type isn't looked into
abbrev pub details_form : NodeId → Format VariantFault Details
details_form id =
    chosen (is_standard_type 682 id) update_data_form
    (chosen (is_standard_type 688 id) (raise delete_raw_modified_form)
    (chosen (is_standard_type 691 id) (raise delete_at_time_form) (raise other_form)))
