-- The formats of Browse and Read are lawful.
use Rattle.std.proofs.Common.{None, pos}
use Rattle.std.specs.Prelude.{replicate}
use Rattle.ua_binary.specs.Format.{IsLawful}
use Rattle.ua_binary.specs.Binary.{unsigned, signed, boolean, status, node_id, qualified, localized, byte_string}
use Rattle.ua_binary.proofs.Combined.{block_lawful, then_lawful, standing_lawful, fitting_lawful, raised_lawful}
use Rattle.ua_binary.proofs.Elements.{IsItemLawful, then_item, fitting_item}
use Rattle.ua_binary.proofs.Lawful.{u32_lawful, i32_lawful, boolean_lawful, ticks_lawful, text_lawful, byte_string_lawful, status_item, node_id_lawful, node_id_item, qualified_lawful, localized_lawful, array_of_items}
use Rattle.ua_binary.specs.declared.values.NodeId.TheVariants.{Numeric}
use Rattle.ua_variant.specs.Raise.{variant_fault}
use Rattle.ua_variant.specs.DataValue.{data_value}
use Rattle.ua_services.specs.Browsing.{browse_direction, direction_of, browse_description, browse_request, reference_description, browse_result, browse_response}
use Rattle.ua_services.proofs.BrowsingParts.{direction_number}
use Rattle.ua_services.specs.Attributes.{timestamps, timestamps_of, read_value_id, read_request, data_values, read_response}
use Rattle.ua_services.proofs.AttributesParts.{timestamps_number}
use Rattle.ua_services.proofs.Firsts.{first_lawful}
use Rattle.ua_services.proofs.Unkept.{unkept_lawful, past_lawful, closed_lawful, many_lawful, array_fits, many_fits, null_lawful}
use Rattle.ua_services.proofs.UpdatesLawful.{data_value_item}

direction_lawful : IsLawful browse_direction
unfolding browse_direction
direction_lawful = standing_lawful direction_of direction_number i32_lawful

pub browse_item : IsItemLawful browse_description
unfolding browse_description
browse_item = then_item node_id_item (then_lawful direction_lawful
    (then_lawful node_id_lawful (then_lawful boolean_lawful (then_lawful u32_lawful u32_lawful))))

pub browse_lawful : IsLawful browse_description
browse_lawful = browse_item.lawful

pub browse_asked_lawful : IsLawful browse_request
unfolding browse_request
browse_asked_lawful = past_lawful (unkept_lawful (Numeric 0 0, (record { 0 = pos 0 }, 0))
    (then_lawful node_id_lawful (then_lawful ticks_lawful u32_lawful)))
    (past_lawful (unkept_lawful 0 u32_lawful) (first_lawful 1001 (λ e. e) browse_item))

pub reference_item : IsItemLawful reference_description
unfolding reference_description node_id boolean qualified localized signed
reference_item = fitting_item _ (λ v h. (h.0, (tt, (h.1, (h.2, (h.3, (h.4, h.5)))))))
    (then_item node_id_item (then_lawful boolean_lawful
    (then_lawful node_id_lawful (then_lawful qualified_lawful
    (then_lawful localized_lawful (then_lawful i32_lawful node_id_lawful))))))

pub reference_lawful : IsLawful reference_description
reference_lawful = reference_item.lawful

pub browsed_item : IsItemLawful browse_result
unfolding browse_result status unsigned byte_string
browsed_item = fitting_item _ (λ v h. (h.0, (tt, many_fits reference_description _ h.1)))
    (then_item status_item (past_lawful (unkept_lawful None byte_string_lawful)
    (many_lawful reference_item)))

pub browsed_lawful : IsLawful browse_result
browsed_lawful = browsed_item.lawful

pub browse_response_lawful : IsLawful browse_response
unfolding browse_response
browse_response_lawful = fitting_lawful _ (λ v h. (many_fits browse_result v h, tt))
    (closed_lawful (many_lawful browsed_item) null_lawful)

pub timestamps_lawful : IsLawful timestamps
unfolding timestamps
timestamps_lawful = standing_lawful timestamps_of timestamps_number i32_lawful

pub read_item : IsItemLawful read_value_id
unfolding read_value_id
read_item = then_item node_id_item (then_lawful u32_lawful
    (then_lawful text_lawful qualified_lawful))

pub read_lawful : IsLawful read_value_id
read_lawful = read_item.lawful

pub read_asked_lawful : IsLawful read_request
unfolding read_request
read_asked_lawful = past_lawful (unkept_lawful (replicate 8 0) (block_lawful 8))
    (then_lawful timestamps_lawful (first_lawful 1001 (λ e. e) read_item))

pub data_values_lawful : IsLawful data_values
data_values_lawful = array_of_items variant_fault data_value_item

pub read_response_lawful : IsLawful read_response
unfolding read_response
read_response_lawful = fitting_lawful _ (λ v h. (array_fits variant_fault data_value v h, tt))
    (closed_lawful data_values_lawful (raised_lawful variant_fault null_lawful))

pub ruleset reads = (
  browse_lawful,
  browse_asked_lawful,
  reference_lawful,
  browsed_lawful,
  browse_response_lawful,
  read_lawful,
  read_asked_lawful,
  data_values_lawful,
  read_response_lawful,
)
