-- The formats of HistoryRead are lawful.
use Rattle.std.proofs.Common.{refl, arith}
use Rattle.ua_binary.specs.Format.{IsLawful}
use Rattle.ua_binary.specs.Binary.{unsigned, signed, text, byte_string, ticks, status, node_id}
use Rattle.ua_binary.specs.declared.values.NodeId.{NodeId}
use Rattle.ua_binary.specs.declared.values.Body.TheVariants.{Absent}
use Rattle.ua_binary.proofs.Combined.{then_lawful, chosen_lawful, headed_lawful, standing_lawful, fitting_lawful, raised_lawful}
use Rattle.ua_binary.proofs.Elements.{IsItemLawful, then_item, fitting_item, raised_item}
use Rattle.ua_binary.proofs.Lawful.{u32_lawful, i32_lawful, boolean_lawful, ticks_lawful, ticks_item, text_lawful, byte_string_lawful, status_item, node_id_lawful, node_id_item, qualified_lawful, body_lawful, array_of_items}
use Rattle.ua_variant.specs.Raise.{variant_fault}
use Rattle.ua_variant.specs.DataValue.{data_value}
use Rattle.ua_services.specs.declared.history.HistoryReadDetails.TheVariants.{Other}
use Rattle.ua_services.specs.Structure.{is_standard_type, binary_body}
use Rattle.ua_services.specs.History.{raw_of, raw_fields, read_raw_modified_details, history_read_details, continuation_point, history_read_value_id, history_read_request, modification_info, History, Nothing, Raw, Modified, IsHistory, history_data, IsHistoryRead, history_read_result, history_read_response}
use Rattle.ua_services.proofs.HistoryParts.{point_of, read_details_form, read_details_type, history_form, history_type}
use Rattle.ua_services.proofs.Firsts.{first_lawful}
use Rattle.ua_services.proofs.Unkept.{closed_lawful, many_lawful, array_fits, many_fits, null_lawful, structure_lawful, structure_with_values_lawful}
use Rattle.ua_services.proofs.ReadsLawful.{timestamps_lawful, data_values_lawful}

pub raw_lawful : IsLawful read_raw_modified_details
unfolding read_raw_modified_details
raw_lawful = standing_lawful raw_of raw_fields (then_lawful boolean_lawful
    (then_lawful ticks_lawful (then_lawful ticks_lawful (then_lawful u32_lawful boolean_lawful))))

read_form_lawful : (id : NodeId) → IsLawful (read_details_form id)
read_form_lawful id = chosen_lawful (is_standard_type 649 id)
    (standing_lawful _ _ (structure_lawful raw_lawful))
    (standing_lawful (λ _. Other) (λ _. Absent) body_lawful)

pub read_details_lawful : IsLawful history_read_details
unfolding history_read_details
read_details_lawful = headed_lawful read_details_type read_details_form node_id_lawful
    read_form_lawful

point_lawful : IsLawful continuation_point
unfolding continuation_point
point_lawful = standing_lawful point_of (λ v. v) byte_string_lawful

pub history_read_item : IsItemLawful history_read_value_id
unfolding history_read_value_id
history_read_item = then_item node_id_item (then_lawful text_lawful
    (then_lawful qualified_lawful point_lawful))

pub history_read_lawful : IsLawful history_read_value_id
history_read_lawful = history_read_item.lawful

pub history_asked_lawful : IsLawful history_read_request
unfolding history_read_request
history_asked_lawful = then_lawful read_details_lawful
    (then_lawful timestamps_lawful (then_lawful boolean_lawful
    (first_lawful 101 (λ e. e) history_read_item)))

pub info_item : IsItemLawful modification_info
unfolding modification_info ticks signed text
info_item = fitting_item _ (λ v h. (h.0, (h.1, h.2)))
    (then_item ticks_item (then_lawful i32_lawful text_lawful))

pub info_lawful : IsLawful modification_info
info_lawful = info_item.lawful

history_form_lawful : (id : NodeId) → IsLawful (history_form id)
history_form_lawful id =
    chosen_lawful (is_standard_type 658 id) (standing_lawful _ _
    (structure_with_values_lawful data_values_lawful)) (
    chosen_lawful (is_standard_type 11227 id) (standing_lawful _ _
    (structure_with_values_lawful (then_lawful data_values_lawful
    (raised_lawful variant_fault (many_lawful info_item)))))
    (standing_lawful (λ _. Nothing) (λ _. Absent) (raised_lawful variant_fault body_lawful)))

form_fits : (v : History) → IsHistory v
    → node_id.Fits (history_type v) × (history_form (history_type v)).Fits v
unfolding node_id binary_body byte_string
form_fits Nothing h = ((omega arith, omega arith), (tt, refl))
form_fits (Raw values) h = (
  (omega arith, omega arith),
  ((array_fits variant_fault data_value values h.0, (((omega arith, refl), h.1), refl)), refl),
)
form_fits (Modified p) h = (
  (omega arith, omega arith),
  (
    (
      (array_fits variant_fault data_value p.0 h.0, many_fits modification_info p.1 h.1),
      (((omega arith, refl), h.2), refl),
    ),
    refl,
  ),
)

pub history_lawful : IsLawful history_data
unfolding history_data
history_lawful = fitting_lawful IsHistory form_fits
    (headed_lawful history_type history_form
    (raised_lawful variant_fault node_id_lawful) history_form_lawful)

pub result_item : IsItemLawful history_read_result
unfolding history_read_result history_data status unsigned byte_string
result_item = fitting_item IsHistoryRead (λ v h. (h.0, (h.1, h.2)))
    (then_item (raised_item variant_fault status_item)
    (then_lawful (raised_lawful variant_fault byte_string_lawful) history_lawful))

pub result_lawful : IsLawful history_read_result
result_lawful = result_item.lawful

pub history_response_lawful : IsLawful history_read_response
unfolding history_read_response
history_response_lawful = fitting_lawful _ (λ v h.
    (array_fits variant_fault history_read_result v h, tt))
    (closed_lawful (array_of_items variant_fault result_item)
    (raised_lawful variant_fault null_lawful))

pub ruleset history = (
  raw_lawful,
  read_details_lawful,
  history_read_lawful,
  history_asked_lawful,
  info_lawful,
  history_lawful,
  result_lawful,
  history_response_lawful,
)
