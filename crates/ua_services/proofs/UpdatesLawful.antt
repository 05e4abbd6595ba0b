-- The formats of HistoryUpdate are lawful.
use Rattle.std.proofs.Common.{refl}
use Rattle.ua_binary.specs.Format.{IsLawful}
use Rattle.ua_binary.specs.Binary.{unsigned, status}
use Rattle.ua_binary.specs.declared.values.NodeId.{NodeId}
use Rattle.ua_binary.specs.declared.values.Body.TheVariants.{Absent}
use Rattle.ua_binary.proofs.Combined.{then_lawful, chosen_lawful, standing_lawful, fitting_lawful, raised_lawful}
use Rattle.ua_binary.proofs.Elements.{IsItemLawful, item, then_item, headed_item, raised_item, fitting_item}
use Rattle.ua_binary.proofs.Lawful.{i32_lawful, boolean_lawful, ticks_lawful, ticks_item, status_item, node_id_lawful, node_id_item, body_lawful}
use Rattle.ua_variant.specs.Raise.{variant_fault}
use Rattle.ua_variant.specs.DataValue.{data_value}
use Rattle.ua_variant.proofs.Masks.{data_value_lawful}
use Rattle.ua_services.specs.Structure.{is_standard_type}
use Rattle.ua_services.specs.Updates.{Other, update_data_details, delete_raw_modified_details, delete_at_time_details, history_update_details, history_update_request, history_update_result, history_update_response}
use Rattle.ua_services.proofs.UpdatesParts.{details_form, details_type}
use Rattle.ua_services.proofs.Firsts.{first_lawful}
use Rattle.ua_services.proofs.Unkept.{closed_lawful, many_lawful, many_fits, null_lawful, structure_lawful, structure_with_values_lawful}

pub data_value_item : IsItemLawful data_value
unfolding data_value
data_value_item = item data_value_lawful refl

pub data_update_lawful : IsLawful update_data_details
unfolding update_data_details
data_update_lawful = then_lawful (raised_lawful variant_fault node_id_lawful)
    (then_lawful (raised_lawful variant_fault i32_lawful)
    (first_lawful 1001 variant_fault data_value_item))

pub raw_deletion_lawful : IsLawful delete_raw_modified_details
unfolding delete_raw_modified_details
raw_deletion_lawful = then_lawful node_id_lawful (then_lawful boolean_lawful
    (then_lawful ticks_lawful ticks_lawful))

pub deletion_at_lawful : IsLawful delete_at_time_details
unfolding delete_at_time_details
deletion_at_lawful = then_lawful node_id_lawful (first_lawful 1001 (λ e. e) ticks_item)

details_form_lawful : (id : NodeId) → IsLawful (details_form id)
details_form_lawful id =
    chosen_lawful (is_standard_type 682 id) (standing_lawful _ _
    (structure_with_values_lawful data_update_lawful)) (
    chosen_lawful (is_standard_type 688 id) (raised_lawful variant_fault
    (standing_lawful _ _ (structure_lawful raw_deletion_lawful))) (
    chosen_lawful (is_standard_type 691 id) (raised_lawful variant_fault
    (standing_lawful _ _ (structure_lawful deletion_at_lawful)))
    (raised_lawful variant_fault (standing_lawful (λ _. Other) (λ _. Absent) body_lawful))))

pub details_item : IsItemLawful history_update_details
unfolding history_update_details
details_item = headed_item details_type details_form
    (raised_item variant_fault node_id_item) details_form_lawful

pub details_lawful : IsLawful history_update_details
details_lawful = details_item.lawful

pub updates_asked_lawful : IsLawful history_update_request
unfolding history_update_request
updates_asked_lawful = first_lawful 101 variant_fault details_item

pub update_item : IsItemLawful history_update_result
unfolding history_update_result status unsigned
update_item = fitting_item _ (λ v h. (h.0, (many_fits status _ h.1, tt)))
    (then_item status_item (closed_lawful (many_lawful status_item) null_lawful))

pub update_lawful : IsLawful history_update_result
update_lawful = update_item.lawful

pub updates_lawful : IsLawful history_update_response
unfolding history_update_response
updates_lawful = fitting_lawful _ (λ v h. (many_fits history_update_result v h, tt))
    (closed_lawful (many_lawful update_item) null_lawful)

pub ruleset updates = (
  data_update_lawful,
  raw_deletion_lawful,
  deletion_at_lawful,
  details_lawful,
  updates_asked_lawful,
  update_lawful,
  updates_lawful,
)
