-- The values of a HistoryUpdate that were read may be written again.
use Rattle.std.proofs.Common.{◌≡◌, List, Ok, subst, sym}
use Rattle.std.specs.List.{AllByRecursion}
use Rattle.std.proofs.lemmas.List.Elements.{recursion_from_All}
use Rattle.ua_binary.specs.declared.values.NodeId.{NodeId}
use Rattle.ua_binary.specs.Format.{chosen}
use Rattle.std.specs.Int.{w32}
use Rattle.ua_binary.specs.Binary.{signed, node_id}
use Rattle.ua_binary.proofs.Counted.{SpellsOnly, any_only, then_only, headed_only, chosen_only, raised_only, read_only}
use Rattle.ua_variant.specs.Raise.{variant_fault}
use Rattle.ua_variant.specs.Variant.{raise}
use Rattle.ua_variant.specs.DataValue.{IsShortData}
use Rattle.ua_variant.proofs.Short.{data_value_only}
use Rattle.ua_services.specs.Structure.{is_standard_type}
use Rattle.ua_services.specs.Updates.{DataUpdate, Details, HasShortValues, update_data_details, update_data_form, delete_raw_modified_form, delete_at_time_form, history_update_details, history_update_request}
use Rattle.ua_services.proofs.UpdatesParts.{other_form, details_form, details_type}
use Rattle.ua_services.proofs.Firsts.{first_only}
use Rattle.ua_services.proofs.UpdatesLawful.{updates_asked_lawful}

abbrev IsShortUpdate : DataUpdate → Type 0
IsShortUpdate d = AllByRecursion IsShortData d.1.1

update_data_only : SpellsOnly update_data_details IsShortUpdate
unfolding update_data_details
update_data_only =
    let parts = then_only (any_only (raise node_id))
    (then_only (any_only (raise (signed w32))) (first_only 1001 variant_fault data_value_only))
    in
    record {
      holds = λ bytes v s. recursion_from_All IsShortData v.1.1
          (parts.holds bytes v s).1.1.1;
    }

update_only : SpellsOnly update_data_form HasShortValues
update_only = record {
  holds = λ bytes v s.
      subst HasShortValues (sym s.2) (update_data_only.holds s.1.0 s.0 s.1.2);
}

raw_only : SpellsOnly delete_raw_modified_form HasShortValues
raw_only = record { holds = λ bytes v s. subst HasShortValues (sym s.2) tt }

at_only : SpellsOnly delete_at_time_form HasShortValues
at_only = record { holds = λ bytes v s. subst HasShortValues (sym s.2) tt }

else_only : SpellsOnly other_form HasShortValues
else_only = record { holds = λ bytes v s. subst HasShortValues (sym s.2) tt }

details_only : (id : NodeId) → SpellsOnly (details_form id) HasShortValues
details_only id =
    let last = chosen_only (is_standard_type 691 id) {f = raise delete_at_time_form}
    {g = raise other_form} (raised_only variant_fault at_only)
    (raised_only variant_fault else_only) in
    let raw = chosen_only (is_standard_type 688 id) {f = raise delete_raw_modified_form}
    {g = chosen (is_standard_type 691 id) (raise delete_at_time_form) (raise other_form)}
    (raised_only variant_fault raw_only) last in
    chosen_only (is_standard_type 682 id) {f = update_data_form}
    {g = chosen (is_standard_type 688 id) (raise delete_raw_modified_form)
    (chosen (is_standard_type 691 id) (raise delete_at_time_form) (raise other_form))}
    update_only raw

request_only : SpellsOnly history_update_request (λ v. AllByRecursion HasShortValues v)
unfolding history_update_request history_update_details
request_only =
    let each : SpellsOnly history_update_details HasShortValues =
    headed_only details_type details_form (any_only (raise node_id))
    (λ id _. details_only id) in
    let all = first_only 101 variant_fault each in
    record { holds = λ bytes v s. recursion_from_All HasShortValues v (all.holds bytes v s).1 }

pub short_request : (bytes : List _) (v : List Details) (rest : List _)
    → history_update_request.read bytes ≡ Ok (v, rest) → AllByRecursion HasShortValues v
short_request bytes v rest e = read_only updates_asked_lawful request_only bytes v rest e
