-- What a HistoryUpdate asks and answers (Part 4, 5.11.5; Part 11, 6.8).
use Rattle.std.specs.Prelude.{◌<◌, ◌^◌, ℤ, pos, List, [], length, map, All, Bool, false}
use Rattle.std.specs.List.{AllByRecursion}
use Rattle.std.specs.Int.{w32}
use Rattle.ua_binary.specs.declared.fault.BinaryFault.{BinaryFault}
use Rattle.ua_binary.specs.declared.values.NodeId.{NodeId}
use Rattle.ua_binary.specs.declared.values.NodeId.TheVariants.{Numeric}
use Rattle.ua_binary.specs.declared.values.Ticks.{Ticks}
use Rattle.ua_binary.specs.declared.codes.Status.{Status}
use Rattle.ua_binary.specs.declared.values.Body.TheVariants.{Absent}
use Rattle.ua_binary.specs.Format.{Format, ◌▸◌, chosen, headed, standing_for, fitting}
use Rattle.ua_binary.specs.Binary.{signed, boolean, node_id, node_of, ticks, status, body}
use Rattle.ua_variant.specs.declared.fault.VariantFault.{VariantFault}
use Rattle.ua_variant.specs.declared.data.DataValue.{DataValue}
use Rattle.ua_variant.specs.Raise.{variant_fault}
use Rattle.ua_variant.specs.Variant.{raise}
use Rattle.ua_variant.specs.DataValue.{data_value, IsShortData}
use Rattle.ua_services.specs.Unkept.{◌◃◌, many, AreFew, first_items_of, null}
use Rattle.ua_services.specs.Structure.{is_standard_type, structure, structure_with_values}
use Rattle.ua_services.specs.declared.updates.UpdateDataDetails.{UpdateDataDetails}
use Rattle.ua_services.specs.declared.updates.DeleteRawModifiedDetails.{DeleteRawModifiedDetails}
use Rattle.ua_services.specs.declared.updates.DeleteAtTimeDetails.{DeleteAtTimeDetails}
use Rattle.ua_services.specs.declared.updates.HistoryUpdateDetails.{HistoryUpdateDetails}
use Rattle.ua_services.specs.declared.updates.HistoryUpdateDetails.TheVariants as lent
use Rattle.ua_services.specs.declared.updates.HistoryUpdateResult.{HistoryUpdateResult}

-- ---- details

-- a node, which update is asked, and values
abbrev pub DataUpdate : Type 0
DataUpdate = NodeId × (ℤ × List DataValue)

abbrev pub data_update : UpdateDataDetails → DataUpdate
data_update d = (node_of d.node_id, (d.perform, d.values))

-- node, perform, values: of which 1,001 are kept
unfoldable pub update_data_details : Format VariantFault DataUpdate
update_data_details =
    raise node_id ▸ raise (signed w32) ▸ first_items_of 1001 variant_fault data_value

-- a node, whether modified values are meant, and a range of time
abbrev pub raw_deletion : DeleteRawModifiedDetails → NodeId × (Bool × (Ticks × Ticks))
raw_deletion d = (node_of d.node_id, (d.is_delete_modified, (d.start_time, d.end_time)))

-- node, whether modified values are meant, start, end
unfoldable pub delete_raw_modified_details : Format BinaryFault (NodeId × (Bool × (Ticks × Ticks)))
delete_raw_modified_details = node_id ▸ boolean ▸ ticks ▸ ticks

-- a node, and times
abbrev pub deletion_at : DeleteAtTimeDetails → NodeId × List Ticks
deletion_at d = (node_of d.node_id, d.times)

-- node, times: of which 1,001 are kept
unfoldable pub delete_at_time_details : Format BinaryFault (NodeId × List Ticks)
delete_at_time_details = node_id ▸ first_items_of 1001 (λ e. e) ticks

-- what one of the details asks
pub data Details : Type 0 where
  UpdateData : DataUpdate → Details
  DeleteRawModified : NodeId × (Bool × (Ticks × Ticks)) → Details
  DeleteAtTime : NodeId × List Ticks → Details
  -- of another type
  Other : Details

-- borrowed details as these
abbrev pub details_of : HistoryUpdateDetails → Details
details_of (lent.UpdateData d) = UpdateData (data_update d)
details_of (lent.DeleteRawModified d) = DeleteRawModified (raw_deletion d)
details_of (lent.DeleteAtTime d) = DeleteAtTime (deletion_at d)
details_of lent.Other = Other

-- UpdateDataDetails, as one of the kinds of details
abbrev pub update_data_form : Format VariantFault Details
update_data_form =
    standing_for UpdateData (λ v. elim v [ UpdateData d ↦ d | _ ↦ (Numeric 0 0, (pos 0, [])) ])
    (structure_with_values update_data_details)

-- DeleteRawModifiedDetails, as one of the kinds of details
abbrev pub delete_raw_modified_form : Format BinaryFault Details
delete_raw_modified_form =
    standing_for DeleteRawModified
    (λ v.
    elim v [
      | DeleteRawModified d ↦ d
      | _ ↦ (Numeric 0 0, (false, (record { 0 = pos 0 }, record { 0 = pos 0 })))
    ])
    (structure delete_raw_modified_details)

-- DeleteAtTimeDetails, as one of the kinds of details
abbrev pub delete_at_time_form : Format BinaryFault Details
delete_at_time_form =
    standing_for DeleteAtTime (λ v. elim v [ DeleteAtTime d ↦ d | _ ↦ (Numeric 0 0, []) ])
    (structure delete_at_time_details)

-- the type id of the structure of these details
abbrev pub update_type_id : Details → NodeId
update_type_id v =
    elim v [
      | UpdateData _ ↦ Numeric 0 682
      | DeleteRawModified _ ↦ Numeric 0 688
      | DeleteAtTime _ ↦ Numeric 0 691
      | Other ↦ Numeric 0 0
    ]

-- a type, and what it calls for, a structure that fills the body; the body of another type isn't
-- looked into
unfoldable pub history_update_details : Format VariantFault Details
history_update_details =
    headed update_type_id (raise node_id) (λ id.
    chosen (is_standard_type 682 id) update_data_form
    (chosen (is_standard_type 688 id) (raise delete_raw_modified_form)
    (chosen (is_standard_type 691 id) (raise delete_at_time_form)
    (raise (standing_for (λ _. Other) (λ _. Absent) body)))))

-- ---- HistoryUpdate

-- its values may be written again
abbrev pub HasShortValues : Details → Type 0
HasShortValues (UpdateData (node, (perform, values))) = AllByRecursion IsShortData values
HasShortValues details = Unit {0}

-- the details, each by itself: of which 101 are kept
unfoldable pub history_update_request : Format VariantFault (List Details)
history_update_request = first_items_of 101 variant_fault history_update_details

-- the status of one of the details, and the codes of its operations
abbrev pub update_fields : HistoryUpdateResult → Status × List Status
update_fields r = (r.status, r.operation_results)

-- status, codes, diagnostics
unfoldable pub history_update_result : Format BinaryFault (Status × List Status)
history_update_result =
    fitting (λ (code, codes). (code.0 < 2 ^ 32) × AreFew status codes) (status ▸ many status ◃ null)

abbrev pub IsShortUpdate : HistoryUpdateResult → Type 0
IsShortUpdate r = length r.operation_results < 2 ^ 31

abbrev pub AreShortUpdates : List HistoryUpdateResult → Type 0
AreShortUpdates results = (length results < 2 ^ 31) × All IsShortUpdate results

abbrev pub AreUpdated : List HistoryUpdateResult → Type 0
AreUpdated results = AreFew history_update_result (map update_fields results)

-- the results, diagnostics
unfoldable pub history_update_response : Format BinaryFault (List (Status × List Status))
history_update_response = fitting (AreFew history_update_result) (many history_update_result ◃ null)
