-- What a HistoryRead asks and answers (Part 4, 5.11.3; Part 11, 6.4 and 6.5).
use Rattle.std.specs.Prelude.{◌<◌, ◌^◌, ℕ, ℤ, pos, List, [], length, map, All, Bool, false, Option, Some, None, ◌∷◌}
use Rattle.std.specs.Option.{option_copied}
use Rattle.std.specs.Int.{w32, w64}
use Rattle.std.specs.Int.RustNames.{FitsSigned}
use Rattle.ua_binary.specs.declared.fault.BinaryFault.{BinaryFault}
use Rattle.ua_binary.specs.declared.values.NodeId.{NodeId}
use Rattle.ua_binary.specs.declared.values.NodeId.TheVariants.{Numeric}
use Rattle.ua_binary.specs.declared.values.Ticks.{Ticks}
use Rattle.ua_binary.specs.declared.codes.Status.{Status}
use Rattle.ua_binary.specs.declared.values.QualifiedName.{QualifiedName}
use Rattle.ua_binary.specs.declared.values.Body.TheVariants.{Absent}
use Rattle.ua_binary.specs.Format.{Format, ◌▸◌, chosen, headed, standing_for, fitting}
use Rattle.ua_binary.specs.Binary.{unsigned, signed, boolean, text, IsText, byte_string, IsCounted, node_id, node_of, qualified, qualified_of, ticks, status, body, array}
use Rattle.ua_variant.specs.declared.fault.VariantFault.{VariantFault}
use Rattle.ua_variant.specs.declared.data.DataValue.{DataValue}
use Rattle.ua_variant.specs.Raise.{variant_fault}
use Rattle.ua_variant.specs.Variant.{raise}
use Rattle.ua_variant.specs.DataValue.{data_value}
use Rattle.ua_services.specs.Unkept.{◌◃◌, many, AreFew, first_items_of, null}
use Rattle.ua_services.specs.Structure.{is_standard_type, structure, structure_with_values}
use Rattle.ua_services.specs.Attributes.{timestamps, data_values, AreShortValues}
use Rattle.ua_services.specs.declared.attributes.TimestampsToReturn.{TimestampsToReturn}
use Rattle.ua_services.specs.declared.history.ReadRawModifiedDetails.{ReadRawModifiedDetails}
use Rattle.ua_services.specs.declared.history.HistoryReadDetails.{HistoryReadDetails}
use Rattle.ua_services.specs.declared.history.HistoryReadDetails.TheVariants.{ReadRawModified, Other}
use Rattle.ua_services.specs.declared.history.HistoryReadValueId.{HistoryReadValueId}
use Rattle.ua_services.specs.declared.history.HistoryReadRequest.{HistoryReadRequest}
use Rattle.ua_variant.specs.UpdateType.{update_number}
use Rattle.ua_services.specs.declared.history.ModificationInfo.{ModificationInfo}
use Rattle.ua_services.specs.declared.history.HistoryData.{HistoryData}
use Rattle.ua_services.specs.declared.history.HistoryData.TheVariants as owned
use Rattle.ua_services.specs.declared.history.HistoryReadResult.{HistoryReadResult}

-- ---- the request

-- a ReadRawModifiedDetails of its fields (Part 11, 6.4.3)
abbrev pub raw_of : Bool × (Ticks × (Ticks × (ℕ × Bool))) → ReadRawModifiedDetails
raw_of (modified, (start, (finish, (most, bounds)))) =
    record {
      is_read_modified = modified;
      start_time = start;
      end_time = finish;
      num_values_per_node = most;
      return_bounds = bounds;
    }

-- the fields of a ReadRawModifiedDetails in the order in which they are spelled
abbrev pub raw_fields : ReadRawModifiedDetails → Bool × (Ticks × (Ticks × (ℕ × Bool)))
raw_fields d =
    (d.is_read_modified, (d.start_time, (d.end_time, (d.num_values_per_node, d.return_bounds))))

-- whether modified values are meant, start, end, the most values, whether bounds are wanted
unfoldable pub read_raw_modified_details : Format BinaryFault ReadRawModifiedDetails
read_raw_modified_details =
    standing_for raw_of raw_fields (boolean ▸ ticks ▸ ticks ▸ unsigned w32 ▸ boolean)

-- the details of a raw or a modified read, as one of the kinds of details
abbrev pub read_raw_modified_form : Format BinaryFault HistoryReadDetails
read_raw_modified_form =
    standing_for ReadRawModified
    (λ v.
    elim v [
      | ReadRawModified d ↦ d
      | _ ↦ raw_of (false, (record { 0 = pos 0 }, (record { 0 = pos 0 }, (0, false))))
    ])
    (structure read_raw_modified_details)

-- a type, and what it calls for: 649 a structure that fills the body; the body of another type
-- isn't looked into
unfoldable pub history_read_details : Format BinaryFault HistoryReadDetails
history_read_details =
    headed (λ v. elim v [ ReadRawModified _ ↦ Numeric 0 649 | Other ↦ Numeric 0 0 ]) node_id
    (λ id.
    chosen (is_standard_type 649 id) read_raw_modified_form
    (standing_for (λ _. Other) (λ _. Absent) body))

-- a ByteString of which an empty one is none
unfoldable pub continuation_point : Format BinaryFault (Option (List ℕ))
continuation_point =
    standing_for
    (λ given.
    elim given [ Some [] ↦ None | Some (byte ∷ bytes) ↦ Some (byte ∷ bytes) | None ↦ None ])
    (λ v. v) byte_string

-- node, index range, data encoding, continuation point
abbrev pub HistoryReadFields : Type 0
HistoryReadFields = NodeId × (Option (List ℕ) × (QualifiedName × Option (List ℕ)))

abbrev pub history_read_fields : HistoryReadValueId → HistoryReadFields
history_read_fields v = (
  node_of v.node_id,
  (
    option_copied v.index_range,
    (qualified_of v.data_encoding, option_copied v.continuation_point),
  ),
)

-- a HistoryReadValueId (Part 4, 5.11.3): node, index range, data encoding, point
unfoldable pub history_read_value_id : Format BinaryFault HistoryReadFields
history_read_value_id = node_id ▸ text ▸ qualified ▸ continuation_point

-- what a HistoryRead asks: details, timestamps, whether points are released, and nodes (Part 4,
-- 5.11.3)
abbrev pub HistoryAsked : Type 0
HistoryAsked = HistoryReadDetails × (Option TimestampsToReturn × (Bool × List HistoryReadFields))

abbrev pub history_asked : HistoryReadRequest → HistoryAsked
history_asked r = (
  r.details,
  (r.timestamps, (r.release_continuation_points, map history_read_fields r.nodes.items)),
)

-- details, moments, whether continuation points are released, what is read: of which 101 are kept
unfoldable pub history_read_request : Format BinaryFault HistoryAsked
history_read_request =
    history_read_details ▸ timestamps ▸ boolean ▸ first_items_of 101 (λ e. e) history_read_value_id

-- ---- the response

-- when a value was modified, how, and by whom
abbrev pub InfoFields : Type 0
InfoFields = Ticks × (ℤ × Option (List ℕ))

-- the fields of a ModificationInfo in the order in which they are spelled
abbrev pub info_fields : ModificationInfo → InfoFields
info_fields v = (v.modification_time, (pos (update_number v.update_type), v.user_name))

-- a ModificationInfo (Part 11, 6.5.3): time, type and user
unfoldable pub modification_info : Format BinaryFault InfoFields
modification_info =
    fitting (λ (time, (type, user)). FitsSigned w64 time.0 × FitsSigned w32 type × IsText user)
    (ticks ▸ signed w32 ▸ text)

abbrev pub IsShortInfo : ModificationInfo → Type 0
IsShortInfo v = IsCounted v.user_name

-- values with how each was modified
abbrev pub history_modified_data : Format VariantFault (List DataValue × List InfoFields)
history_modified_data = data_values ▸ raise (many modification_info)

-- what was read: nothing, values, or values with how each was modified
pub data History : Type 0 where
  Nothing : History
  Raw : List DataValue → History
  Modified : List DataValue × List InfoFields → History

-- the history in an answer, with each modification info by its fields
abbrev pub history_of : HistoryData → History
history_of v =
    elim v [
      | owned.Nothing ↦ Nothing
      | owned.Raw values ↦ Raw values
      | owned.Modified values infos ↦ Modified (values, map info_fields infos)
    ]

-- the bytes of the body
abbrev pub history_bytes : History → List ℕ
history_bytes Nothing = []
history_bytes (Raw values) = data_values.canon values
history_bytes (Modified p) = history_modified_data.canon p

-- few enough values with spellings, and few enough bytes
abbrev pub IsHistory : History → Type 0
IsHistory Nothing = Unit {0}
IsHistory (Raw values) = AreFew data_value values × (length (data_values.canon values) < 2 ^ 31)
IsHistory (Modified p) =
    AreFew data_value p.0 × AreFew modification_info p.1
    × (length (history_modified_data.canon p) < 2 ^ 31)

-- HistoryData (Part 11, 6.5.2), as one of the kinds of history
abbrev pub raw_form : Format VariantFault History
raw_form =
    standing_for Raw (λ v. elim v [ Raw values ↦ values | _ ↦ [] ])
    (structure_with_values data_values)

-- HistoryModifiedData (Part 11, 6.5.3), as one of the kinds of history
abbrev pub modified_form : Format VariantFault History
modified_form =
    standing_for Modified (λ v. elim v [ Modified p ↦ p | _ ↦ ([], []) ])
    (structure_with_values history_modified_data)

-- the type id of the structure of a history
abbrev pub history_type : History → NodeId
history_type v =
    elim v [ Nothing ↦ Numeric 0 0 | Raw _ ↦ Numeric 0 658 | Modified _ ↦ Numeric 0 11227 ]

-- an extension object: a type, and what it calls for; of another type, nothing
unfoldable pub history_data : Format VariantFault History
history_data =
    fitting IsHistory (headed history_type (raise node_id) (λ id.
    chosen (is_standard_type 658 id) raw_form (
    chosen (is_standard_type 11227 id) modified_form
    (standing_for (λ _. Nothing) (λ _. Absent) (raise body)))))

abbrev pub IsShortHistory : HistoryData → Type 0
IsShortHistory owned.Nothing = Unit {0}
IsShortHistory (owned.Raw values) =
    AreShortValues values × (length (history_bytes (Raw values)) < 2 ^ 31)
IsShortHistory (owned.Modified values infos) =
    AreShortValues values × (length infos < 2 ^ 31) × All IsShortInfo infos
    × (length (history_bytes (Modified (values, map info_fields infos))) < 2 ^ 31)

-- the status of a read, where it goes on, and what was read
abbrev pub HistoryFields : Type 0
HistoryFields = Status × (Option (List ℕ) × History)

-- the fields of a HistoryReadResult in the order in which they are spelled
abbrev pub history_fields : HistoryReadResult → HistoryFields
history_fields r = (r.status, (r.continuation_point, history_of r.history_data))

-- what has a spelling
abbrev pub IsHistoryRead : HistoryFields → Type 0
IsHistoryRead (status, (point, history)) =
    (status.0 < 2 ^ 32) × IsCounted point × IsHistory history

-- status, continuation point, what was read
unfoldable pub history_read_result : Format VariantFault HistoryFields
history_read_result = fitting IsHistoryRead (raise status ▸ raise byte_string ▸ history_data)

abbrev pub IsShortHistoryRead : HistoryReadResult → Type 0
IsShortHistoryRead r = IsCounted r.continuation_point × IsShortHistory r.history_data

abbrev pub AreShortHistoryReads : List HistoryReadResult → Type 0
AreShortHistoryReads results = (length results < 2 ^ 31) × All IsShortHistoryRead results

abbrev pub AreHistoryReads : List HistoryReadResult → Type 0
AreHistoryReads results = AreFew history_read_result (map history_fields results)

-- the results, diagnostics
unfoldable pub history_read_response : Format VariantFault (List HistoryFields)
history_read_response =
    fitting (AreFew history_read_result) (array variant_fault history_read_result ◃ raise null)
