-- What a Read asks and answers (Part 4, 5.11.2).
use Rattle.std.specs.Prelude.{◌<◌, ◌^◌, ℕ, ℤ, pos, List, length, map, replicate, All, Option, Some, None, if◌then◌else◌}
use Rattle.std.specs.Option.{option_copied}
use Rattle.std.specs.Ordering.{int_eq}
use Rattle.std.specs.Int.{w32}
use Rattle.ua_binary.specs.declared.fault.BinaryFault.{BinaryFault}
use Rattle.ua_binary.specs.declared.values.NodeId.{NodeId}
use Rattle.ua_binary.specs.declared.values.QualifiedName.{QualifiedName}
use Rattle.ua_binary.specs.Format.{Format, block, ◌▸◌, standing_for, fitting}
use Rattle.ua_binary.specs.Binary.{unsigned, signed, text, node_id, node_of, qualified, qualified_of, array}
use Rattle.ua_variant.specs.declared.fault.VariantFault.{VariantFault}
use Rattle.ua_variant.specs.declared.data.DataValue.{DataValue}
use Rattle.ua_variant.specs.Raise.{variant_fault}
use Rattle.ua_variant.specs.Variant.{raise}
use Rattle.ua_variant.specs.DataValue.{data_value, IsShortData}
use Rattle.ua_services.specs.Unkept.{unkept, ◌▹◌, ◌◃◌, AreFew, first_items_of, null}
use Rattle.ua_services.specs.declared.attributes.TimestampsToReturn.{TimestampsToReturn}
use Rattle.ua_services.specs.declared.attributes.TimestampsToReturn.TheVariants.{Source, Server, Both, Neither}
use Rattle.ua_services.specs.declared.attributes.ReadValueId.{ReadValueId}
use Rattle.ua_services.specs.declared.attributes.ReadRequest.{ReadRequest}

-- ---- the request

-- which moments a client wants; another number says none of these
abbrev pub timestamps_of : ℤ → Option TimestampsToReturn
timestamps_of n =
    if int_eq n (pos 0) then Some Source else if int_eq n (pos 1) then Some Server
    else if int_eq n (pos 2) then Some Both else if int_eq n (pos 3) then Some Neither else None

-- a TimestampsToReturn (Part 4, 7.40) by its number
unfoldable pub timestamps : Format BinaryFault (Option TimestampsToReturn)
timestamps =
    standing_for timestamps_of
    (λ given.
    elim given [
      | Some Source ↦ pos 0
      | Some Server ↦ pos 1
      | Some Both ↦ pos 2
      | Some Neither ↦ pos 3
      | None ↦ pos 4
    ]) (signed w32)

-- node, attribute, index range, data encoding
abbrev pub ReadFields : Type 0
ReadFields = NodeId × (ℕ × (Option (List ℕ) × QualifiedName))

abbrev pub read_fields : ReadValueId → ReadFields
read_fields v = (
  node_of v.node_id,
  (v.attribute_id, (option_copied v.index_range, qualified_of v.data_encoding)),
)

-- a ReadValueId (Part 4, 7.29): node, attribute, index range, data encoding
unfoldable pub read_value_id : Format BinaryFault ReadFields
read_value_id = node_id ▸ unsigned w32 ▸ text ▸ qualified

-- what a Read asks: the timestamps, and the attributes of nodes (Part 4, 5.11.2)
abbrev pub ReadAsked : Type 0
ReadAsked = Option TimestampsToReturn × List ReadFields

abbrev pub read_asked : ReadRequest → ReadAsked
read_asked r = (r.timestamps, map read_fields r.nodes.items)

-- the eight bytes of the Double 0 greatest age, moments, what is read: of which 1,001 are kept
unfoldable pub read_request : Format BinaryFault ReadAsked
read_request =
    unkept (replicate 8 0) (block 8) ▹ timestamps ▸ first_items_of 1001 (λ e. e) read_value_id

-- ---- the response

-- an array of data values
abbrev pub data_values : Format VariantFault (List DataValue)
data_values = array variant_fault data_value

-- few enough, each of which may be written
abbrev pub AreShortValues : List DataValue → Type 0
AreShortValues values = (length values < 2 ^ 31) × All IsShortData values

-- the values, diagnostics
unfoldable pub read_response : Format VariantFault (List DataValue)
read_response = fitting (AreFew data_value) (data_values ◃ raise null)
