-- Names for parts of the definitions in specs/Binary, for the lemmas on these parts.
use Rattle.std.specs.Prelude.{ℕ, zero, suc, ◌+◌, ℤ, pos, negsuc, List, [], length, Option, Some, None, Bool, true, not, nat_lt, ◌==◌, if◌then◌else◌, unwrap_or, is_some, option_map, bit_and}
use Rattle.std.specs.Option.{option_flatten, option_map_or}
use Rattle.std.specs.Int.{w16, w32}
use Rattle.std.specs.Str.{is_utf8}
use Rattle.ua_binary.specs.declared.fault.BinaryFault.{BinaryFault}
use Rattle.ua_binary.specs.declared.fault.BinaryFault.TheVariants.{Short, BadLength, BadEncodingByte}
use Rattle.ua_binary.specs.declared.values.NodeId.{NodeId}
use Rattle.ua_binary.specs.declared.values.NodeId.TheVariants.{Numeric, Named, Global, Opaque}
use Rattle.ua_binary.specs.declared.values.LocalizedText.{LocalizedText}
use Rattle.ua_binary.specs.declared.values.Body.{Body}
use Rattle.ua_binary.specs.declared.values.Body.TheVariants.{Absent, Binary, Xml}
use Rattle.ua_binary.specs.Format.{Format, nothing, no_format, byte, block, ◌▸◌, chosen, standing_for, flagged, items, at_least}
use Rattle.ua_binary.specs.Binary.{unsigned, byte_string, text, guid, guid_of, numeric_parts}

-- the bytes, where there are any, are UTF-8
abbrev pub is_text : Option (List ℕ) → Bool
is_text given = option_map_or is_utf8 given true

-- the namespace and the id of a node whose id is a text; another has none
abbrev pub named_parts : NodeId → ℕ × Option (List ℕ)
named_parts v = elim v [ Named ns name ↦ (ns, Some name) | _ ↦ (0, None) ]

-- the same of one whose id is bytes
abbrev pub opaque_parts : NodeId → ℕ × Option (List ℕ)
opaque_parts v = elim v [ Opaque ns id ↦ (ns, Some id) | _ ↦ (0, None) ]

-- the forms of node ids: of namespace 0 in two bytes, in four bytes, of any numbers, and with a
-- Guid
abbrev pub two_byte_node : Format BinaryFault NodeId
two_byte_node = standing_for (λ id. Numeric 0 id) (λ v. (numeric_parts v).1) byte

abbrev pub four_byte_node : Format BinaryFault NodeId
four_byte_node = standing_for (λ p. Numeric p.0 p.1) numeric_parts (byte ▸ unsigned w16)

abbrev pub numeric_node : Format BinaryFault NodeId
numeric_node = standing_for (λ p. Numeric p.0 p.1) numeric_parts (unsigned w16 ▸ unsigned w32)

abbrev pub global_node : Format BinaryFault NodeId
global_node = standing_for (λ p. Global p.0 p.1) (λ v.
    elim v [ Global ns id ↦ (ns, id) | _ ↦ (0, guid_of (0, (0, (0, [])))) ]) (unsigned w16 ▸ guid)

-- 1 for a locale and 2 for a text
abbrev pub localized_mask : LocalizedText → ℕ
localized_mask v = (if is_some v.locale then 1 else 0) + (if is_some v.text then 2 else 0)

-- what follows a count: as many bytes; nothing after -1, which is null; below -1 it is no count
abbrev pub counted : ℤ → Format BinaryFault (Option (List ℕ))
counted v = elim v [
  | pos n ↦ flagged true (block n)
  | negsuc zero ↦ nothing None
  | negsuc (suc n) ↦
      no_format BadLength
]

-- the count that is written
abbrev pub count_of : Option (List ℕ) → ℤ
count_of given = elim given [ None ↦ negsuc 0 | Some bytes ↦ pos (length bytes) ]

-- as many items as a number tells; told says how a fault of the encoding is told
abbrev pub counted_items : {E A : Type 0} → (BinaryFault → E) → Format E A → ℤ → Format E (List A)
counted_items told f v = elim v [
  | pos n ↦ at_least n (told Short) (items n f)
  | negsuc zero ↦
      nothing []
  | negsuc (suc n) ↦ no_format (told BadLength)
]

-- the kind that is written
abbrev pub body_kind : Body → ℕ
body_kind body = elim body [ Absent ↦ 0 | Binary b ↦ 1 | Xml b ↦ 2 ]

-- those that the mask names, the locale first; a null one is absent; another bit has no meaning
abbrev pub localized_fields : ℕ → Format BinaryFault LocalizedText
localized_fields mask =
    chosen (nat_lt 3 mask) (no_format BadEncodingByte) (
    standing_for (λ p. record { locale = option_flatten p.0; text = option_flatten p.1 })
    (λ v. (option_map Some v.locale, option_map Some v.text))
    (flagged (not (bit_and mask 1 == 0)) text ▸ flagged (not (bit_and mask 2 == 0)) text))

-- what the kind of a body calls for: a ByteString in the binary encoding, or the bytes of an XML
-- text; a null one is empty
abbrev pub body_form : ℕ → Format BinaryFault Body
body_form kind =
    chosen (kind == 0) (nothing Absent) (
    chosen (kind == 1) (standing_for (λ b. Binary (unwrap_or b []))
    (λ v. elim v [ Binary b ↦ Some b | _ ↦ None ]) byte_string) (
    chosen (kind == 2) (standing_for (λ b. Xml (unwrap_or b []))
    (λ v. elim v [ Xml b ↦ Some b | _ ↦ None ]) byte_string) (
    no_format BadEncodingByte)))
