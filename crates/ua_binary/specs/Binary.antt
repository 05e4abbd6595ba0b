-- The formats of the binary encoding (Part 6, 5.2), one for each built-in type that is spelled.
use Rattle.std.specs.Prelude.{◌≡◌, ℕ, zero, suc, ◌+◌, ◌*◌, ◌<◌, ◌^◌, ℤ, pos, negsuc, List, [], length, Option, Some, None, Bool, true, not, Ok, Err, nat_lt, ◌==◌, if◌then◌else◌, IfSome, unwrap_or, is_some, option_map, ◌&&◌, bit_and}
use Rattle.std.specs.Option.{option_copied, option_flatten, option_map_or}
use Rattle.std.specs.Int.{Width, w8, w16, w32, w64, byte_len, from_le_bytes, to_le_bytes, cast_signed, cast_unsigned}
use Rattle.std.specs.Int.RustNames.{FitsSigned}
use Rattle.std.specs.Str.{is_utf8}
use Rattle.ua_binary.specs.declared.fault.BinaryFault.{BinaryFault}
use Rattle.ua_binary.specs.declared.fault.BinaryFault.TheVariants.{Short, BadLength, BadUtf8, BadEncodingByte}
use Rattle.ua_binary.specs.declared.values.Guid.{Guid}
use Rattle.ua_binary.specs.declared.values.Ticks.{Ticks}
use Rattle.ua_binary.specs.declared.codes.Status.{Status}
use Rattle.ua_binary.specs.declared.values.NodeId.{NodeId}
use Rattle.ua_binary.specs.declared.values.NodeId.TheVariants.{Numeric, Named, Global, Opaque}
use Rattle.ua_binary.specs.declared.values.NodeIdRef.{NodeIdRef}
use Rattle.ua_binary.specs.declared.values.NodeIdRef.TheVariants as lent
use Rattle.ua_binary.specs.declared.values.LocalizedText.{LocalizedText}
use Rattle.ua_binary.specs.declared.values.LocalizedRef.{LocalizedRef}
use Rattle.ua_binary.specs.declared.values.QualifiedName.{QualifiedName}
use Rattle.ua_binary.specs.declared.values.QualifiedRef.{QualifiedRef}
use Rattle.ua_binary.specs.declared.values.Body.{Body}
use Rattle.ua_binary.specs.declared.values.Body.TheVariants.{Absent, Binary, Xml}
use Rattle.ua_binary.specs.declared.values.BodyRef.{BodyRef}
use Rattle.ua_binary.specs.declared.values.BodyRef.TheVariants as held
use Rattle.ua_binary.specs.declared.values.ExtensionObject.{ExtensionObject}
use Rattle.ua_binary.specs.declared.values.ExtensionRef.{ExtensionRef}
use Rattle.ua_binary.specs.Format.{◌>>=◌, Reading, Format, nothing, no_format, byte, block, ◌▸◌, chosen, headed, standing_for, passing, flagged, fitting, raised, items, at_least}

-- ---- numbers (5.2.2.1, 5.2.2.2, 5.2.2.5, 5.2.2.11)

-- an unsigned number: its bytes, the low one first
unfoldable pub unsigned : Width → Format BinaryFault ℕ
unsigned w =
    fitting (λ n. n < 2 ^ (8 * byte_len w))
    (standing_for (from_le_bytes w) (to_le_bytes w) (block (byte_len w)))

-- a signed number: its two's complement, the low byte first
unfoldable pub signed : Width → Format BinaryFault ℤ
signed w =
    fitting (λ z. FitsSigned w z) (standing_for (cast_signed w) (cast_unsigned w) (unsigned w))

-- a signed number of one byte
unfoldable pub sbyte : Format BinaryFault ℤ
sbyte = fitting (λ z. FitsSigned w8 z) (standing_for (cast_signed w8) (cast_unsigned w8) byte)

-- a moment: its steps of 100 ns since 1601
unfoldable pub ticks : Format BinaryFault Ticks
ticks =
    fitting (λ t. FitsSigned w64 t.0) (standing_for (λ z. record { 0 = z }) (λ t. t.0) (signed w64))

-- a status code: its 32 bits
unfoldable pub status : Format BinaryFault Status
status =
    fitting (λ c. c.0 < 2 ^ 32) (standing_for (λ n. record { 0 = n }) (λ c. c.0) (unsigned w32))

-- one byte: 0 is false, another true; 1 is written
unfoldable pub boolean : Format BinaryFault Bool
boolean = fitting (λ _. Unit {0}) (standing_for (λ b. not (b == 0)) (λ v. if v then 1 else 0) byte)

-- ---- bytes and texts (5.2.2.4, 5.2.2.7)

-- few enough to be counted
abbrev pub IsCounted : Option (List ℕ) → Type 0
IsCounted v = IfSome v (λ bytes. length bytes < 2 ^ 31)

-- a count of 32 bits, and as many bytes; -1 is null, and below -1 it is no count
unfoldable pub byte_string : Format BinaryFault (Option (List ℕ))
byte_string =
    fitting IsCounted
    (headed (λ given. elim given [ None ↦ negsuc 0 | Some bytes ↦ pos (length bytes) ]) (signed w32)
    (λ count.
    elim count [
      | pos n ↦ flagged true (block n)
      | negsuc zero ↦ nothing None
      | negsuc (suc n) ↦ no_format BadLength
    ]))

-- few enough bytes to be counted, and UTF-8
abbrev pub IsText : Option (List ℕ) → Type 0
IsText v = IfSome v (λ t. (length t < 2 ^ 31) × (is_utf8 t ≡ true))

-- a byte string of UTF-8
unfoldable pub text : Format BinaryFault (Option (List ℕ))
text = fitting IsText (passing (λ given. option_map_or is_utf8 given true) BadUtf8 byte_string)

-- ---- Guid (5.2.2.6)

-- a Guid of its four parts (Part 6, 5.2.2.6)
abbrev pub guid_of : ℕ × (ℕ × (ℕ × List ℕ)) → Guid
guid_of (first, (second, (third, last))) =
    record { first = first; second = second; third = third; last = last }

-- each part has its size
abbrev pub IsGuid : Guid → Type 0
IsGuid g = (g.first < 2 ^ 32) × (g.second < 2 ^ 16) × (g.third < 2 ^ 16) × (length g.last ≡ 8)

-- a UInt32, two UInt16 and eight bytes
unfoldable pub guid : Format BinaryFault Guid
guid =
    fitting IsGuid
    (standing_for guid_of (λ g. (g.first, (g.second, (g.third, g.last))))
    (unsigned w32 ▸ unsigned w16 ▸ unsigned w16 ▸ block 8))

-- ---- node ids (5.2.2.9)

-- a borrowed node id as one that owns its bytes
abbrev pub node_of : NodeIdRef → NodeId
node_of (lent.Numeric ns id) = Numeric ns id
node_of (lent.Named ns name) = Named ns name.now
node_of (lent.Global ns id) = Global ns id
node_of (lent.Opaque ns id) = Opaque ns id.now

-- the namespace and the id of a numeric node; any other has no number
abbrev pub numeric_parts : NodeId → ℕ × ℕ
numeric_parts v = elim v [ Numeric ns id ↦ (ns, id) | _ ↦ (0, 0) ]

-- a Byte as the id, in namespace 0
abbrev pub two_byte_node : Format BinaryFault NodeId
two_byte_node = standing_for (λ id. Numeric 0 id) (λ v. (numeric_parts v).1) byte

-- a Byte and a UInt16 as the namespace and the id
abbrev pub four_byte_node : Format BinaryFault NodeId
four_byte_node = standing_for (λ p. Numeric p.0 p.1) numeric_parts (byte ▸ unsigned w16)

-- a UInt16 and a UInt32 as the namespace and the id
abbrev pub numeric_node : Format BinaryFault NodeId
numeric_node = standing_for (λ p. Numeric p.0 p.1) numeric_parts (unsigned w16 ▸ unsigned w32)

-- a UInt16 as the namespace and a String as the id, of which a null one is empty
abbrev pub string_node : Format BinaryFault NodeId
string_node =
    standing_for (λ p. Named p.0 (unwrap_or p.1 []))
    (λ v. elim v [ Named ns name ↦ (ns, Some name) | _ ↦ (0, None) ]) (unsigned w16 ▸ text)

-- a UInt16 as the namespace and a Guid as the id
abbrev pub guid_node : Format BinaryFault NodeId
guid_node =
    standing_for (λ p. Global p.0 p.1)
    (λ v. elim v [ Global ns id ↦ (ns, id) | _ ↦ (0, guid_of (0, (0, (0, [])))) ])
    (unsigned w16 ▸ guid)

-- a UInt16 as the namespace and a ByteString as the id, of which a null one is empty
abbrev pub opaque_node : Format BinaryFault NodeId
opaque_node =
    standing_for (λ p. Opaque p.0 (unwrap_or p.1 []))
    (λ v. elim v [ Opaque ns id ↦ (ns, Some id) | _ ↦ (0, None) ]) (unsigned w16 ▸ byte_string)

-- the form that the first byte tells (Part 6, 5.2.2.9)
abbrev pub node_form : ℕ → Format BinaryFault NodeId
node_form form =
    chosen (form == 0) two_byte_node (
    chosen (form == 1) four_byte_node (
    chosen (form == 2) numeric_node (
    chosen (form == 3) string_node (
    chosen (form == 4) guid_node (
    chosen (form == 5) opaque_node (no_format BadEncodingByte))))))

-- the first byte that is written: of the shortest form
abbrev pub node_form_of : NodeId → ℕ
node_form_of v =
    elim v [
      | Numeric ns id ↦ if ns == 0 && nat_lt id 256 then 0 else if nat_lt ns 256 && nat_lt id 65536
          then 1 else 2
      | Named ns name ↦ 3
      | Global ns id ↦ 4
      | Opaque ns id ↦ 5
    ]

-- the numbers are those of their types, and the bytes few enough to be counted
abbrev pub IsNodeId : NodeId → Type 0
IsNodeId (Numeric ns id) = (ns < 2 ^ 16) × (id < 2 ^ 32)
IsNodeId (Named ns name) = (ns < 2 ^ 16) × (length name < 2 ^ 31) × (is_utf8 name ≡ true)
IsNodeId (Global ns id) = (ns < 2 ^ 16) × IsGuid id
IsNodeId (Opaque ns id) = (ns < 2 ^ 16) × (length id < 2 ^ 31)

-- a first byte, and the form that it tells; numeric ids of any form are one node
unfoldable pub node_id : Format BinaryFault NodeId
node_id = fitting IsNodeId (headed node_form_of byte node_form)

-- ---- localized texts (5.2.2.14)

-- a borrowed text as one that owns its bytes
abbrev pub localized_of : LocalizedRef → LocalizedText
localized_of r = record { locale = option_copied r.locale; text = option_copied r.text }

-- the localized text has a spelling
abbrev pub IsLocalized : LocalizedText → Type 0
IsLocalized v = IsText v.locale × IsText v.text

-- the mask of a localized text: 1 for a locale and 2 for a text
abbrev pub localized_mask : LocalizedText → ℕ
localized_mask v = (if is_some v.locale then 1 else 0) + (if is_some v.text then 2 else 0)

-- what a mask names, the locale first; a null one is absent
abbrev pub localized_parts : ℕ → Format BinaryFault LocalizedText
localized_parts mask =
    standing_for
    (λ (locale, text). record { locale = option_flatten locale; text = option_flatten text })
    (λ v. (option_map Some v.locale, option_map Some v.text))
    (flagged (not (bit_and mask 1 == 0)) text ▸ flagged (not (bit_and mask 2 == 0)) text)

-- a mask, and what it names; another bit has no meaning (Part 6, 5.2.2.14)
unfoldable pub localized : Format BinaryFault LocalizedText
localized =
    fitting IsLocalized (headed localized_mask byte (λ mask.
    chosen (nat_lt 3 mask) (no_format BadEncodingByte) (localized_parts mask)))

-- ---- qualified names (5.2.2.13)

-- a borrowed name as one that owns its bytes
abbrev pub qualified_of : QualifiedRef → QualifiedName
qualified_of r = record { namespace = r.namespace; name = option_copied r.name }

-- the qualified name has a spelling
abbrev pub IsQualified : QualifiedName → Type 0
IsQualified v = (v.namespace < 2 ^ 16) × IsText v.name

-- a UInt16 and a String
unfoldable pub qualified : Format BinaryFault QualifiedName
qualified =
    fitting IsQualified
    (standing_for (λ p. record { namespace = p.0; name = p.1 }) (λ v. (v.namespace, v.name))
    (unsigned w16 ▸ text))

-- ---- extension objects (5.2.2.15)

-- a borrowed body as one that owns its bytes
abbrev pub body_of : BodyRef → Body
body_of held.Absent = Absent
body_of (held.Binary b) = Binary b.now
body_of (held.Xml b) = Xml b.now

-- a borrowed structure as one that owns its bytes
abbrev pub extension_of : ExtensionRef → ExtensionObject
extension_of r = record { type_id = node_of r.type_id; body = body_of r.body }

-- the body has a spelling
abbrev pub IsBody : Body → Type 0
IsBody body =
    elim body [ Absent ↦ Unit {0} | Binary b ↦ length b < 2 ^ 31 | Xml b ↦ length b < 2 ^ 31 ]

-- a body in the binary encoding; a null one is empty
abbrev pub bytes_body : Format BinaryFault Body
bytes_body =
    standing_for (λ b. Binary (unwrap_or b [])) (λ v. elim v [ Binary b ↦ Some b | _ ↦ None ])
    byte_string

-- a body of XML; a null one is empty
abbrev pub xml_body : Format BinaryFault Body
xml_body =
    standing_for (λ b. Xml (unwrap_or b [])) (λ v. elim v [ Xml b ↦ Some b | _ ↦ None ])
    byte_string

-- a kind, and the body that it calls for: none, one in the binary encoding, or one of XML
abbrev pub body : Format BinaryFault Body
body = fitting IsBody (headed (λ v. elim v [ Absent ↦ 0 | Binary b ↦ 1 | Xml b ↦ 2 ]) byte (λ kind.
    chosen (kind == 0) (nothing Absent) (
    chosen (kind == 1) bytes_body (
    chosen (kind == 2) xml_body (
    no_format BadEncodingByte)))))

-- the extension object has a spelling
abbrev pub IsExtension : ExtensionObject → Type 0
IsExtension v = IsNodeId v.type_id × IsBody v.body

-- the id of a type, and a body
unfoldable pub extension : Format BinaryFault ExtensionObject
extension =
    fitting IsExtension
    (standing_for (λ p. record { type_id = p.0; body = p.1 }) (λ v. (v.type_id, v.body))
    (node_id ▸ body))

-- ---- arrays (5.2.5)

-- the count that a number tells: 0 for -1, and at most as many as there are bytes left
abbrev pub counted_number : ℤ → List ℕ → Reading BinaryFault ℕ
counted_number v rest =
    elim v [
      | pos n ↦ if nat_lt (length rest) n then Err Short else Ok (n, rest)
      | negsuc zero ↦ Ok (0, rest)
      | negsuc (suc n) ↦ Err BadLength
    ]

-- the count of an array: a number of 32 bits, and what it tells
unfoldable pub count_at : List ℕ → Reading BinaryFault ℕ
count_at bytes = (signed w32).read bytes >>= λ n. counted_number n.0 n.1

-- a number of 32 bits, and as many items, none for -1; told says how a fault of the encoding is
-- told
unfoldable pub array : {E A : Type 0} → (BinaryFault → E) → Format E A → Format E (List A)
array told f =
    headed (λ vs. pos (length vs)) (raised told (signed w32))
    (λ count.
    elim count [
      | pos n ↦ at_least n (told Short) (items n f)
      | negsuc zero ↦ nothing []
      | negsuc (suc n) ↦ no_format (told BadLength)
    ])

-- ---- what a writer asks

-- each text and byte string has few enough bytes to be counted
abbrev pub IsShortNode : NodeId → Type 0
IsShortNode v =
    elim v [
      | Numeric ns id ↦ Unit {0}
      | Named ns name ↦ length name < 2 ^ 31
      | Global ns id ↦ Unit {0}
      | Opaque ns id ↦ length id < 2 ^ 31
    ]

-- its locale and its text can be counted in 31 bits
abbrev pub IsShortLocalized : LocalizedText → Type 0
IsShortLocalized v = IsCounted v.locale × IsCounted v.text
