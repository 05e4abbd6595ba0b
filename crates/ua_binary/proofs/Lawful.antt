-- Each format of the binary encoding is lawful.
use Rattle.std.proofs.Common.{◌≡◌, ℕ, zero, suc, ◌*◌, ◌<◌, ◌^◌, ℤ, pos, negsuc, Bool, true, false, cond, ltb, List, [], length, Option, Some, None, Ok, Err, refl, sym, ap, arith, not, ◌&&◌, ◌==◌, inl, inr}
use Rattle.std.proofs.lemmas.Bool.{cases_Bool, eqb-true, ltb-true}
use Rattle.std.specs.Int.{Width, w8, w16, w32, w64, byte_len, from_le_bytes, to_le_bytes, cast_unsigned}
use Rattle.std.specs.Int.RustNames.{FitsSigned}
use Rattle.std.proofs.lemmas.Int.{to_z-of_z, ints}
use Rattle.std.proofs.lemmas.Nat.{from_le_bytes-to_le_bytes_2, from_le_bytes-to_le_bytes_4, from_le_bytes-to_le_bytes_8}
use Rattle.ua_binary.specs.declared.fault.BinaryFault.{BinaryFault}
use Rattle.ua_binary.specs.declared.fault.BinaryFault.TheVariants.{Short, BadLength, BadUtf8, BadEncodingByte}
use Rattle.ua_binary.specs.declared.values.NodeId.{NodeId}
use Rattle.ua_binary.specs.declared.values.NodeId.TheVariants.{Numeric, Named, Global, Opaque}
use Rattle.ua_binary.specs.declared.values.Body.{Body}
use Rattle.ua_binary.specs.declared.values.Body.TheVariants.{Absent, Binary, Xml}
use Rattle.ua_binary.specs.declared.values.LocalizedText.{LocalizedText}
use Rattle.ua_binary.specs.Format.{◌>>=◌, Reading, Format, IsLawful, byte, block, passing, with_fault, items_at}
use Rattle.ua_binary.specs.Binary.{unsigned, signed, sbyte, ticks, status, boolean, IsCounted, byte_string, text, IsText, guid, guid_of, IsGuid, node_form, node_form_of, IsNodeId, node_id, localized, IsLocalized, counted_number, count_at, array, qualified, IsQualified, IsExtension, IsBody, body, extension}
use Rattle.ua_binary.proofs.BinaryParts.{is_text, body_form, localized_fields, body_kind, counted_items, count_of, counted, localized_mask}
use Rattle.ua_binary.proofs.Elements.{IsItemLawful, item}
use Rattle.ua_binary.proofs.Combined.{nothing_lawful, refused_lawful, byte_lawful, block_lawful, then_lawful, chosen_lawful, headed_lawful, standing_lawful, passing_lawful, flagged_lawful, fitting_lawful, raised_lawful, IsNonEmpty, counted_items_lawful}

-- numbers: what is written is read again
pub record IsWide (w : Width) : Type 0 where
  pub len : (n : ℕ) → length (to_le_bytes w n) ≡ byte_len w
  pub again : (n : ℕ) → n < 2 ^ (8 * byte_len w) → from_le_bytes w (to_le_bytes w n) ≡ n
  pub below : (z : ℤ) → FitsSigned w z → cast_unsigned w z < 2 ^ (8 * byte_len w)

pub wide16 : IsWide w16
wide16 = record {
  len = λ n. refl;
  again = λ n lt. from_le_bytes-to_le_bytes_2 n lt;
  below =
      λ z fits. omega (arith, ints);
}

pub wide32 : IsWide w32
wide32 = record {
  len = λ n. refl;
  again = λ n lt. from_le_bytes-to_le_bytes_4 n lt;
  below =
      λ z fits. omega (arith, ints);
}

pub wide64 : IsWide w64
wide64 = record {
  len = λ n. refl;
  again = λ n lt. from_le_bytes-to_le_bytes_8 n lt;
  below =
      λ z fits. omega (arith, ints);
}

pub unsigned_lawful : (w : Width) → IsWide w → IsLawful (unsigned w)
unfolding unsigned
unsigned_lawful w wide = fitting_lawful _ (λ n lt. (wide.len n, sym (wide.again n lt)))
    (standing_lawful _ _ (block_lawful (byte_len w)))

pub signed_lawful : (w : Width) → IsWide w → IsLawful (signed w)
unfolding signed unsigned
signed_lawful w wide = fitting_lawful _ (λ z fits. (wide.below z fits, sym (to_z-of_z w z fits)))
    (standing_lawful _ _ (unsigned_lawful w wide))

pub ticks_lawful : IsLawful ticks
unfolding ticks signed
ticks_lawful = fitting_lawful _ (λ v fits. (fits, refl))
    (standing_lawful _ _ (signed_lawful w64 wide64))

pub status_lawful : IsLawful status
unfolding status unsigned
status_lawful = fitting_lawful _ (λ v fits. (fits, refl))
    (standing_lawful _ _ (unsigned_lawful w32 wide32))

pub sbyte_lawful : IsLawful sbyte
unfolding sbyte
sbyte_lawful = fitting_lawful _ (λ z fits. (omega (arith, ints), sym (to_z-of_z w8 z fits)))
    (standing_lawful _ _ byte_lawful)

boolean_again : (b : Bool) → (cond b 1 0 < 2 ^ 8) × (b ≡ not (cond b 1 0 == 0))
boolean_again true = (omega arith, refl)
boolean_again false = (omega arith, refl)

pub boolean_lawful : IsLawful boolean
unfolding boolean
boolean_lawful = fitting_lawful _ (λ b _. boolean_again b) (standing_lawful _ _ byte_lawful)

-- ---- bytes and texts

counted_lawful : (n : ℤ) → IsLawful (counted n)
counted_lawful (pos n) = flagged_lawful true (block_lawful n)
counted_lawful (negsuc zero) = nothing_lawful None
counted_lawful (negsuc (suc n)) = refused_lawful BadLength

counted_fits : (v : Option (List ℕ)) → IsCounted v
    → FitsSigned w32 (count_of v) × (counted (count_of v)).Fits v
counted_fits None h = (omega arith, refl)
counted_fits (Some bytes) h = (omega arith, refl)

pub byte_string_lawful : IsLawful byte_string
unfolding byte_string signed
byte_string_lawful = fitting_lawful _ counted_fits
    (headed_lawful count_of counted (signed_lawful w32 wide32) counted_lawful)

text_fits : (v : Option (List ℕ)) → IsText v → (passing is_text BadUtf8 byte_string).Fits v
unfolding byte_string
text_fits None h = (h, refl)
text_fits (Some bytes) h = h

pub text_lawful : IsLawful text
unfolding text
text_lawful = fitting_lawful IsText text_fits (passing_lawful is_text BadUtf8 byte_string_lawful)

pub guid_lawful : IsLawful guid
unfolding guid unsigned
guid_lawful = fitting_lawful IsGuid (λ v h. ((h.0, (h.1, (h.2, h.3))), refl))
    (standing_lawful guid_of _ (then_lawful (unsigned_lawful w32 wide32)
    (then_lawful (unsigned_lawful w16 wide16) (then_lawful (unsigned_lawful w16 wide16)
    (block_lawful 8)))))

-- ---- node ids

node_form_lawful : (form : ℕ) → IsLawful (node_form form)
node_form_lawful form =
    chosen_lawful (form == 0) (standing_lawful _ _ byte_lawful) (
    chosen_lawful (form == 1) (standing_lawful _ _
    (then_lawful byte_lawful (unsigned_lawful w16 wide16))) (
    chosen_lawful (form == 2) (standing_lawful _ _
    (then_lawful (unsigned_lawful w16 wide16) (unsigned_lawful w32 wide32))) (
    chosen_lawful (form == 3) (standing_lawful _ _
    (then_lawful (unsigned_lawful w16 wide16) text_lawful)) (
    chosen_lawful (form == 4) (standing_lawful _ _
    (then_lawful (unsigned_lawful w16 wide16) guid_lawful)) (
    chosen_lawful (form == 5) (standing_lawful _ _
    (then_lawful (unsigned_lawful w16 wide16) byte_string_lawful))
    (refused_lawful BadEncodingByte))))))

-- the form that two tests choose
abbrev NumericFits : ℕ → ℕ → ℕ → Type 0
NumericFits ns id form = (form < 2 ^ 8) × (node_form form).Fits (Numeric ns id)

both_hold : (a b : Bool) → (a && b) ≡ true → (a ≡ true) × (b ≡ true)
both_hold true b e = (refl, e)
both_hold false b e = absurd cc

numeric_fits : (ns id : ℕ) → ns < 2 ^ 16 → id < 2 ^ 32
    → NumericFits ns id (node_form_of (Numeric ns id))
unfolding unsigned
numeric_fits ns id p q = elim (cases_Bool (ns == 0 && ltb id 256)) [
  | inl t ↦
      let h = both_hold (ns == 0) (ltb id 256) t in
      let none : ns ≡ 0 = eqb-true ns 0 h.0 in
      rw t (omega arith, (ltb-true id 256 h.1, ap (λ n. Numeric n id) none))
  | inr f ↦ elim (cases_Bool (ltb ns 256 && ltb id 65536)) [
    | inl t ↦
        let h = both_hold (ltb ns 256) (ltb id 65536) t in
        rw (f, t) (omega arith, ((ltb-true ns 256 h.0, ltb-true id 65536 h.1), refl))
    | inr g ↦ rw (f, g) (omega arith, ((p, q), refl))
  ]
]

node_fits : (v : NodeId) → IsNodeId v
    → (node_form_of v < 2 ^ 8) × (node_form (node_form_of v)).Fits v
unfolding unsigned text byte_string guid
node_fits (Numeric ns id) h = numeric_fits ns id h.0 h.1
node_fits (Named ns name) h = (omega arith, ((h.0, (h.1, h.2)), refl))
node_fits (Global ns id) h = (omega arith, ((h.0, h.1), refl))
node_fits (Opaque ns id) h = (omega arith, ((h.0, h.1), refl))

pub node_id_lawful : IsLawful node_id
unfolding node_id
node_id_lawful = fitting_lawful IsNodeId node_fits
    (headed_lawful node_form_of node_form byte_lawful node_form_lawful)

-- ---- structures

localized_fields_lawful : (mask : ℕ) → IsLawful (localized_fields mask)
localized_fields_lawful mask = chosen_lawful (ltb 3 mask) (refused_lawful BadEncodingByte)
    (standing_lawful _ _ (then_lawful (flagged_lawful _ text_lawful)
    (flagged_lawful _ text_lawful)))

localized_fits : (l t : Option (List ℕ)) → IsText l → IsText t → let v : LocalizedText =
    record { locale = l; text = t } in
    (localized_mask v < 2 ^ 8) × (localized_fields (localized_mask v)).Fits v
unfolding text byte_string
localized_fits None None h k = (omega arith, ((refl, refl), refl))
localized_fits None (Some t) h k = (omega arith, ((refl, k), refl))
localized_fits (Some l) None h k = (omega arith, ((h, refl), refl))
localized_fits (Some l) (Some t) h k = (omega arith, ((h, k), refl))

pub localized_lawful : IsLawful localized
unfolding localized
localized_lawful = fitting_lawful IsLocalized (λ v h. localized_fits v.locale v.text h.0 h.1)
    (headed_lawful localized_mask localized_fields byte_lawful localized_fields_lawful)

pub qualified_lawful : IsLawful qualified
unfolding qualified unsigned text
qualified_lawful = fitting_lawful IsQualified (λ v h. (h, refl))
    (standing_lawful _ _ (then_lawful (unsigned_lawful w16 wide16) text_lawful))

body_form_lawful : (kind : ℕ) → IsLawful (body_form kind)
body_form_lawful kind =
    chosen_lawful (kind == 0) (nothing_lawful Absent) (
    chosen_lawful (kind == 1) (standing_lawful _ _ byte_string_lawful) (
    chosen_lawful (kind == 2) (standing_lawful _ _ byte_string_lawful)
    (refused_lawful BadEncodingByte)))

body_fits : (v : Body) → IsBody v → (body_kind v < 2 ^ 8) × (body_form (body_kind v)).Fits v
unfolding byte_string
body_fits Absent h = (omega arith, refl)
body_fits (Binary b) h = (omega arith, (h, refl))
body_fits (Xml b) h = (omega arith, (h, refl))

pub body_lawful : IsLawful body
body_lawful = fitting_lawful IsBody body_fits
    (headed_lawful body_kind body_form byte_lawful body_form_lawful)

pub extension_lawful : IsLawful extension
unfolding extension node_id
extension_lawful = fitting_lawful IsExtension (λ v h. (h, refl))
    (standing_lawful _ _ (then_lawful node_id_lawful body_lawful))

counted_items_are_lawful : {E A : Type 0} (told : BinaryFault → E) (f : Format E A) → IsNonEmpty f
    → IsLawful f → (n : ℤ) → IsLawful (counted_items told f n)
counted_items_are_lawful told f some p (pos n) = counted_items_lawful n (told Short) some p
counted_items_are_lawful told f some p (negsuc zero) = nothing_lawful []
counted_items_are_lawful told f some p (negsuc (suc n)) = refused_lawful (told BadLength)

array_of_test : {E A : Type 0} (told : BinaryFault → E) (f : Format E A) (b : Bool) (n : ℕ)
    (rest : List ℕ) → cond b (Err (told Short)) (items_at f.read n rest)
    ≡ (let r : Reading BinaryFault ℕ = cond b (Err Short) (Ok (n, rest)) in
    with_fault told r >>= λ n. items_at f.read n.0 n.1)
array_of_test told f true n rest = refl
array_of_test told f false n rest = refl

array_of_number : {E A : Type 0} (told : BinaryFault → E) (f : Format E A) (n : ℤ) (rest : List ℕ)
    → (counted_items told f n).read rest
    ≡ (with_fault told (counted_number n rest) >>= λ n. items_at f.read n.0 n.1)
array_of_number told f (pos n) rest = array_of_test told f (ltb (length rest) n) n rest
array_of_number told f (negsuc zero) rest = refl
array_of_number told f (negsuc (suc n)) rest = refl

array_is_read : {E A : Type 0} (told : BinaryFault → E) (f : Format E A) (r : Reading BinaryFault ℤ)
    → (with_fault told r >>= λ n. (counted_items told f n.0).read n.1)
    ≡ (with_fault told (r >>= λ n. counted_number n.0 n.1) >>= λ n. items_at f.read n.0 n.1)
array_is_read told f (Err e) = refl
array_is_read told f (Ok n) = array_of_number told f n.0 n.1

-- an array is read by its count first and then by its items
pub array_read : {E A : Type 0} (told : BinaryFault → E) (f : Format E A) (bytes : List ℕ)
    → (array told f).read bytes ≡ (with_fault told (count_at bytes) >>= λ n.
    items_at f.read n.0 n.1)
unfolding array count_at
array_read told f bytes = array_is_read told f ((signed w32).read bytes)

pub array_lawful : {E A : Type 0} (told : BinaryFault → E) {f : Format E A} → IsNonEmpty f
    → IsLawful f → IsLawful (array told f)
unfolding array
array_lawful told {f} some p = headed_lawful _ (counted_items told f)
    (raised_lawful told (signed_lawful w32 wide32)) (counted_items_are_lawful told f some p)

pub u16_lawful : IsLawful (unsigned w16)
u16_lawful = unsigned_lawful w16 wide16

pub i16_lawful : IsLawful (signed w16)
i16_lawful = signed_lawful w16 wide16

pub u64_lawful : IsLawful (unsigned w64)
u64_lawful = unsigned_lawful w64 wide64

pub i64_lawful : IsLawful (signed w64)
i64_lawful = signed_lawful w64 wide64

pub u32_lawful : IsLawful (unsigned w32)
u32_lawful = unsigned_lawful w32 wide32

pub i32_lawful : IsLawful (signed w32)
i32_lawful = signed_lawful w32 wide32

-- ---- what may stand in an array

pub boolean_item : IsItemLawful boolean
unfolding unsigned signed sbyte ticks status boolean byte_string text guid node_id qualified
    localized extension
boolean_item = item boolean_lawful refl

pub sbyte_item : IsItemLawful sbyte
unfolding unsigned signed sbyte ticks status boolean byte_string text guid node_id qualified
    localized extension
sbyte_item = item sbyte_lawful refl

pub byte_item : IsItemLawful byte
byte_item = item byte_lawful refl

pub i16_item : IsItemLawful (signed w16)
unfolding unsigned signed sbyte ticks status boolean byte_string text guid node_id qualified
    localized extension
i16_item = item i16_lawful refl

pub u16_item : IsItemLawful (unsigned w16)
unfolding unsigned signed sbyte ticks status boolean byte_string text guid node_id qualified
    localized extension
u16_item = item u16_lawful refl

pub i32_item : IsItemLawful (signed w32)
unfolding unsigned signed sbyte ticks status boolean byte_string text guid node_id qualified
    localized extension
i32_item = item i32_lawful refl

pub u32_item : IsItemLawful (unsigned w32)
unfolding unsigned signed sbyte ticks status boolean byte_string text guid node_id qualified
    localized extension
u32_item = item u32_lawful refl

pub i64_item : IsItemLawful (signed w64)
unfolding unsigned signed sbyte ticks status boolean byte_string text guid node_id qualified
    localized extension
i64_item = item i64_lawful refl

pub u64_item : IsItemLawful (unsigned w64)
unfolding unsigned signed sbyte ticks status boolean byte_string text guid node_id qualified
    localized extension
u64_item = item u64_lawful refl

pub four_item : IsItemLawful (block 4)
four_item = item (block_lawful 4) refl

pub eight_item : IsItemLawful (block 8)
eight_item = item (block_lawful 8) refl

pub ticks_item : IsItemLawful ticks
unfolding unsigned signed sbyte ticks status boolean byte_string text guid node_id qualified
    localized extension
ticks_item = item ticks_lawful refl

pub status_item : IsItemLawful status
unfolding unsigned signed sbyte ticks status boolean byte_string text guid node_id qualified
    localized extension
status_item = item status_lawful refl

pub text_item : IsItemLawful text
unfolding unsigned signed sbyte ticks status boolean byte_string text guid node_id qualified
    localized extension
text_item = item text_lawful refl

pub byte_string_item : IsItemLawful byte_string
unfolding unsigned signed sbyte ticks status boolean byte_string text guid node_id qualified
    localized extension
byte_string_item = item byte_string_lawful refl

pub guid_item : IsItemLawful guid
unfolding unsigned signed sbyte ticks status boolean byte_string text guid node_id qualified
    localized extension
guid_item = item guid_lawful refl

pub node_id_item : IsItemLawful node_id
unfolding unsigned signed sbyte ticks status boolean byte_string text guid node_id qualified
    localized extension
node_id_item = item node_id_lawful refl

pub qualified_item : IsItemLawful qualified
unfolding unsigned signed sbyte ticks status boolean byte_string text guid node_id qualified
    localized extension
qualified_item = item qualified_lawful refl

pub localized_item : IsItemLawful localized
unfolding unsigned signed sbyte ticks status boolean byte_string text guid node_id qualified
    localized extension
localized_item = item localized_lawful refl

pub extension_item : IsItemLawful extension
unfolding unsigned signed sbyte ticks status boolean byte_string text guid node_id qualified
    localized extension
extension_item = item extension_lawful refl

-- an array of items is lawful
pub array_of_items : {E A : Type 0} (told : BinaryFault → E) {f : Format E A} → IsItemLawful f
    → IsLawful (array told f)
array_of_items told p = array_lawful told p.some p.lawful

pub four_lawful : IsLawful (block 4)
four_lawful = block_lawful 4

pub eight_lawful : IsLawful (block 8)
eight_lawful = block_lawful 8

pub ruleset lawful = (
  boolean_lawful,
  sbyte_lawful,
  byte_lawful,
  i16_lawful,
  u16_lawful,
  i32_lawful,
  u32_lawful,
  i64_lawful,
  u64_lawful,
  four_lawful,
  eight_lawful,
  ticks_lawful,
  status_lawful,
  text_lawful,
  byte_string_lawful,
  guid_lawful,
  node_id_lawful,
  qualified_lawful,
  localized_lawful,
  extension_lawful,
)

pub ruleset item_lawful = (
  boolean_item,
  sbyte_item,
  byte_item,
  i16_item,
  u16_item,
  i32_item,
  u32_item,
  i64_item,
  u64_item,
  four_item,
  eight_item,
  ticks_item,
  status_item,
  text_item,
  byte_string_item,
  guid_item,
  node_id_item,
  qualified_item,
  localized_item,
  extension_item,
)
