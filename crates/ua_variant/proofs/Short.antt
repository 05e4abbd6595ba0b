-- What is read of values is few enough to be written.
use Rattle.std.proofs.Common.{◌≡◌, ℕ, ◌-◌, ◌≤◌, min, ltb, ◌==◌, List, Ok, arith}
use Rattle.std.specs.Int.{w16, w32, w64}
use Rattle.ua_binary.specs.Format.{Format, byte, block, standing_for, flagged}
use Rattle.ua_binary.specs.Binary.{boolean, sbyte, signed, unsigned, ticks, status, guid}
use Rattle.ua_binary.specs.declared.fault.BinaryFault.{BinaryFault}
use Rattle.ua_binary.specs.declared.fault.BinaryFault.TheVariants.{BadEncodingByte}
use Rattle.ua_binary.proofs.Counted.{SpellsOnly, IsFew, any_only, nothing_only, refused_only, then_only, headed_only, standing_only, flagged_only, chosen_only, fitting_only, raised_only, text_only, byte_string_only, node_id_only, localized_only, qualified_only, array_only, read_only}
use Rattle.ua_variant.specs.declared.fault.VariantFault.TheVariants.{TypeUnsupported, BadEncodingByte as BadMask}
use Rattle.ua_variant.specs.declared.value.Scalar.{Scalar as One}
use Rattle.ua_variant.specs.declared.value.Scalar.TheVariants.{Boolean, SByte, Byte, Int16, UInt16, Int32, UInt32, Int64, UInt64, Float, Double, String, DateTime, Guid, ByteString, NodeId, StatusCode, QualifiedName, LocalizedText}
use Rattle.ua_variant.specs.declared.value.Array.{Array as Many}
use Rattle.ua_variant.specs.declared.value.Array.TheVariants as many
use Rattle.ua_variant.specs.declared.value.Variant.{Variant}
use Rattle.ua_variant.specs.declared.value.Variant.TheVariants.{Null, Scalar, Array}
use Rattle.ua_variant.specs.declared.data.DataValue.{DataValue}
use Rattle.ua_variant.specs.Raise.{variant_fault}
use Rattle.ua_variant.specs.Scalar.{scalar, IsShortScalar, is_type_number}
use Rattle.ua_variant.proofs.ScalarParts.{scalar_form}
use Rattle.ua_variant.specs.Values.{values, IsShortValues}
use Rattle.ua_variant.proofs.ValuesParts.{values_form, many as many_of}
use Rattle.ua_variant.specs.Variant.{raise, variant, IsVariant, IsShortVariant}
use Rattle.ua_variant.proofs.VariantParts.{variant_form, variant_number}
use Rattle.ua_variant.specs.DataValue.{IsPicoseconds, picoseconds, has, data_mask, IsDataValue, data_value, IsShortData}
use Rattle.ua_variant.proofs.DataValueParts.{data_of, parts_of, data_fields}
use Rattle.ua_variant.proofs.Lawful.{variant_lawful}
use Rattle.ua_variant.proofs.Masks.{data_value_lawful}

-- ---- one value, and arrays of each type

-- where there is nothing to count
plain : {A : Type 0} (to : A → One) (from : One → A) (f : Format BinaryFault A)
    → ((v : A) → IsShortScalar (to v)) → SpellsOnly (standing_for to from f) IsShortScalar
plain to from f h = standing_only to from (any_only f) (λ v _. h v)

counted : {A : Type 0} {P : A → Type 0} (to : A → One) (from : One → A) {f : Format BinaryFault A}
    → SpellsOnly f P → ((v : A) → P v → IsShortScalar (to v))
    → SpellsOnly (standing_for to from f) IsShortScalar
counted to from p h = standing_only to from p h

scalar_form_only : (number : ℕ) → SpellsOnly (scalar_form number) IsShortScalar
scalar_form_only number =
    chosen_only (number == 1) (plain Boolean _ boolean (λ _. tt)) (
    chosen_only (number == 2) (plain SByte _ sbyte (λ _. tt)) (
    chosen_only (number == 3) (plain Byte _ byte (λ _. tt)) (
    chosen_only (number == 4) (plain Int16 _ (signed w16) (λ _. tt)) (
    chosen_only (number == 5) (plain UInt16 _ (unsigned w16) (λ _. tt)) (
    chosen_only (number == 6) (plain Int32 _ (signed w32) (λ _. tt)) (
    chosen_only (number == 7) (plain UInt32 _ (unsigned w32) (λ _. tt)) (
    chosen_only (number == 8) (plain Int64 _ (signed w64) (λ _. tt)) (
    chosen_only (number == 9) (plain UInt64 _ (unsigned w64) (λ _. tt)) (
    chosen_only (number == 10) (plain Float _ (block 4) (λ _. tt)) (
    chosen_only (number == 11) (plain Double _ (block 8) (λ _. tt)) (
    chosen_only (number == 12) (counted String _ text_only (λ _ h. h)) (
    chosen_only (number == 13) (plain DateTime _ ticks (λ _. tt)) (
    chosen_only (number == 14) (plain Guid _ guid (λ _. tt)) (
    chosen_only (number == 15) (counted ByteString _ byte_string_only (λ _ h. h)) (
    chosen_only (number == 17) (counted NodeId _ node_id_only (λ _ h. h)) (
    chosen_only (number == 19) (plain StatusCode _ status (λ _. tt)) (
    chosen_only (number == 20) (counted QualifiedName _ qualified_only (λ _ h. h)) (
    chosen_only (number == 21) (counted LocalizedText _ localized_only (λ _ h. h)) (
    refused_only BadEncodingByte)))))))))))))))))))

scalar_only : (number : ℕ) → SpellsOnly (scalar number) IsShortScalar
unfolding scalar
scalar_only number = fitting_only _ (scalar_form_only number)

counted_array : {A : Type 0} {P : A → Type 0} (to : List A → Many)
    (from : Many → List A) {f : Format BinaryFault A} → SpellsOnly f P
    → ((l : List A) → IsFew P l → IsShortValues (to l))
    → SpellsOnly (standing_for to from (many_of f)) IsShortValues
counted_array to from p h = standing_only to from (array_only (λ e. e) p) h

values_form_only : (number : ℕ) → SpellsOnly (values_form number) IsShortValues
values_form_only number =
    chosen_only (number == 1) (counted_array many.Boolean _ (any_only boolean) (λ _ h. h)) (
    chosen_only (number == 2) (counted_array many.SByte _ (any_only sbyte) (λ _ h. h)) (
    chosen_only (number == 3) (counted_array many.Byte _ (any_only byte) (λ _ h. h)) (
    chosen_only (number == 4) (counted_array many.Int16 _ (any_only (signed w16)) (λ _ h. h)) (
    chosen_only (number == 5) (counted_array many.UInt16 _ (any_only (unsigned w16)) (λ _ h. h)) (
    chosen_only (number == 6) (counted_array many.Int32 _ (any_only (signed w32)) (λ _ h. h)) (
    chosen_only (number == 7) (counted_array many.UInt32 _ (any_only (unsigned w32)) (λ _ h. h)) (
    chosen_only (number == 8) (counted_array many.Int64 _ (any_only (signed w64)) (λ _ h. h)) (
    chosen_only (number == 9) (counted_array many.UInt64 _ (any_only (unsigned w64)) (λ _ h. h)) (
    chosen_only (number == 10) (counted_array many.Float _ (any_only (block 4)) (λ _ h. h)) (
    chosen_only (number == 11) (counted_array many.Double _ (any_only (block 8)) (λ _ h. h)) (
    chosen_only (number == 12) (counted_array many.String _ text_only (λ _ h. h)) (
    chosen_only (number == 13) (counted_array many.DateTime _ (any_only ticks) (λ _ h. h)) (
    chosen_only (number == 14) (counted_array many.Guid _ (any_only guid) (λ _ h. h)) (
    chosen_only (number == 15) (counted_array many.ByteString _ byte_string_only (λ _ h. h)) (
    chosen_only (number == 17) (counted_array many.NodeId _ node_id_only (λ _ h. h)) (
    chosen_only (number == 19) (counted_array many.StatusCode _ (any_only status) (λ _ h. h)) (
    chosen_only (number == 20) (counted_array many.QualifiedName _ qualified_only (λ _ h. h)) (
    chosen_only (number == 21) (counted_array many.LocalizedText _ localized_only (λ _ h. h)) (
    refused_only BadEncodingByte)))))))))))))))))))

values_only : (number : ℕ) → SpellsOnly (values number) IsShortValues
unfolding values
values_only number = fitting_only _ (values_form_only number)

-- ---- all types

variant_form_only : (first : ℕ) → SpellsOnly (variant_form first) IsShortVariant
variant_form_only first =
    chosen_only (first == 0) (nothing_only Null tt) (
    chosen_only (ltb first 128)
    (chosen_only (is_type_number first) (standing_only Scalar _
    (raised_only variant_fault (scalar_only first)) (λ _ h. h)) (refused_only TypeUnsupported))
    (chosen_only (is_type_number (first - 128)) (standing_only Array _
    (raised_only variant_fault (values_only (first - 128))) (λ _ h. h))
    (refused_only TypeUnsupported)))

variant_only : SpellsOnly variant IsShortVariant
unfolding variant
variant_only = fitting_only IsVariant (headed_only variant_number variant_form
    (any_only (raise byte)) (λ first _. variant_form_only first))

pub short_variant : (bytes : List ℕ) (v : Variant) (rest : List ℕ)
    → variant.read bytes ≡ Ok (v, rest) → IsShortVariant v
short_variant bytes v rest e = read_only variant_lawful variant_only bytes v rest e

-- ---- data values

at_most : (n : ℕ) → min n 9999 ≤ 9999
at_most n = omega arith

picoseconds_only : SpellsOnly picoseconds IsPicoseconds
unfolding picoseconds
picoseconds_only = fitting_only IsPicoseconds (standing_only (λ n. min n 9999) _
    (any_only (unsigned w16)) (λ n _. at_most n))

data_fields_only : (mask : ℕ) → SpellsOnly (data_fields mask) IsShortData
data_fields_only mask =
    chosen_only (ltb 63 mask) (refused_only BadMask) (standing_only data_of parts_of (
    then_only (flagged_only _ variant_only) (raised_only variant_fault (
    then_only (any_only (flagged (has mask 2) status))
    (then_only (any_only (flagged (has mask 4) ticks))
    (then_only (flagged_only _ picoseconds_only)
    (then_only (any_only (flagged (has mask 8) ticks)) (flagged_only _ picoseconds_only))))
    ))
    ) (λ u h. (h.0, h.1.1.1.0, h.1.1.1.1.1)))

pub data_value_only : SpellsOnly data_value IsShortData
unfolding data_value
data_value_only = fitting_only IsDataValue (headed_only data_mask data_fields
    (any_only (raise byte)) (λ mask _. data_fields_only mask))

pub short_data : (bytes : List ℕ) (v : DataValue) (rest : List ℕ)
    → data_value.read bytes ≡ Ok (v, rest) → IsShortData v
short_data bytes v rest e = read_only data_value_lawful data_value_only bytes v rest e
