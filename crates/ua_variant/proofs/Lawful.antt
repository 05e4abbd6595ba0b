-- Each format of values is lawful.
use Rattle.std.proofs.Common.{◌≡◌, ℕ, ◌+◌, ◌-◌, ◌<◌, ◌^◌, false, ltb, ◌==◌, List, length, refl, subst, arith}
use Rattle.std.specs.List.{AllByRecursion}
use Rattle.std.specs.Int.{w16, w32, w64}
use Rattle.std.proofs.lemmas.Bool.{ne_eqb, ltb-true, le-ltb}
use Rattle.ua_binary.specs.Format.{Format, IsLawful, block, byte}
use Rattle.ua_binary.specs.Binary.{boolean, sbyte, signed, unsigned, ticks, status, text, byte_string, guid, node_id, qualified, localized, array}
use Rattle.ua_binary.proofs.Combined.{IsNonEmpty, nothing_lawful, refused_lawful, byte_lawful, chosen_lawful, headed_lawful, standing_lawful, fitting_lawful, raised_lawful}
use Rattle.ua_binary.proofs.Elements.{IsItemLawful, refused_item, standing_item, chosen_item}
use Rattle.ua_binary.proofs.Lawful.{boolean_item, sbyte_item, byte_item, i16_item, u16_item, i32_item, u32_item, i64_item, u64_item, four_item, eight_item, ticks_item, status_item, text_item, byte_string_item, guid_item, node_id_item, qualified_item, localized_item, array_lawful}
use Rattle.ua_binary.specs.declared.fault.BinaryFault.{BinaryFault}
use Rattle.ua_binary.specs.declared.fault.BinaryFault.TheVariants.{BadEncodingByte}
use Rattle.ua_variant.specs.declared.fault.VariantFault.TheVariants.{TypeUnsupported}
use Rattle.ua_variant.specs.declared.value.Scalar.{Scalar as One}
use Rattle.ua_variant.specs.declared.value.Scalar.TheVariants.{Boolean, SByte, Byte, Int16, UInt16, Int32, UInt32, Int64, UInt64, Float, Double, String, DateTime, Guid, ByteString, NodeId, StatusCode, QualifiedName, LocalizedText}
use Rattle.ua_variant.specs.declared.value.Variant.{Variant}
use Rattle.ua_variant.specs.declared.value.Variant.TheVariants.{Null, Scalar, Array}
use Rattle.ua_variant.proofs.Types.{IsNumber, type_of, type_of_values}
use Rattle.ua_variant.specs.Raise.{variant_fault}
use Rattle.ua_variant.specs.Scalar.{scalar, scalar_number, IsScalar, is_type_number}
use Rattle.ua_variant.proofs.ScalarParts.{scalar_form}
use Rattle.ua_variant.specs.Variant.{IsVariant, variant}
use Rattle.ua_variant.proofs.VariantParts.{variant_form, variant_number}
use Rattle.ua_variant.specs.Values.{values, array_number, IsValues}
use Rattle.ua_variant.proofs.ValuesParts.{values_form, many as many_of}
use Rattle.ua_variant.specs.declared.value.Array.{Array as Many}
use Rattle.ua_variant.specs.declared.value.Array.TheVariants as many

-- ---- one value

scalar_item : (number : ℕ) → IsItemLawful (scalar_form number)
scalar_item number =
    chosen_item (number == 1) (standing_item _ _ boolean_item) (
    chosen_item (number == 2) (standing_item _ _ sbyte_item) (
    chosen_item (number == 3) (standing_item _ _ byte_item) (
    chosen_item (number == 4) (standing_item _ _ i16_item) (
    chosen_item (number == 5) (standing_item _ _ u16_item) (
    chosen_item (number == 6) (standing_item _ _ i32_item) (
    chosen_item (number == 7) (standing_item _ _ u32_item) (
    chosen_item (number == 8) (standing_item _ _ i64_item) (
    chosen_item (number == 9) (standing_item _ _ u64_item) (
    chosen_item (number == 10) (standing_item _ _ four_item) (
    chosen_item (number == 11) (standing_item _ _ eight_item) (
    chosen_item (number == 12) (standing_item _ _ text_item) (
    chosen_item (number == 13) (standing_item _ _ ticks_item) (
    chosen_item (number == 14) (standing_item _ _ guid_item) (
    chosen_item (number == 15) (standing_item _ _ byte_string_item) (
    chosen_item (number == 17) (standing_item _ _ node_id_item) (
    chosen_item (number == 19) (standing_item _ _ status_item) (
    chosen_item (number == 20) (standing_item _ _ qualified_item) (
    chosen_item (number == 21) (standing_item _ _ localized_item) (
    refused_item BadEncodingByte)))))))))))))))))))

many_lawful : {A : Type 0} {f : Format BinaryFault A} → IsItemLawful f → IsLawful (many_of f)
many_lawful p = array_lawful (λ e. e) p.some p.lawful

many_fits : {A : Type 0} (f : Format BinaryFault A) (l : List A)
    → (length l < 2 ^ 31) × AllByRecursion f.Fits l → (many_of f).Fits l
unfolding array signed
many_fits f l h = (omega (arith, h.0), (h.1, refl))

values_form_lawful : (number : ℕ) → IsLawful (values_form number)
values_form_lawful number =
    chosen_lawful (number == 1) (standing_lawful _ _ (many_lawful boolean_item)) (
    chosen_lawful (number == 2) (standing_lawful _ _ (many_lawful sbyte_item)) (
    chosen_lawful (number == 3) (standing_lawful _ _ (many_lawful byte_item)) (
    chosen_lawful (number == 4) (standing_lawful _ _ (many_lawful i16_item)) (
    chosen_lawful (number == 5) (standing_lawful _ _ (many_lawful u16_item)) (
    chosen_lawful (number == 6) (standing_lawful _ _ (many_lawful i32_item)) (
    chosen_lawful (number == 7) (standing_lawful _ _ (many_lawful u32_item)) (
    chosen_lawful (number == 8) (standing_lawful _ _ (many_lawful i64_item)) (
    chosen_lawful (number == 9) (standing_lawful _ _ (many_lawful u64_item)) (
    chosen_lawful (number == 10) (standing_lawful _ _ (many_lawful four_item)) (
    chosen_lawful (number == 11) (standing_lawful _ _ (many_lawful eight_item)) (
    chosen_lawful (number == 12) (standing_lawful _ _ (many_lawful text_item)) (
    chosen_lawful (number == 13) (standing_lawful _ _ (many_lawful ticks_item)) (
    chosen_lawful (number == 14) (standing_lawful _ _ (many_lawful guid_item)) (
    chosen_lawful (number == 15) (standing_lawful _ _ (many_lawful byte_string_item)) (
    chosen_lawful (number == 17) (standing_lawful _ _ (many_lawful node_id_item)) (
    chosen_lawful (number == 19) (standing_lawful _ _ (many_lawful status_item)) (
    chosen_lawful (number == 20) (standing_lawful _ _ (many_lawful qualified_item)) (
    chosen_lawful (number == 21) (standing_lawful _ _ (many_lawful localized_item)) (
    refused_lawful BadEncodingByte)))))))))))))))))))

values_fits : (v : Many) → IsValues v → (values_form (array_number v)).Fits v
values_fits (many.Boolean l) h = (many_fits boolean l h, refl)
values_fits (many.SByte l) h = (many_fits sbyte l h, refl)
values_fits (many.Byte l) h = (many_fits byte l h, refl)
values_fits (many.Int16 l) h = (many_fits (signed w16) l h, refl)
values_fits (many.UInt16 l) h = (many_fits (unsigned w16) l h, refl)
values_fits (many.Int32 l) h = (many_fits (signed w32) l h, refl)
values_fits (many.UInt32 l) h = (many_fits (unsigned w32) l h, refl)
values_fits (many.Int64 l) h = (many_fits (signed w64) l h, refl)
values_fits (many.UInt64 l) h = (many_fits (unsigned w64) l h, refl)
values_fits (many.Float l) h = (many_fits (block 4) l h, refl)
values_fits (many.Double l) h = (many_fits (block 8) l h, refl)
values_fits (many.String l) h = (many_fits text l h, refl)
values_fits (many.DateTime l) h = (many_fits ticks l h, refl)
values_fits (many.Guid l) h = (many_fits guid l h, refl)
values_fits (many.ByteString l) h = (many_fits byte_string l h, refl)
values_fits (many.NodeId l) h = (many_fits node_id l h, refl)
values_fits (many.StatusCode l) h = (many_fits status l h, refl)
values_fits (many.QualifiedName l) h = (many_fits qualified l h, refl)
values_fits (many.LocalizedText l) h = (many_fits localized l h, refl)

values_lawful : (number : ℕ) → IsLawful (values number)
unfolding values
values_lawful number = fitting_lawful _ (λ v h.
    subst (λ n. (values_form n).Fits v) h.0 (values_fits v h.1)) (values_form_lawful number)

scalar_form_lawful : (number : ℕ) → IsLawful (scalar_form number)
scalar_form_lawful number = (scalar_item number).lawful

scalar_form_some : (number : ℕ) → IsNonEmpty (scalar_form number)
scalar_form_some number = (scalar_item number).some

scalar_fits : (v : One) → IsScalar v → (scalar_form (scalar_number v)).Fits v
unfolding boolean sbyte signed unsigned ticks status text byte_string guid node_id qualified
    localized
scalar_fits (Boolean v) h = (tt, refl)
scalar_fits (SByte v) h = (h, refl)
scalar_fits (Byte v) h = (h, refl)
scalar_fits (Int16 v) h = (h, refl)
scalar_fits (UInt16 v) h = (h, refl)
scalar_fits (Int32 v) h = (h, refl)
scalar_fits (UInt32 v) h = (h, refl)
scalar_fits (Int64 v) h = (h, refl)
scalar_fits (UInt64 v) h = (h, refl)
scalar_fits (Float v) h = (h, refl)
scalar_fits (Double v) h = (h, refl)
scalar_fits (String v) h = (h, refl)
scalar_fits (DateTime v) h = (h, refl)
scalar_fits (Guid v) h = (h, refl)
scalar_fits (ByteString v) h = (h, refl)
scalar_fits (NodeId v) h = (h, refl)
scalar_fits (StatusCode v) h = (h, refl)
scalar_fits (QualifiedName v) h = (h, refl)
scalar_fits (LocalizedText v) h = (h, refl)

-- ---- all types

scalar_lawful : (number : ℕ) → IsLawful (scalar number)
unfolding scalar
scalar_lawful number = fitting_lawful _ (λ v h.
    subst (λ n. (scalar_form n).Fits v) h.0 (scalar_fits v h.1)) (scalar_form_lawful number)

scalar_some : (number : ℕ) → IsNonEmpty (scalar number)
unfolding scalar
scalar_some number = record { some = (scalar_form_some number).some }

variant_form_lawful : (first : ℕ) → IsLawful (variant_form first)
variant_form_lawful first =
    chosen_lawful (first == 0) (nothing_lawful Null) (
    chosen_lawful (ltb first 128)
    (chosen_lawful (is_type_number first) (standing_lawful _ _
    (raised_lawful variant_fault (scalar_lawful first))) (refused_lawful TypeUnsupported))
    (chosen_lawful (is_type_number (first - 128)) (standing_lawful _ _
    (raised_lawful variant_fault (values_lawful (first - 128))))
    (refused_lawful TypeUnsupported)))

-- what the three tests choose
scalar_chosen : (n : ℕ) (v : One) → IsNumber n → scalar_number v ≡ n → IsScalar v
    → (n < 2 ^ 8) × (variant_form n).Fits (Scalar v)
unfolding scalar
scalar_chosen n v t e h = rw (t.some, t.small, t.known)
    (omega (arith, ltb-true n 128 t.small), ((e, h), refl))

array_chosen : (n : ℕ) (v : Many) → IsNumber n → array_number v ≡ n → IsValues v
    → (128 + n < 2 ^ 8) × (variant_form (128 + n)).Fits (Array v)
unfolding values
array_chosen n v t e h =
    let a : (128 + n == 0) ≡ false = ne_eqb (128 + n) 0 (λ e. omega (arith, e)) in
    let b : ltb (128 + n) 128 ≡ false = le-ltb (128 + n) 128 (omega arith) in
    let c : 128 + n - 128 ≡ n = omega arith in
    rw (a, b, c, t.known) (omega (arith, ltb-true n 128 t.small), ((e, h), refl))

variant_fits : (v : Variant) → IsVariant v
    → (variant_number v < 2 ^ 8) × (variant_form (variant_number v)).Fits v
variant_fits Null h = (omega arith, refl)
variant_fits (Scalar s) h = scalar_chosen (scalar_number s) s (type_of s) refl h
variant_fits (Array a) h = array_chosen (array_number a) a (type_of_values a) refl h

pub variant_lawful : IsLawful variant
unfolding variant
variant_lawful = fitting_lawful IsVariant variant_fits
    (headed_lawful variant_number variant_form
    (raised_lawful variant_fault byte_lawful) variant_form_lawful)

pub ruleset lawful = (variant_lawful)
