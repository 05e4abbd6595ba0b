-- Names for parts of the definitions in specs/Variant, for the lemmas on these parts.
use Rattle.std.specs.Prelude.{ℕ, ◌+◌, ◌-◌, [], false, nat_lt, ◌==◌}
use Rattle.ua_binary.specs.Format.{Format, nothing, no_format, chosen, standing_for}
use Rattle.ua_variant.specs.Scalar.{scalar, scalar_number, is_type_number}
use Rattle.ua_variant.specs.declared.fault.VariantFault.{VariantFault}
use Rattle.ua_variant.specs.declared.fault.VariantFault.TheVariants.{TypeUnsupported}
use Rattle.ua_variant.specs.declared.value.Scalar.TheVariants.{Boolean}
use Rattle.ua_variant.specs.declared.value.Array.TheVariants.{Boolean as ManyBoolean}
use Rattle.ua_variant.specs.Values.{values, array_number}
use Rattle.ua_variant.specs.declared.value.Variant.{Variant}
use Rattle.ua_variant.specs.declared.value.Variant.TheVariants.{Null, Scalar, Array}
use Rattle.ua_variant.specs.Variant.{raise}

-- the first byte that is written
abbrev pub variant_number : Variant → ℕ
variant_number value = elim value [
  | Null ↦ 0
  | Scalar s ↦ scalar_number s
  | Array a ↦
      128 + array_number a
]

-- what each first byte calls for: the low bits are a type, 128 is the flag of an array; 64, the
-- flag of a matrix, is left out
abbrev pub variant_form : ℕ → Format VariantFault Variant
variant_form first =
    chosen (first == 0) (nothing Null) (
    chosen (nat_lt first 128)
    (chosen (is_type_number first) (standing_for Scalar
    (λ v. elim v [ Scalar s ↦ s | _ ↦ Boolean false ]) (raise (scalar first)))
    (no_format TypeUnsupported))
    (chosen (is_type_number (first - 128)) (standing_for Array
    (λ v. elim v [ Array a ↦ a | _ ↦ ManyBoolean [] ]) (raise (values (first - 128))))
    (no_format TypeUnsupported)))
