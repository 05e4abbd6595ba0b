-- Values: null, one of a type, or an array of one type (Part 6, 5.2.2.16).
use Rattle.std.specs.Prelude.{◌+◌, ◌-◌, [], Bool, true, false, not, nat_lt, ◌==◌, ◌&&◌, ℕ}
use Rattle.ua_binary.specs.Format.{Format, nothing, no_format, byte, chosen, headed, standing_for, fitting, raised}
use Rattle.ua_binary.specs.declared.fault.BinaryFault.{BinaryFault}
use Rattle.ua_variant.specs.Raise.{variant_fault}
use Rattle.ua_variant.specs.Scalar.{scalar, scalar_number, IsScalar, IsShortScalar, is_type_number}
use Rattle.ua_variant.specs.declared.fault.VariantFault.{VariantFault}
use Rattle.ua_variant.specs.declared.fault.VariantFault.TheVariants.{TypeUnsupported}
use Rattle.ua_variant.specs.declared.value.Scalar.TheVariants.{Boolean}
use Rattle.ua_variant.specs.declared.value.Array.TheVariants.{Boolean as ManyBoolean}
use Rattle.ua_variant.specs.Values.{values, array_number, IsValues, IsShortValues}
use Rattle.ua_variant.specs.declared.value.Variant.{Variant}
use Rattle.ua_variant.specs.declared.value.Variant.TheVariants.{Null, Scalar, Array}
use Rattle.ua_variant.specs.declared.value.ValueType.{ValueType}

-- a format of the binary encoding, with this crate's faults
abbrev pub raise : {A : Type 0} → Format BinaryFault A → Format VariantFault A
raise f = raised variant_fault f

-- what has a spelling
abbrev pub IsVariant : Variant → Type 0
IsVariant value = elim value [ Null ↦ Unit {0} | Scalar s ↦ IsScalar s | Array a ↦ IsValues a ]

-- one value of the type that this first byte tells
abbrev pub scalar_variant : ℕ → Format VariantFault Variant
scalar_variant first =
    chosen (is_type_number first)
    (standing_for Scalar (λ v. elim v [ Scalar s ↦ s | _ ↦ Boolean false ]) (raise (scalar first)))
    (no_format TypeUnsupported)

-- an array of the type with this number
abbrev pub array_variant : ℕ → Format VariantFault Variant
array_variant number =
    chosen (is_type_number number)
    (standing_for Array (λ v. elim v [ Array a ↦ a | _ ↦ ManyBoolean [] ]) (raise (values number)))
    (no_format TypeUnsupported)

-- the first byte: 0 for null, the number of a type, and 128 more for an array
abbrev pub variant_number : Variant → ℕ
variant_number v = elim v [ Null ↦ 0 | Scalar s ↦ scalar_number s | Array a ↦ 128 + array_number a ]

-- a first byte, and what it calls for
unfoldable pub variant : Format VariantFault Variant
variant =
    fitting IsVariant (headed variant_number (raise byte) (λ first.
    chosen (first == 0) (nothing Null)
    (chosen (nat_lt first 128) (scalar_variant first) (array_variant (first - 128)))))

-- what a writer asks
abbrev pub IsShortVariant : Variant → Type 0
IsShortVariant Null = Unit {0}
IsShortVariant (Scalar s) = IsShortScalar s
IsShortVariant (Array a) = IsShortValues a

-- a null value fits each type
abbrev pub has_type : Variant → ValueType → Bool
has_type value t =
    elim value [
      | Null ↦ true
      | Scalar s ↦ not t.array && scalar_number s == t.number
      | Array a ↦ t.array && array_number a == t.number
    ]
