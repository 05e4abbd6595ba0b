-- Names for parts of the definitions in specs/Scalar, for the lemmas on these parts.
use Rattle.std.specs.Prelude.{ℕ}
use Rattle.ua_binary.specs.Format.{Format, no_format, standing_for}
use Rattle.ua_binary.specs.declared.fault.BinaryFault.{BinaryFault}
use Rattle.ua_binary.specs.declared.fault.BinaryFault.TheVariants.{BadEncodingByte}
use Rattle.ua_variant.specs.Types.{by_type}
use Rattle.ua_variant.specs.declared.value.Scalar.{Scalar}

-- what each type number calls for
abbrev pub scalar_form : ℕ → Format BinaryFault Scalar
scalar_form = by_type (λ _ to from _ _ f _. standing_for to from f) (no_format BadEncodingByte)
