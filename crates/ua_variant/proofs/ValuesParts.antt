-- Names for parts of the definitions in specs/Values, for the lemmas on these parts.
use Rattle.std.specs.Prelude.{ℕ, List}
use Rattle.ua_binary.specs.Format.{Format, no_format, standing_for}
use Rattle.ua_binary.specs.Binary.{array}
use Rattle.ua_binary.specs.declared.fault.BinaryFault.{BinaryFault}
use Rattle.ua_binary.specs.declared.fault.BinaryFault.TheVariants.{BadEncodingByte}
use Rattle.ua_variant.specs.Types.{by_type}
use Rattle.ua_variant.specs.declared.value.Array.{Array}

-- an array
abbrev pub many : {A : Type 0} → Format BinaryFault A → Format BinaryFault (List A)
many f = array (λ e. e) f

-- what each type number calls for
abbrev pub values_form : ℕ → Format BinaryFault Array
values_form = by_type (λ _ _ _ to from f _. standing_for to from (array (λ e. e) f))
    (no_format BadEncodingByte)
