-- Structures that are named by the id of their type and stand in the body of an extension object
-- (Part 6, 5.2.2.15).
use Rattle.std.specs.Prelude.{ℕ, List, [], Some, Bool, false, ◌==◌, ◌&&◌, unwrap_or}
use Rattle.ua_binary.specs.declared.fault.BinaryFault.{BinaryFault}
use Rattle.ua_binary.specs.declared.fault.BinaryFault.TheVariants.{BadEncodingByte}
use Rattle.ua_binary.specs.declared.values.NodeId.{NodeId}
use Rattle.ua_binary.specs.declared.values.NodeId.TheVariants.{Numeric}
use Rattle.ua_binary.specs.Format.{Format, byte, ◌▸◌, passing, standing_for, inside}
use Rattle.ua_binary.specs.Binary.{byte_string}
use Rattle.ua_variant.specs.declared.fault.VariantFault.{VariantFault}
use Rattle.ua_variant.specs.declared.fault.VariantFault.TheVariants as variant
use Rattle.ua_variant.specs.Variant.{raise}

-- the type with this id in namespace 0
abbrev pub is_standard_type : ℕ → NodeId → Bool
is_standard_type n v = elim v [ Numeric namespace id ↦ namespace == 0 && id == n | _ ↦ false ]

-- the bytes of a binary body: kind 1, and a ByteString, of which a null one is empty; a body of
-- another kind is none
unfoldable pub binary_body : Format BinaryFault (List ℕ)
binary_body =
    standing_for (λ p. unwrap_or p.1 []) (λ bytes. (1, Some bytes))
    (passing (λ kind. kind == 1) BadEncodingByte byte ▸ byte_string)

-- a structure that fills a binary body: what is left of the body has no meaning
abbrev pub structure : {A : Type 0} → Format BinaryFault A → Format BinaryFault A
structure f = inside BadEncodingByte binary_body f

-- the same of a structure in which values of any type stand
abbrev pub structure_with_values : {A : Type 0} → Format VariantFault A → Format VariantFault A
structure_with_values f = inside variant.BadEncodingByte (raise binary_body) f
