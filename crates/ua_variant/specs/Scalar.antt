-- One value of each type (Part 6, 5.2.2).
use Rattle.std.specs.Prelude.{◌≡◌, ℕ, Bool, ◌==◌, ◌||◌}
use Rattle.ua_binary.specs.Format.{Format, no_format, standing_for, fitting}
use Rattle.ua_binary.specs.declared.fault.BinaryFault.{BinaryFault}
use Rattle.ua_binary.specs.declared.fault.BinaryFault.TheVariants.{BadEncodingByte}
use Rattle.ua_variant.specs.Types.{by_type}
use Rattle.ua_variant.specs.declared.value.Scalar.{Scalar}
use Rattle.ua_variant.specs.declared.value.Scalar.TheVariants.{Boolean, SByte, Byte, Int16, UInt16, Int32, UInt32, Int64, UInt64, Float, Double, String, DateTime, Guid, ByteString, NodeId, StatusCode, QualifiedName, LocalizedText}

-- whether a type has this number (Part 6, 5.1.2): 1 to 15, 17, and 19 to 21
unfoldable pub is_type_number : ℕ → Bool
is_type_number n =
    n == 1 || (n == 2 || (n == 3 || (n == 4 || (n == 5 || (n == 6 || (n == 7 || (n == 8 || (n == 9
    || (n == 10 || (n == 11 || (n == 12 || (n == 13 || (n == 14 || (n == 15
    || (n == 17 || (n == 19 || (n == 20 || (n == 21))))))))))))))))))

-- the number of its type
abbrev pub scalar_number : Scalar → ℕ
scalar_number value =
    elim value [
      | Boolean _ ↦ 1
      | SByte _ ↦ 2
      | Byte _ ↦ 3
      | Int16 _ ↦ 4
      | UInt16 _ ↦ 5
      | Int32 _ ↦ 6
      | UInt32 _ ↦ 7
      | Int64 _ ↦ 8
      | UInt64 _ ↦ 9
      | Float _ ↦ 10
      | Double _ ↦ 11
      | String _ ↦ 12
      | DateTime _ ↦ 13
      | Guid _ ↦ 14
      | ByteString _ ↦ 15
      | NodeId _ ↦ 17
      | StatusCode _ ↦ 19
      | QualifiedName _ ↦ 20
      | LocalizedText _ ↦ 21
    ]

-- the numbers are those of their types, the texts are UTF-8, and their bytes few enough to be
-- counted
abbrev pub IsScalar : Scalar → Type 0
IsScalar v = by_type (λ _ _ from _ _ f _. f.Fits (from v)) ⊥ (scalar_number v)

-- each text and byte string has few enough bytes to be counted
abbrev pub IsShortScalar : Scalar → Type 0
IsShortScalar v = by_type (λ _ _ from _ _ _ IsShort. IsShort (from v)) ⊥ (scalar_number v)

-- a value of the type of this number
unfoldable pub scalar : ℕ → Format BinaryFault Scalar
scalar number =
    fitting (λ v. (scalar_number v ≡ number) × IsScalar v)
    (by_type (λ _ to from _ _ f _. standing_for to from f) (no_format BadEncodingByte) number)
