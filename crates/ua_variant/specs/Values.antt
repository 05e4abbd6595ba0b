-- Arrays of each type (Part 6, 5.2.2.16 and 5.2.5).
use Rattle.std.specs.Prelude.{◌≡◌, ℕ, ◌<◌, ◌^◌, length, All}
use Rattle.std.specs.List.{AllByRecursion}
use Rattle.ua_binary.specs.Format.{Format, no_format, standing_for, fitting}
use Rattle.ua_binary.specs.Binary.{array}
use Rattle.ua_binary.specs.declared.fault.BinaryFault.{BinaryFault}
use Rattle.ua_binary.specs.declared.fault.BinaryFault.TheVariants.{BadEncodingByte}
use Rattle.ua_variant.specs.Types.{by_type}
use Rattle.ua_variant.specs.declared.value.Array.{Array}
use Rattle.ua_variant.specs.declared.value.Array.TheVariants.{Boolean, SByte, Byte, Int16, UInt16, Int32, UInt32, Int64, UInt64, Float, Double, String, DateTime, Guid, ByteString, NodeId, StatusCode, QualifiedName, LocalizedText}

-- the number of its type
abbrev pub array_number : Array → ℕ
array_number value =
    elim value [
      | Boolean _ ↦ 1
      | SByte _ ↦ 2
      | Byte _ ↦ 3
      | Int16 _ ↦ 4
      | UInt16 _ ↦ 5
      | Int32 _ ↦ 6
      | UInt32 _ ↦ 7
      | Int64 _ ↦ 8
      | UInt64 _ ↦ 9
      | Float _ ↦ 10
      | Double _ ↦ 11
      | String _ ↦ 12
      | DateTime _ ↦ 13
      | Guid _ ↦ 14
      | ByteString _ ↦ 15
      | NodeId _ ↦ 17
      | StatusCode _ ↦ 19
      | QualifiedName _ ↦ 20
      | LocalizedText _ ↦ 21
    ]

-- few enough items, each with a spelling
abbrev pub IsValues : Array → Type 0
IsValues v =
    by_type (λ _ _ _ _ from f _. (length (from v) < 2 ^ 31) × AllByRecursion f.Fits (from v)) ⊥
    (array_number v)

-- few enough items, and each text and byte string has few enough bytes to be counted
abbrev pub IsShortValues : Array → Type 0
IsShortValues v =
    by_type (λ _ _ _ _ from _ IsShort. (length (from v) < 2 ^ 31) × All IsShort (from v)) ⊥
    (array_number v)

-- an array of the type of this number
unfoldable pub values : ℕ → Format BinaryFault Array
values number =
    fitting (λ v. (array_number v ≡ number) × IsValues v)
    (by_type (λ _ _ _ to from f _. standing_for to from (array (λ e. e) f))
    (no_format BadEncodingByte) number)
