-- The types that a value may have (Part 6, 5.1.2 and 5.2.2).
use Rattle.std.specs.Prelude.{ℕ, List, pos, [], None, false, ◌==◌}
use Rattle.std.specs.Int.{w16, w32, w64}
use Rattle.ua_binary.specs.Format.{Format, byte, block, chosen}
use Rattle.ua_binary.specs.Binary.{boolean, sbyte, signed, unsigned, text, byte_string, IsCounted, IsShortNode, node_id, guid, guid_of, qualified, localized, IsShortLocalized, ticks, status}
use Rattle.ua_binary.specs.declared.fault.BinaryFault.{BinaryFault}
use Rattle.ua_binary.specs.declared.values.NodeId.TheVariants.{Numeric}
use Rattle.ua_variant.specs.declared.value.Scalar.{Scalar}
use Rattle.ua_variant.specs.declared.value.Scalar.TheVariants.{Boolean, SByte, Byte, Int16, UInt16, Int32, UInt32, Int64, UInt64, Float, Double, String, DateTime, Guid, ByteString, NodeId, StatusCode, QualifiedName, LocalizedText}
use Rattle.ua_variant.specs.declared.value.Array.{Array}
use Rattle.ua_variant.specs.declared.value.Array.TheVariants as many

-- what a type is told by: one value of it and an array of it, each made and taken apart, how one is
-- spelled, and which of them can be counted
abbrev pub Row : Type 1 → Type 1
Row X =
    (A : Type 0) → (A → Scalar) → (Scalar → A) → (List A → Array) → (Array → List A)
    → Format BinaryFault A → (A → Type 0) → X

-- of the types, the one of this number, in a row each; a number of none has none
abbrev pub by_type : {X : Type 1} → Row X → X → ℕ → X
by_type row none number =
    chosen (number == 1)
    (row _ Boolean (λ v. elim v [ Boolean v ↦ v | _ ↦ false ]) many.Boolean
    (λ l. elim l [ many.Boolean l ↦ l | _ ↦ [] ]) boolean (λ _. Unit)) (
    chosen (number == 2)
    (row _ SByte (λ v. elim v [ SByte v ↦ v | _ ↦ pos 0 ]) many.SByte
    (λ l. elim l [ many.SByte l ↦ l | _ ↦ [] ]) sbyte (λ _. Unit)) (
    chosen (number == 3)
    (row _ Byte (λ v. elim v [ Byte v ↦ v | _ ↦ 0 ]) many.Byte
    (λ l. elim l [ many.Byte l ↦ l | _ ↦ [] ]) byte (λ _. Unit)) (
    chosen (number == 4)
    (row _ Int16 (λ v. elim v [ Int16 v ↦ v | _ ↦ pos 0 ]) many.Int16
    (λ l. elim l [ many.Int16 l ↦ l | _ ↦ [] ]) (signed w16) (λ _. Unit)) (
    chosen (number == 5)
    (row _ UInt16 (λ v. elim v [ UInt16 v ↦ v | _ ↦ 0 ]) many.UInt16
    (λ l. elim l [ many.UInt16 l ↦ l | _ ↦ [] ]) (unsigned w16) (λ _. Unit)) (
    chosen (number == 6)
    (row _ Int32 (λ v. elim v [ Int32 v ↦ v | _ ↦ pos 0 ]) many.Int32
    (λ l. elim l [ many.Int32 l ↦ l | _ ↦ [] ]) (signed w32) (λ _. Unit)) (
    chosen (number == 7)
    (row _ UInt32 (λ v. elim v [ UInt32 v ↦ v | _ ↦ 0 ]) many.UInt32
    (λ l. elim l [ many.UInt32 l ↦ l | _ ↦ [] ]) (unsigned w32) (λ _. Unit)) (
    chosen (number == 8)
    (row _ Int64 (λ v. elim v [ Int64 v ↦ v | _ ↦ pos 0 ]) many.Int64
    (λ l. elim l [ many.Int64 l ↦ l | _ ↦ [] ]) (signed w64) (λ _. Unit)) (
    chosen (number == 9)
    (row _ UInt64 (λ v. elim v [ UInt64 v ↦ v | _ ↦ 0 ]) many.UInt64
    (λ l. elim l [ many.UInt64 l ↦ l | _ ↦ [] ]) (unsigned w64) (λ _. Unit)) (
    chosen (number == 10)
    (row _ Float (λ v. elim v [ Float v ↦ v | _ ↦ [] ]) many.Float
    (λ l. elim l [ many.Float l ↦ l | _ ↦ [] ]) (block 4) (λ _. Unit)) (
    chosen (number == 11)
    (row _ Double (λ v. elim v [ Double v ↦ v | _ ↦ [] ]) many.Double
    (λ l. elim l [ many.Double l ↦ l | _ ↦ [] ]) (block 8) (λ _. Unit)) (
    chosen (number == 12)
    (row _ String (λ v. elim v [ String v ↦ v | _ ↦ None ]) many.String
    (λ l. elim l [ many.String l ↦ l | _ ↦ [] ]) text IsCounted) (
    chosen (number == 13)
    (row _ DateTime (λ v. elim v [ DateTime v ↦ v | _ ↦ record { 0 = pos 0 } ]) many.DateTime
    (λ l. elim l [ many.DateTime l ↦ l | _ ↦ [] ]) ticks (λ _. Unit)) (
    chosen (number == 14)
    (row _ Guid (λ v. elim v [ Guid v ↦ v | _ ↦ guid_of (0, (0, (0, []))) ]) many.Guid
    (λ l. elim l [ many.Guid l ↦ l | _ ↦ [] ]) guid (λ _. Unit)) (
    chosen (number == 15)
    (row _ ByteString (λ v. elim v [ ByteString v ↦ v | _ ↦ None ]) many.ByteString
    (λ l. elim l [ many.ByteString l ↦ l | _ ↦ [] ]) byte_string IsCounted) (
    chosen (number == 17)
    (row _ NodeId (λ v. elim v [ NodeId v ↦ v | _ ↦ Numeric 0 0 ]) many.NodeId
    (λ l. elim l [ many.NodeId l ↦ l | _ ↦ [] ]) node_id IsShortNode) (
    chosen (number == 19)
    (row _ StatusCode (λ v. elim v [ StatusCode v ↦ v | _ ↦ record { 0 = 0 } ]) many.StatusCode
    (λ l. elim l [ many.StatusCode l ↦ l | _ ↦ [] ]) status (λ _. Unit)) (
    chosen (number == 20)
    (row _ QualifiedName
    (λ v.
    elim v
    [ QualifiedName v ↦ v | _ ↦ record { namespace = 0; name = None } ]) many.QualifiedName
    (λ l. elim l [ many.QualifiedName l ↦ l | _ ↦ [] ]) qualified (λ v. IsCounted v.name)) (
    chosen (number == 21)
    (row _ LocalizedText
    (λ v.
    elim v
    [ LocalizedText v ↦ v | _ ↦ record { locale = None; text = None } ]) many.LocalizedText
    (λ l. elim l [ many.LocalizedText l ↦ l | _ ↦ [] ]) localized IsShortLocalized) (
    none)))))))))))))))))))
