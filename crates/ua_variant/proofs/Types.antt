-- What is known of the number of a type, and of arrays that were written.
use Rattle.std.proofs.Common.{◌≡◌, ℕ, true, false, ltb, ◌==◌, refl, ◌<◌, ◌^◌, List, length, Result, Ok, Err, IfOk}
use Rattle.std.specs.List.{All, AllByRecursion}
use Rattle.std.proofs.lemmas.List.Elements.{recursion_from_All}
use Rattle.std.proofs.lemmas.Bool.{ltb-true}
use Rattle.ua_variant.specs.Scalar.{scalar_number, is_type_number}
use Rattle.ua_variant.specs.declared.value.Scalar.{Scalar as One}
use Rattle.ua_variant.specs.declared.value.Scalar.TheVariants.{Boolean, SByte, Byte, Int16, UInt16, Int32, UInt32, Int64, UInt64, Float, Double, String, DateTime, Guid, ByteString, NodeId, StatusCode, QualifiedName, LocalizedText}
use Rattle.ua_variant.specs.Values.{array_number}
use Rattle.ua_variant.specs.declared.value.Array.{Array as Many}
use Rattle.ua_variant.specs.declared.value.Array.TheVariants as many

-- the three tests at once, by cases
pub record IsNumber (n : ℕ) : Type 0 where
  pub known : is_type_number n ≡ true
  pub some : (n == 0) ≡ false
  pub small : ltb n 128 ≡ true

pub type_of : (v : One) → IsNumber (scalar_number v)
unfolding is_type_number
type_of (Boolean v) = record { known = refl; some = refl; small = refl }
type_of (SByte v) = record { known = refl; some = refl; small = refl }
type_of (Byte v) = record { known = refl; some = refl; small = refl }
type_of (Int16 v) = record { known = refl; some = refl; small = refl }
type_of (UInt16 v) = record { known = refl; some = refl; small = refl }
type_of (Int32 v) = record { known = refl; some = refl; small = refl }
type_of (UInt32 v) = record { known = refl; some = refl; small = refl }
type_of (Int64 v) = record { known = refl; some = refl; small = refl }
type_of (UInt64 v) = record { known = refl; some = refl; small = refl }
type_of (Float v) = record { known = refl; some = refl; small = refl }
type_of (Double v) = record { known = refl; some = refl; small = refl }
type_of (String v) = record { known = refl; some = refl; small = refl }
type_of (DateTime v) = record { known = refl; some = refl; small = refl }
type_of (Guid v) = record { known = refl; some = refl; small = refl }
type_of (ByteString v) = record { known = refl; some = refl; small = refl }
type_of (NodeId v) = record { known = refl; some = refl; small = refl }
type_of (StatusCode v) = record { known = refl; some = refl; small = refl }
type_of (QualifiedName v) = record { known = refl; some = refl; small = refl }
type_of (LocalizedText v) = record { known = refl; some = refl; small = refl }

pub type_of_values : (v : Many) → IsNumber (array_number v)
unfolding is_type_number
type_of_values (many.Boolean v) = record { known = refl; some = refl; small = refl }
type_of_values (many.SByte v) = record { known = refl; some = refl; small = refl }
type_of_values (many.Byte v) = record { known = refl; some = refl; small = refl }
type_of_values (many.Int16 v) = record { known = refl; some = refl; small = refl }
type_of_values (many.UInt16 v) = record { known = refl; some = refl; small = refl }
type_of_values (many.Int32 v) = record { known = refl; some = refl; small = refl }
type_of_values (many.UInt32 v) = record { known = refl; some = refl; small = refl }
type_of_values (many.Int64 v) = record { known = refl; some = refl; small = refl }
type_of_values (many.UInt64 v) = record { known = refl; some = refl; small = refl }
type_of_values (many.Float v) = record { known = refl; some = refl; small = refl }
type_of_values (many.Double v) = record { known = refl; some = refl; small = refl }
type_of_values (many.String v) = record { known = refl; some = refl; small = refl }
type_of_values (many.DateTime v) = record { known = refl; some = refl; small = refl }
type_of_values (many.Guid v) = record { known = refl; some = refl; small = refl }
type_of_values (many.ByteString v) = record { known = refl; some = refl; small = refl }
type_of_values (many.NodeId v) = record { known = refl; some = refl; small = refl }
type_of_values (many.StatusCode v) = record { known = refl; some = refl; small = refl }
type_of_values (many.QualifiedName v) = record { known = refl; some = refl; small = refl }
type_of_values (many.LocalizedText v) = record { known = refl; some = refl; small = refl }

pub known_values : (v : Many) → is_type_number (array_number v) ≡ true
known_values v = (type_of_values v).known

pub small_values : (v : Many) → array_number v < 128
small_values v = ltb-true (array_number v) 128 (type_of_values v).small

pub known_type : (v : One) → is_type_number (scalar_number v) ≡ true
known_type v = (type_of v).known

pub some_type : (v : One) → (scalar_number v == 0) ≡ false
some_type v = (type_of v).some

pub small_type : (v : One) → ltb (scalar_number v) 128 ≡ true
small_type v = (type_of v).small

-- an array that was written
pub many_spelled : {A E T : Type 0} (P : A → Type 0) (l : List A) (result : Result T E)
    → length l < 2 ^ 31 → IfOk result (λ _. All P l)
    → IfOk result (λ _. (length l < 2 ^ 31) × AllByRecursion P l)
many_spelled P l (Ok x) few h = (few, recursion_from_All P l h)
many_spelled P l (Err e) few h = tt

pub ruleset types = (known_values, small_values, known_type, some_type, small_type)
