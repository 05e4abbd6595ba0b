-- How arrays are written as text and read again: as JSON (RFC 8259), whose items say values.
use Rattle.std.specs.Prelude.{◌≡◌, ℕ, ◌^◌, ◌==◌, List, [], ◌∷◌, ◌++◌, map, Option, Some, None, ok_or, unwrap_or, Bool, Result, Ok, Err, if◌then◌else◌}
use Rattle.std.specs.Str.Parse.{true_text, false_text}
use Rattle.json.specs.Token.{Token}
use Rattle.json.specs.Token as token
use Rattle.json.specs.Lex.{tokens}
use Rattle.json.specs.Print.{print, IsNumber}
use Rattle.json.specs.Written.{Written}
use Rattle.ua_variant.specs.Values.{array_number}
use Rattle.ua_variant.specs.declared.value.Array.{Array}
use Rattle.ua_variant.specs.declared.value.Scalar.{Scalar}
use Rattle.ua_variant.specs.declared.value.Scalar.TheVariants as scalar
use Rattle.ua_variant.specs.declared.value.Array.TheVariants.{Boolean, SByte, Byte, Int16, UInt16, Int32, UInt32, Int64, UInt64, Float, Double, String, DateTime, Guid, ByteString, NodeId, StatusCode, QualifiedName, LocalizedText}
use Rattle.history_text.specs.Floats.{single_in, double_in, single_again, double_again}
use Rattle.history_text.specs.Guids.{guid_in}
use Rattle.history_text.specs.Numbers.{signed_in, unsigned_in}
use Rattle.history_text.specs.Statuses.{kept, status_in}
use Rattle.history_text.specs.Values.{boolean_in, bytes_in, ticks_in, IsValueText}
use Rattle.history_text.specs.declared.fault.TextFault.{TextFault}
use Rattle.history_text.specs.declared.fault.TextFault.TheVariants.{NoTime, NoStatus, NoBoolean, NoInteger, NoFloat, NoGuid, NoBytes, NoArray, NoText}

-- ---- items

-- the text of an item: what a string says, a number as it is spelled, true or false
abbrev pub item_text : Token → Option (List ℕ)
item_text item =
    elim item [
      | token.string text ↦ Some text
      | token.number text ↦ Some text
      | token.boolean b ↦ Some (if b then true_text else false_text)
      | _ ↦ None
    ]

-- the second step from what the first one gave; a fault stays
infixl 10 ◌>>?◌
abbrev pub ◌>>?◌ : {A B : Type 0} → Result A TextFault → (A → Result B TextFault)
    → Result B TextFault
Ok x >>? f = f x
Err e >>? f = Err e

-- what an item says, by how a text of its type is read
abbrev pub item_in : {A : Type 0} → (said : List ℕ → Result A TextFault) → Token
    → Result A TextFault
item_in said item = ok_or (item_text item) NoArray >>? said

-- the values, where nothing follows an array's end
abbrev pub unless_followed : {A : Type 0} → List Token → A → Result A TextFault
unless_followed [] values = Ok values
unless_followed (item ∷ items) values = Err NoArray

-- what the items say up to an array's end; else the first fault
abbrev pub all_said : {A : Type 0} → (said : List ℕ → Result A TextFault) → List Token
    → Result (List A) TextFault
all_said said [] = Err NoArray
all_said said (token.end_array ∷ items) = unless_followed items []
all_said said (item ∷ items) =
    item_in said item >>? λ value. all_said said items >>? λ values. Ok (value ∷ values)

-- what the items of a JSON array say
abbrev pub listed : {A : Type 0} → (said : List ℕ → Result A TextFault) → List ℕ
    → Result (List A) TextFault
listed said text =
    elim (tokens text) [
      | token.begin_array ∷ items ↦ all_said said items
      | _ ↦ Err NoArray
    ]

-- ---- reading

-- what a text says, or this fault where it says nothing
abbrev pub or_fault : {A : Type 0} → TextFault → (List ℕ → Option A) → List ℕ
    → Result A TextFault
or_fault fault read text = ok_or (read text) fault

-- an array of what the items of a JSON array say
abbrev pub as_array : {A : Type 0} → (List A → Array) → (said : List ℕ → Result A TextFault)
    → List ℕ → Result Array TextFault
as_array make said text = listed said text >>? λ values. Ok (make values)

-- a byte string that hex digits write
abbrev pub byte_string_in : List ℕ → Result (Option (List ℕ)) TextFault
byte_string_in text = or_fault NoBytes bytes_in text >>? λ bytes. Ok (Some bytes)

-- an array of signed integers, by the number of their type
abbrev pub signed_array_in : (number : ℕ) → List ℕ → Result Array TextFault
signed_array_in number text =
    if number == 2 then as_array SByte (or_fault NoInteger (signed_in (2 ^ 7))) text
    else if number == 4 then as_array Int16 (or_fault NoInteger (signed_in (2 ^ 15))) text
    else if number == 6 then as_array Int32 (or_fault NoInteger (signed_in (2 ^ 31))) text
    else if number == 8 then as_array Int64 (or_fault NoInteger (signed_in (2 ^ 63))) text
    else Err NoText

-- an array of integers, by the number of their type
abbrev pub integer_array_in : (number : ℕ) → List ℕ → Result Array TextFault
integer_array_in number text =
    if number == 3 then as_array Byte (or_fault NoInteger (unsigned_in 8)) text
    else if number == 5 then as_array UInt16 (or_fault NoInteger (unsigned_in 16)) text
    else if number == 7 then as_array UInt32 (or_fault NoInteger (unsigned_in 32)) text
    else if number == 9 then as_array UInt64 (or_fault NoInteger (unsigned_in 64)) text
    else signed_array_in number text

-- an array of numbers, moments, Guids or status codes, by the number of their type
abbrev pub plain_array_in : (number : ℕ) → List ℕ → Result Array TextFault
plain_array_in number text =
    if number == 10 then as_array Float (or_fault NoFloat single_in) text
    else if number == 11 then as_array Double (or_fault NoFloat double_in) text
    else if number == 13 then as_array DateTime (or_fault NoTime ticks_in) text
    else if number == 14 then as_array Guid (or_fault NoGuid guid_in) text
    else if number == 19 then as_array StatusCode (or_fault NoStatus status_in) text
    else integer_array_in number text

-- the array that a text says, by the number of its items' type
abbrev pub array_in : (number : ℕ) → List ℕ → Result Array TextFault
array_in number text =
    if number == 1 then as_array Boolean (or_fault NoBoolean boolean_in) text
    else if number == 12 then as_array String (λ text. Ok (Some text)) text
    else if number == 15 then as_array ByteString byte_string_in text
    else plain_array_in number text

-- ---- writing

-- an array of a type that isn't written as text
abbrev pub IsUnwrittenArray : Array → Type 0
IsUnwrittenArray array =
    elim array [
      | NodeId _ ↦ Unit {0}
      | QualifiedName _ ↦ Unit {0}
      | LocalizedText _ ↦ Unit {0}
      | _ ↦ ⊥
    ]

-- a number, of any type
abbrev pub IsNumeric : Scalar → Type 0
IsNumeric value =
    elim value [
      | scalar.Boolean _ ↦ ⊥
      | scalar.String _ ↦ ⊥
      | scalar.DateTime _ ↦ ⊥
      | scalar.Guid _ ↦ ⊥
      | scalar.ByteString _ ↦ ⊥
      | scalar.StatusCode _ ↦ ⊥
      | _ ↦ Unit {0}
    ]

-- a value whose text stands between quotes: neither a Boolean nor a number that JSON can spell
abbrev pub IsQuoted : Scalar → (text : List ℕ) → Type 0
IsQuoted value text =
    elim value [ scalar.Boolean _ ↦ ⊥ | v ↦ IsNumeric v → IsNumber text → ⊥ ]

-- the item that a value is written as: its text as that of a value alone, between quotes or not
abbrev pub IsItemOf : Scalar → Token → Type 0
IsItemOf value item =
    elim item [
      | token.boolean b ↦ value ≡ scalar.Boolean b
      | token.number text ↦ IsNumeric value × IsValueText value text
      | token.string text ↦ IsQuoted value text × IsValueText value text
      | _ ↦ ⊥
    ]

-- the items that values are written as, one by one
abbrev pub AreItemsOf : List Scalar → List Token → Type 0
AreItemsOf [] [] = Unit {0}
AreItemsOf (value ∷ values) (item ∷ items) = IsItemOf value item × AreItemsOf values items
AreItemsOf _ _ = ⊥

-- an item was appended to a JSON text
abbrev pub AppendsItem : (old new : Written) → Token → Type 0
AppendsItem old new item = (new.before ≡ old.before) × (new.tokens ≡ old.tokens ++ item ∷ [])

-- the item that a value is written as was appended to a JSON text, and it says the other one
pub record PutsItem {A : Type 0} (said : List ℕ → Result A TextFault) (old new : Written)
    (value : Scalar) (again : A) : Type 0 where
  pub item : Token
  pub is : IsItemOf value item
  pub puts : AppendsItem old new item
  pub says : item_in said item ≡ Ok again

-- the same of the items that values are written as
pub record PutsItems {A : Type 0} (said : List ℕ → Result A TextFault) (old new : Written)
    (values : List Scalar) (again : List A) : Type 0 where
  pub items : List Token
  pub are : AreItemsOf values items
  pub before : new.before ≡ old.before
  pub tokens : new.tokens ≡ old.tokens ++ items
  pub say : map (item_in said) items ≡ map Ok again

-- the item of a number's text: without quotes where JSON can spell it
abbrev pub IsNumberItem : (text : List ℕ) → Token → Type 0
IsNumberItem text item =
    elim item [
      | token.number spelled ↦ spelled ≡ text
      | token.string spelled ↦ (spelled ≡ text) × (IsNumber text → ⊥)
      | _ ↦ ⊥
    ]

-- a null text or byte string is read as an empty one
abbrev pub never_null : Option (List ℕ) → Option (List ℕ)
never_null given = Some (unwrap_or given [])

-- what is read of an array that was written: of each item, what is read of such a value
abbrev pub array_again : Array → Array
array_again array =
    elim array [
      | Float items ↦ Float (map single_again items)
      | Double items ↦ Double (map double_again items)
      | String items ↦ String (map never_null items)
      | ByteString items ↦ ByteString (map never_null items)
      | StatusCode items ↦ StatusCode (map kept items)
      | v ↦ v
    ]

-- the values of an array, each as one alone
abbrev pub scalars_of : Array → List Scalar
scalars_of array =
    elim array [
      | Boolean items ↦ map scalar.Boolean items
      | SByte items ↦ map scalar.SByte items
      | Byte items ↦ map scalar.Byte items
      | Int16 items ↦ map scalar.Int16 items
      | UInt16 items ↦ map scalar.UInt16 items
      | Int32 items ↦ map scalar.Int32 items
      | UInt32 items ↦ map scalar.UInt32 items
      | Int64 items ↦ map scalar.Int64 items
      | UInt64 items ↦ map scalar.UInt64 items
      | Float items ↦ map scalar.Float items
      | Double items ↦ map scalar.Double items
      | String items ↦ map scalar.String items
      | DateTime items ↦ map scalar.DateTime items
      | Guid items ↦ map scalar.Guid items
      | ByteString items ↦ map scalar.ByteString items
      | NodeId items ↦ map scalar.NodeId items
      | StatusCode items ↦ map scalar.StatusCode items
      | QualifiedName items ↦ map scalar.QualifiedName items
      | LocalizedText items ↦ map scalar.LocalizedText items
    ]

-- the JSON array of the items that values are written as, without white space, each character by
-- its shortest escape
abbrev pub IsListText : List Scalar → (text : List ℕ) → Type 0
IsListText values text = (items : List Token) × AreItemsOf values items
    × (text ≡ print (token.begin_array ∷ items ++ token.end_array ∷ []))

-- a text that is written for an array: the JSON array of its values' items, which is read as it
abbrev pub IsArrayText : Array → List ℕ → Type 0
IsArrayText array text = IsListText (scalars_of array) text
    × (array_in (array_number array) text ≡ Ok (array_again array))
