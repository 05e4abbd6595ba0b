-- How a live value and a type are shown in a few words.
use Rattle.std.specs.Prelude.{◌≡◌, ◌⊎◌, ℕ, ℤ, ◌-ℤ◌, ◌/◌, unsigned_abs, int_lt, ◌-◌, ◌==◌, ◌||◌, ◌&&◌, nat_eq, nat_lt, nat_le, Bool, false, true, List, [], ◌∷◌, ◌++◌, codes, Option, Some, None, unwrap_or, if◌then◌else◌}
use Rattle.std.specs.Fmt.{decimal}
use Rattle.std.specs.Map.{lookup}
use Rattle.ua_variant.specs.Scalar.{scalar_number}
use Rattle.ua_variant.specs.Values.{array_number}
use Rattle.ua_variant.specs.declared.value.ValueType.{ValueType}
use Rattle.ua_variant.specs.declared.value.Variant.{Variant}
use Rattle.ua_variant.specs.declared.value.Variant.TheVariants.{Null, Scalar, Array}
use Rattle.records.specs.Moments.{ticks_of}
use Rattle.records.specs.declared.shown.Held.{Held}
use Rattle.history_text.specs.Times.{IsTimeText}
use Rattle.history_csv.specs.Rows.{IsVariantText, IsTextless, code_text, time_of}

-- ---- types

-- the names of the types that a value may have, each after its number (Part 6, 5.1.2)
unfoldable pub type_names : List (ℕ × List ℕ)
type_names =
    (1, codes "Boolean") ∷ (2, codes "SByte") ∷ (3, codes "Byte") ∷ (4, codes "Int16")
    ∷ (5, codes "UInt16") ∷ (6, codes "Int32") ∷ (7, codes "UInt32") ∷ (8, codes "Int64")
    ∷ (9, codes "UInt64") ∷ (10, codes "Float") ∷ (11, codes "Double") ∷ (12, codes "String")
    ∷ (13, codes "DateTime") ∷ (14, codes "Guid") ∷ (15, codes "ByteString") ∷ (17, codes "NodeId")
    ∷ (19, codes "StatusCode") ∷ (20, codes "QualifiedName") ∷ (21, codes "LocalizedText") ∷ []

-- the name of the type of this number; of any other there is none
unfoldable pub type_name : ℕ → List ℕ
type_name number = unwrap_or (lookup (nat_eq number) type_names) []

-- the words for a type
abbrev pub type_words : ValueType → List ℕ
type_words type = type_name type.number ++ (if type.array then codes " array" else [])

-- the same where there is a type
abbrev pub type_text : Option ValueType → List ℕ
type_text given = elim given [ None ↦ [] | Some type ↦ type_words type ]

-- ---- values

-- the type of a value; a null has none
abbrev pub value_type_of : Variant → Option ValueType
value_type_of value = elim value [
  | Null ↦ None
  | Scalar one ↦ Some (record { number = scalar_number one; array = false })
  | Array many ↦ Some (record { number = array_number many; array = true })
]

-- what stands for a value that has no text: its type in brackets
abbrev pub bracketed : Option Variant → List ℕ
bracketed given =
    elim given [ None ↦ [] | Some value ↦ 91 ∷ type_text (value_type_of value) ++ 93 ∷ [] ]

-- what is shown of a value: its text, or where it has none, its type in brackets
abbrev pub IsShown : Option Variant → List ℕ → Type 0
IsShown given text = IsVariantText given text ⊎ (IsTextless given × (text ≡ bracketed given))

-- ---- ages

-- how many whole seconds lie between two times, in ticks of 100 ns
abbrev pub seconds_between : (now time : ℤ) → ℕ
seconds_between now time = unsigned_abs (now -ℤ time) / 10000000

-- so many seconds: below a minute as they are, else in minutes, hours or days
unfoldable pub age_words : (seconds : ℕ) → List ℕ
age_words seconds =
    if nat_lt seconds 60 then decimal seconds ++ codes " s"
    else if nat_lt seconds 3600 then decimal (seconds / 60) ++ codes " min"
    else if nat_lt seconds 86400 then decimal (seconds / 3600) ++ codes " h"
    else decimal (seconds / 86400) ++ codes " d"

-- how long ago a time was; nothing of one that is to come
abbrev pub age_text : (now time : ℤ) → List ℕ
age_text now time = if int_lt now time then [] else age_words (seconds_between now time)

-- ---- the latest live value

-- the texts of a value, of its status, its time and its age; empty where there is none
abbrev pub AreLatestTexts : (now : ℤ) → Option Held → (value status time age : List ℕ) → Type 0
AreLatestTexts now latest value status time age =
    elim latest [
      | None ↦ (value ≡ []) × (status ≡ []) × (time ≡ []) × (age ≡ [])
      | Some held ↦ IsShown held.value.value value × (status ≡ code_text held.value.status)
          × IsTimeText (time_of held.time) time × (age ≡ age_text now (ticks_of held.time))
    ]

-- ---- long texts

-- a byte begins a character of UTF-8
abbrev pub is_start : ℕ → Bool
is_start b = nat_lt b 128 || nat_le 192 b

-- a text up to the character that stands after so many, with dots in place of the rest
abbrev pub cut_behind : (left : ℕ) → List ℕ → List ℕ
cut_behind left [] = []
cut_behind left (b ∷ text) =
    if is_start b && left == 0 then codes "..."
    else b ∷ cut_behind (if is_start b then left - 1 else left) text

-- a text's first 200 characters, with dots in place of the rest
abbrev pub cut_text : List ℕ → List ℕ
cut_text text = cut_behind 200 text
