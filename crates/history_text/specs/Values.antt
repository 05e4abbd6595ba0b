-- How values are written as text and read again, by the number of their type.
use Rattle.std.specs.Prelude.{◌≡◌, ◌⊎◌, ℕ, ◌^◌, ◌==◌, List, [], Option, Some, None, unwrap_or, Bool, true, false, Result, Ok, Err, MatchResult, if◌then◌else◌}
use Rattle.std.specs.Fmt.{decimal, signed_decimal}
use Rattle.std.specs.Str.{bytes_eq}
use Rattle.std.specs.Str.Parse.{true_text, false_text}
use Rattle.hex.specs.Hex.{decode_of, encode_lower}
use Rattle.ua_binary.specs.declared.values.Ticks.{Ticks}
use Rattle.ua_variant.specs.declared.value.Scalar.{Scalar}
use Rattle.ua_variant.specs.declared.value.Scalar.TheVariants.{Boolean, SByte, Byte, Int16, UInt16, Int32, UInt32, Int64, UInt64, Float, Double, String, DateTime, Guid, ByteString, NodeId, StatusCode, QualifiedName, LocalizedText}
use Rattle.history_text.specs.Floats.{single_in, double_in, single_again, double_again}
use Rattle.history_text.specs.Guids.{guid_in, guid_text}
use Rattle.history_text.specs.Numbers.{signed_in, unsigned_in}
use Rattle.history_text.specs.Statuses.{kept, status_in, status_text}
use Rattle.history_text.specs.Times.{◌>>=◌, time_in, IsTimeText}
use Rattle.history_text.specs.declared.times.Time.{Time}
use Rattle.history_text.specs.declared.fault.TextFault.{TextFault}
use Rattle.history_text.specs.declared.fault.TextFault.TheVariants.{NoTime, NoStatus, NoBoolean, NoInteger, NoFloat, NoGuid, NoBytes, NoText, OutOfMemory}

-- ---- reading

-- a value of what was read, or the fault
abbrev pub as_value : {A : Type 0} → (A → Scalar) → TextFault → Option A → Result Scalar TextFault
as_value make fault given = elim given [ Some x ↦ Ok (make x) | None ↦ Err fault ]

-- true or false
abbrev pub boolean_in : List ℕ → Option Bool
boolean_in text =
    if bytes_eq text true_text then Some true
    else if bytes_eq text false_text then Some false else None

-- the steps of a moment, where it has no picoseconds
abbrev pub whole_ticks : Time → Option Ticks
whole_ticks time = if time.pico == 0 then Some (record { 0 = time.ticks }) else None

-- a moment without picoseconds
abbrev pub ticks_in : List ℕ → Option Ticks
ticks_in text = time_in text >>= whole_ticks

-- the bytes that hex digits write
abbrev pub bytes_in : List ℕ → Option (List ℕ)
bytes_in text = elim (decode_of text) [ Ok bytes ↦ Some bytes | Err _ ↦ None ]

-- a signed whole number, by the number of its type
abbrev pub signed_value_in : (number : ℕ) → List ℕ → Result Scalar TextFault
signed_value_in number text =
    if number == 2 then as_value SByte NoInteger (signed_in (2 ^ 7) text)
    else if number == 4 then as_value Int16 NoInteger (signed_in (2 ^ 15) text)
    else if number == 6 then as_value Int32 NoInteger (signed_in (2 ^ 31) text)
    else if number == 8 then as_value Int64 NoInteger (signed_in (2 ^ 63) text)
    else Err NoText

-- a whole number, by the number of its type
abbrev pub whole_value_in : (number : ℕ) → List ℕ → Result Scalar TextFault
whole_value_in number text =
    if number == 3 then as_value Byte NoInteger (unsigned_in 8 text)
    else if number == 5 then as_value UInt16 NoInteger (unsigned_in 16 text)
    else if number == 7 then as_value UInt32 NoInteger (unsigned_in 32 text)
    else if number == 9 then as_value UInt64 NoInteger (unsigned_in 64 text)
    else signed_value_in number text

-- a number, a moment, a Guid or a status code, by the number of its type
abbrev pub plain_in : (number : ℕ) → List ℕ → Result Scalar TextFault
plain_in number text =
    if number == 10 then as_value Float NoFloat (single_in text)
    else if number == 11 then as_value Double NoFloat (double_in text)
    else if number == 13 then as_value DateTime NoTime (ticks_in text)
    else if number == 14 then as_value Guid NoGuid (guid_in text)
    else if number == 19 then as_value StatusCode NoStatus (status_in text)
    else whole_value_in number text

-- a value, by the number of its type
abbrev pub value_in : (number : ℕ) → List ℕ → Result Scalar TextFault
value_in number text =
    if number == 1 then as_value Boolean NoBoolean (boolean_in text)
    else if number == 12 then Ok (String (Some text))
    else if number == 15 then as_value (λ bytes. ByteString (Some bytes)) NoBytes (bytes_in text)
    else plain_in number text

-- the answer is given, unless memory ran out
abbrev pub Answers : {A : Type 0} → Result A TextFault → Result A TextFault → Type 0
Answers answer result =
    MatchResult result (λ v. answer ≡ Ok v) (λ e. (e ≡ OutOfMemory) ⊎ (answer ≡ Err e))

-- ---- writing

-- values of some types are not written as text
abbrev pub IsUnwritten : Scalar → Type 0
IsUnwritten value =
    elim value [
      | NodeId _ ↦ Unit {0}
      | QualifiedName _ ↦ Unit {0}
      | LocalizedText _ ↦ Unit {0}
      | _ ↦ ⊥
    ]

-- what is read of a value that was written: a null is empty, each NaN is one, and a code has no
-- bits
-- of the server's
abbrev pub read_back : Scalar → Scalar
read_back value =
    elim value [
      | Float bytes ↦ Float (single_again bytes)
      | Double bytes ↦ Double (double_again bytes)
      | String text ↦ String (Some (unwrap_or text []))
      | ByteString bytes ↦ ByteString (Some (unwrap_or bytes []))
      | StatusCode code ↦ StatusCode (kept code)
      | v ↦ v
    ]

-- a text that is written for a value
abbrev pub IsValueText : Scalar → List ℕ → Type 0
IsValueText value text =
    elim value [
      | Boolean b ↦ text ≡ (if b then true_text else false_text)
      | SByte z ↦ text ≡ signed_decimal z
      | Byte n ↦ text ≡ decimal n
      | Int16 z ↦ text ≡ signed_decimal z
      | UInt16 n ↦ text ≡ decimal n
      | Int32 z ↦ text ≡ signed_decimal z
      | UInt32 n ↦ text ≡ decimal n
      | Int64 z ↦ text ≡ signed_decimal z
      | UInt64 n ↦ text ≡ decimal n
      | Float bytes ↦ single_in text ≡ Some (single_again bytes)
      | Double bytes ↦ double_in text ≡ Some (double_again bytes)
      | String given ↦ text ≡ unwrap_or given []
      | DateTime t ↦ IsTimeText (record { ticks = t.0; pico = 0 }) text
      | Guid guid ↦ text ≡ guid_text guid
      | ByteString given ↦ text ≡ encode_lower (unwrap_or given [])
      | StatusCode code ↦ text ≡ status_text code
      | _ ↦ ⊥
    ]
