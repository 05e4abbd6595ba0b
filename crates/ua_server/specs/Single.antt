-- One connection, from a reader to a writer, in bytes or in hex digits.
use Rattle.std.specs.Prelude.{◌≡◌, ℕ, ℤ, List, [], ◌∷◌, ◌++◌, Option, None, Some, IfSome, Result, Ok, Err, IsErr, Bool, true, false, ◌⊎◌}
use Rattle.std.specs.Io.KnownBytes.{Appends}
use Rattle.std.specs.Str.{IsUtf8}
use Rattle.hex.specs.Hex.{encode_upper, decode_of}
use Rattle.ua_settings.specs.Settings.{SettingsValues}
use Rattle.archive.specs.Store.{Store}
use Rattle.counted_io.specs.declared.fault.ServeFault.TheVariants.{Read, Write, TooLong, OutOfMemory}
use Rattle.counted_io.specs.Bytes.{AppendsPart}
use Rattle.ua_server.specs.declared.either.Served.{Served}
use Rattle.ua_server.specs.declared.hexed.HexFault.{HexFault}
use Rattle.ua_server.specs.declared.hexed.HexFault.TheVariants as hexed
use Rattle.ua_connection.specs.Readings.{AllAre}
use Rattle.ua_connection.specs.Environments.{Environment}
use Rattle.ua_server.specs.Either.{ConnectionEnding}
use Rattle.ua_server.specs.Hexed.{AnswersText, IsUntouched, digits_of}
use Rattle.ua_server.specs.Either.{ServesEither}

-- a connection ended so
abbrev pub EndsAs : (ConnectionEnding → Type 0) → Result (Unit {0}) HexFault → Type 0
EndsAs P result =
    elim result [
      | Ok done ↦ (served : Served) × P (Ok served)
      | Err hexed.BadHex ↦ ⊥
      | Err (hexed.Serve fault) ↦ P (Err fault)
    ]

-- the input was this text, where its bytes are known; of an unknown input any text may be it
abbrev pub WasText : Option (List ℕ) → List ℕ → Type 0
WasText input text = IfSome input (λ known. text ≡ known)

-- these are the digits of the whole answer to the connection that the input spells
abbrev pub AnswersDigits : SettingsValues → Store → Store → Option (List ℕ) → Environment → List ℕ
    → Type 0
AnswersDigits settings first last input used digits =
    (text : List ℕ) × WasText input text
    × ((out : List ℕ) × (served : Served)
    × AnswersText settings first last text used out (Ok served) × (digits ≡ encode_upper out))

-- the input spells a connection, which was answered and ended so
abbrev pub IsConnectionAnswered : SettingsValues → Store → Store → Option (List ℕ) → Environment
    → (ConnectionEnding → Type 0) → Type 0
IsConnectionAnswered settings first last input used P =
    (text : List ℕ) × WasText input text
    × ((out : List ℕ) × (ending : ConnectionEnding)
    × AnswersText settings first last text used out ending × P ending)

-- the input is no text in hex digits
abbrev pub IsNoHex : Option (List ℕ) → Type 0
IsNoHex input =
    (text : List ℕ) × WasText input text × (¬ (IsUtf8 text) ⊎ IsErr (decode_of (digits_of text)))

-- why no digits were made: nothing was done, or the connection was answered, and was too long, or
-- memory for the digits was wanting
abbrev pub IsUnmade : SettingsValues → Store → Store → Option (List ℕ) → Environment → HexFault
    → Type 0
IsUnmade settings first last input used hexed.BadHex = IsNoHex input × IsUntouched first last used
IsUnmade settings first last input used (hexed.Serve Read) = IsUntouched first last used
IsUnmade settings first last input used (hexed.Serve Write) = ⊥
IsUnmade settings first last input used (hexed.Serve TooLong) =
    IsConnectionAnswered settings first last input used (λ ending. ending ≡ Err TooLong)
IsUnmade settings first last input used (hexed.Serve OutOfMemory) =
    IsUntouched first last used
    ⊎ IsConnectionAnswered settings first last input used (λ ending. Unit {0})

-- the digits of the answer were made, or it is said why not
abbrev pub MakesDigits : {T : Type 0} → SettingsValues → Store → Store → (T → List ℕ)
    → Option (List ℕ) → Environment → Result T HexFault → Type 0
MakesDigits settings first last items_of input used (Ok made) =
    AnswersDigits settings first last input used (items_of made)
MakesDigits settings first last items_of input used (Err fault) =
    IsUnmade settings first last input used fault

-- this was written of the digits of the whole answer and a line end
abbrev pub WritesDigits : SettingsValues → Store → Store → Option (List ℕ) → Environment
    → (List ℕ → Type 0) → Type 0
WritesDigits settings first last input used Written =
    (digits : List ℕ) × AnswersDigits settings first last input used digits
    × Written (digits ++ 10 ∷ [])

-- the digits of the whole answer and a line end were printed, a first part of them where the writer
-- failed, else nothing
abbrev pub PrintsHex : SettingsValues → Store → Store → (input old written : Option (List ℕ))
    → Environment → Result (Unit {0}) HexFault → Type 0
PrintsHex settings first last input old written used (Ok done) =
    WritesDigits settings first last input used (Appends old written)
PrintsHex settings first last input old written used (Err (hexed.Serve Write)) =
    WritesDigits settings first last input used (AppendsPart old written)
PrintsHex settings first last input old written used (Err fault) =
    IsUnmade settings first last input used fault × (written ≡ old)

-- one connection is answered, in hex digits or in bytes
abbrev pub DoesAnswer : SettingsValues → Store → Store → Bool → Option (List ℕ) → Option (List ℕ)
    → Option (List ℕ) → Option (List ℕ) → Environment → Result (Unit {0}) HexFault → Type 0
DoesAnswer settings first last false input left old written used result =
    EndsAs (λ ending. ServesEither settings first last input left old written used ending) result
DoesAnswer settings first last true input left old written used result =
    PrintsHex settings first last input old written used result

-- the same; where a moment is given, each reading of the clock is that moment
abbrev pub AnswersAt : SettingsValues → (old new : Store) → Bool → Option ℤ
    → (input left old written : Option (List ℕ)) → Environment → Result (Unit {0}) HexFault → Type 0
AnswersAt settings first last hex None input left old written used result =
    DoesAnswer settings first last hex input left old written used result
AnswersAt settings first last hex (Some now) input left old written used result =
    (used.readings ≡ [])
    × ((given : Environment) × AllAre now given.readings
    × DoesAnswer settings first last hex input left old written given result)
