-- A connection in hex digits.
use Rattle.std.specs.Prelude.{◌≡◌, ◌⊎◌, ℕ, List, [], ◌++◌, Option, Some, filter, ◌==◌, ◌&&◌, not, Result, Ok, Err, IsErr}
use Rattle.hex.specs.Hex.{decode_of, encode_upper}
use Rattle.ua_server.specs.declared.either.Served.{Served}
use Rattle.counted_io.specs.declared.fault.ServeFault.TheVariants.{Read, Write, TooLong, OutOfMemory}
use Rattle.ua_server.specs.declared.hexed.HexFault.{HexFault}
use Rattle.ua_server.specs.declared.hexed.HexFault.TheVariants.{BadHex, Serve}
use Rattle.ua_settings.specs.Settings.{SettingsValues}
use Rattle.archive.specs.Store.{Store}
use Rattle.archive.specs.Steps.{Transitions}
use Rattle.ua_connection.specs.Environments.{Environment}
use Rattle.ua_server.specs.Either.{ConnectionEnding}
use Rattle.ua_server.specs.Either.{ServesEither}

-- the digits of a text: all but blanks and line ends
abbrev pub digits_of : List ℕ → List ℕ
digits_of text = filter (λ byte. not (byte == 32) && (not (byte == 10) && not (byte == 13))) text

-- the text spells bytes, a client or a peer that sends these was served, and this was written
abbrev pub AnswersText : SettingsValues → Store → Store → List ℕ → Environment → List ℕ
    → ConnectionEnding → Type 0
AnswersText settings old new text used out ending =
    (input : List ℕ) × (left : Option (List ℕ)) × (decode_of (digits_of text) ≡ Ok input)
    × ServesEither settings old new (Some input) left (Some []) (Some out) used ending

-- nothing was done: the archive holds what it held, and the clock wasn't read
abbrev pub IsUntouched : Store → Store → Environment → Type 0
IsUntouched old new used = Transitions old new [] (λ marks R S. S ≡ R) × (used.readings ≡ [])

-- The digits of what was written are appended; after a fault nothing is. Where memory is wanting,
-- nothing was done, or the client or peer was served.
abbrev pub AnswersHex : SettingsValues → Store → Store → List ℕ → Environment → List ℕ → List ℕ
    → Result Served HexFault → Type 0
AnswersHex settings old new text used before after (Ok served) =
    (out : List ℕ) × AnswersText settings old new text used out (Ok served)
    × (after ≡ before ++ encode_upper out)
AnswersHex settings old new text used before after (Err BadHex) =
    IsErr (decode_of (digits_of text)) × (after ≡ before) × IsUntouched old new used
AnswersHex settings old new text used before after (Err (Serve Read)) = ⊥
AnswersHex settings old new text used before after (Err (Serve Write)) = ⊥
AnswersHex settings old new text used before after (Err (Serve TooLong)) =
    ((out : List ℕ) × AnswersText settings old new text used out (Err TooLong)) × (after ≡ before)
AnswersHex settings old new text used before after (Err (Serve OutOfMemory)) =
    (after ≡ before)
    × (IsUntouched old new used
    ⊎
    ((out : List ℕ) × (ending : ConnectionEnding)
    × AnswersText settings old new text used out ending))

-- the input isn't hex, or there was no memory
abbrev pub IsBadOrStarved : HexFault → Type 0
IsBadOrStarved BadHex = Unit {0}
IsBadOrStarved (Serve Read) = ⊥
IsBadOrStarved (Serve Write) = ⊥
IsBadOrStarved (Serve TooLong) = ⊥
IsBadOrStarved (Serve OutOfMemory) = Unit {0}
