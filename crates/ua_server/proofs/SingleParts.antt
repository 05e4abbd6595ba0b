-- Names for parts of the definitions in specs/Single, for the lemmas on these parts.
use Rattle.std.specs.Prelude.{ℕ, List, Option, IsErr, ◌⊎◌}
use Rattle.std.specs.Str.{IsUtf8}
use Rattle.hex.specs.Hex.{decode_of}
use Rattle.ua_server.specs.Hexed.{digits_of}
use Rattle.ua_server.specs.Single.{WasText}

-- the input spells no connection in hex
abbrev pub IsBadText : Option (List ℕ) → Type 0
IsBadText input = (text : List ℕ) × WasText input text
    × (¬ (IsUtf8 text) ⊎ IsErr (decode_of (digits_of text)))
