-- How floats are written as text and read again; a float is its bytes, the low one first.
use Rattle.std.specs.Prelude.{ℕ, List, Option, is_nan, to_bits, if◌then◌else◌}
use Rattle.std.specs.Option.{option_map}
use Rattle.std.specs.Float.{Float, binary32, binary64}
use Rattle.std.specs.Float.Ieee.{nan_bits}
use Rattle.std.specs.Float.Parse.{parse_float}
use Rattle.std.specs.Int.{w32, w64, from_le_bytes, to_le_bytes}

-- the bytes of a Double; those of each NaN are of 7FF8000000000000
abbrev pub double_bytes : Float → List ℕ
double_bytes x =
    to_le_bytes w64 (if is_nan x then 9_221_120_237_041_090_560 else to_bits binary64 x)

-- the bytes of a Float; those of each NaN are of 7FC00000
abbrev pub single_bytes : Float → List ℕ
single_bytes x = to_le_bytes w32 (if is_nan x then 2_143_289_344 else to_bits binary32 x)

-- the bytes of the Double nearest to what a text writes
abbrev pub double_in : List ℕ → Option (List ℕ)
double_in text = option_map double_bytes (parse_float binary64 text)

-- the bytes of the Float nearest to what a text writes
abbrev pub single_in : List ℕ → Option (List ℕ)
single_in text = option_map single_bytes (parse_float binary32 text)

-- a Double that is read again: one NaN for each
abbrev pub double_again : List ℕ → List ℕ
double_again bytes =
    if nan_bits binary64 (from_le_bytes w64 bytes) then to_le_bytes w64 9_221_120_237_041_090_560
    else bytes

-- a Float that is read again: one NaN for each
abbrev pub single_again : List ℕ → List ℕ
single_again bytes =
    if nan_bits binary32 (from_le_bytes w32 bytes) then to_le_bytes w32 2_143_289_344 else bytes
