-- Whole numbers as decimal text.
use Rattle.std.specs.Prelude.{ℕ, ◌^◌, ◌&&◌, nat_lt, ℤ, pos, negsuc, Bool, List, length, Option, Some, None, if◌then◌else◌}
use Rattle.std.specs.Char.{is_ascii_digit}
use Rattle.std.specs.List.{list_all}
use Rattle.std.specs.Str.Parse.{without_leading_sign, signed_digits_value, without_leading_plus, digits_value}

-- one decimal digit or more, and nothing else
abbrev pub is_numeral : List ℕ → Bool
is_numeral text = nat_lt 0 (length text) && list_all is_ascii_digit text

-- a number is from -half to half - 1
abbrev pub is_within : (half : ℕ) → ℤ → Bool
is_within half z = elim z [ pos n ↦ nat_lt n half | negsuc n ↦ nat_lt n half ]

-- the number from -half to half - 1 that a text writes: digits, perhaps behind a sign
abbrev pub signed_in : (half : ℕ) → List ℕ → Option ℤ
signed_in half text =
    let z = signed_digits_value 10 text in
    if is_numeral (without_leading_sign text) && is_within half z then Some z else None

-- the number of so many bits that a text writes: digits, perhaps behind a plus
abbrev pub unsigned_in : (bits : ℕ) → List ℕ → Option ℕ
unsigned_in bits text =
    let n = digits_value 10 (without_leading_plus text) in
    if is_numeral (without_leading_plus text) && nat_lt n (2 ^ bits) then Some n else None
