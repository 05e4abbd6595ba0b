-- Decimal digits.
use Rattle.std.specs.Prelude.{ℕ, zero, suc, ◌+◌, ◌/◌, ◌%◌, List, [], ◌∷◌, ◌++◌, Option, Some, None, if◌then◌else◌}
use Rattle.std.specs.Char.{is_ascii_digit}
use Rattle.std.specs.List.{list_all}
use Rattle.std.specs.Str.Parse.{digits_value}

-- the number that a text writes, if all of its letters are decimal digits
abbrev pub digits_in : List ℕ → Option ℕ
digits_in text = if list_all is_ascii_digit text then Some (digits_value 10 text) else None

-- the last decimal digits of a number, so many
abbrev pub last_digits : (count value : ℕ) → List ℕ
last_digits zero value = []
last_digits (suc count) value = last_digits count (value / 10) ++ (48 + value % 10) ∷ []
