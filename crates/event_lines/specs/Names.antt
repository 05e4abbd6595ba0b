-- How a user's name is written in a line.
use Rattle.std.specs.Prelude.{ℕ, ◌==◌, ◌||◌, Bool, false, List, [], ◌∷◌, ◌++◌, if◌then◌else◌}
use Rattle.std.specs.Char.{encode_utf8, is_control}
use Rattle.std.specs.Fmt.{digits}
use Rattle.std.specs.Int.{is_in_range}
use Rattle.std.specs.List.{flat_map}
use Rattle.std.specs.Str.{chars}

-- the character would break a line or steer what shows it: a control character, a separator of
-- lines or paragraphs (U+2028, U+2029), or one that turns the direction of text (Bidi_Control)
abbrev pub is_steering : ℕ → Bool
is_steering c =
    is_control c || c == 0x61C || is_in_range 0x200E 0x200F c || is_in_range 0x2028 0x202E c
    || is_in_range 0x2066 0x2069 c

-- a backslash in front of a double quote and of a backslash
abbrev pub guard_of : ℕ → List ℕ
guard_of c = if c == 34 || c == 92 then 92 ∷ [] else []

-- a character of a name: one that steers by its code in hex, as \u{1b}, any other as it is
abbrev pub character_text : ℕ → List ℕ
character_text c =
    if is_steering c then 92 ∷ 117 ∷ 123 ∷ digits 16 false c ++ 125 ∷ []
    else guard_of c ++ encode_utf8 c

-- a name in double quotes
abbrev pub quoted_name : List ℕ → List ℕ
quoted_name name = 34 ∷ flat_map character_text (chars name) ++ 34 ∷ []
