-- How a history is shown as a table for people.
use Rattle.std.specs.Prelude.{ℕ, ◌-◌, ◌==◌, ◌||◌, ◌&&◌, nat_lt, nat_le, Bool, List, [], ◌∷◌, ◌++◌, length, filter, replicate, if◌then◌else◌}

-- a byte behind this one as it is shown: what controls a terminal as a question mark, and the
-- second byte of U+0080 to U+009F as that of an inverted one
abbrev pub legible_byte : (before b : ℕ) → ℕ
legible_byte before b =
    if before == 194 && nat_lt b 160 then 191 else if nat_lt b 32 || b == 127 then 63 else b

-- the bytes behind this one as they are shown
abbrev pub legible_after : (before : ℕ) → List ℕ → List ℕ
legible_after before [] = []
legible_after before (b ∷ text) = legible_byte before b ∷ legible_after b text

-- a text as it is shown
abbrev pub legible : List ℕ → List ℕ
legible text = legible_after 0 text

-- the byte begins a character of UTF-8
abbrev pub is_first : ℕ → Bool
is_first b = nat_lt b 128 || nat_le 192 b

-- how many characters a text has
abbrev pub characters : List ℕ → ℕ
characters text = length (filter is_first text)

-- a field in a column of this width: blanks up to it, and two more
abbrev pub cell : (width : ℕ) → List ℕ → List ℕ
cell width text =
    legible text ++ replicate (width - characters (legible text)) 32 ++ 32 ∷ 32 ∷ []

-- the last field of a line
abbrev pub last_cell : List ℕ → List ℕ
last_cell text = legible text ++ 10 ∷ []

-- the fields of a row, but for the node, as a line of the table
abbrev pub table_line : List (List ℕ) → List ℕ
table_line (node ∷ time ∷ value ∷ status ∷ []) = cell 28 time ++ cell 24 value ++ last_cell status
table_line (node ∷ time ∷ value ∷ status ∷ change ∷ changed ∷ user ∷ []) =
    cell 28 time ++ cell 24 value ++ cell 8 status ++ cell 8 change ++ cell 28 changed
    ++ last_cell user
table_line _ = []
