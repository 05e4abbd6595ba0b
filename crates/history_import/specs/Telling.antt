-- What is told of rows: a line of each that was refused, and how many there were.
use Rattle.std.specs.Prelude.{ℕ, ◌+◌, ◌==◌, nat_lt, ◌||◌, Bool, true, false, if◌then◌else◌, List, [], ◌∷◌, ◌++◌, codes}
use Rattle.std.specs.Fmt.{decimal}
use Rattle.counted_io.specs.Bytes.{counted}
use Rattle.ua_binary.specs.declared.codes.Status.{Status}
use Rattle.ua_binary.specs.declared.codes.TheConstants.Status.{GOOD_ENTRY_INSERTED, GOOD_ENTRY_REPLACED, BAD_ENTRY_EXISTS}
use Rattle.history_import.specs.declared.counts.Counts.{Counts}
use Rattle.history_import.specs.declared.row_end.Fate.{Fate}
use Rattle.history_import.specs.declared.row_end.Fate.TheVariants.{Inserted, Replaced, Exists, Refused}
use Rattle.history_import.specs.declared.row_end.RowEnd.{RowEnd}
use Rattle.history_import.specs.declared.row_end.RowEnd.TheVariants.{Answered}
use Rattle.history_import.specs.Words.{end_words, row_line}

-- ---- what became of a row

-- what became of a row that was answered by this status (Part 11, 6.8.2)
abbrev pub fate_by : Status → Fate
fate_by code =
    if code.0 == GOOD_ENTRY_INSERTED.0 then Inserted
    else if code.0 == GOOD_ENTRY_REPLACED.0 then Replaced
    else if code.0 == BAD_ENTRY_EXISTS.0 then Exists else Refused

-- what became of a row
abbrev pub fate_of : RowEnd → Fate
fate_of end = elim end [ Answered code ↦ fate_by code | _ ↦ Refused ]

-- ---- lines

-- a row has a line where it was refused; where a value was live already it has none
abbrev pub is_told : Fate → Bool
is_told fate = elim fate [ Refused ↦ true | _ ↦ false ]

-- the line of a row, if it has one
abbrev pub end_line : (number : ℕ) → RowEnd → List ℕ
end_line number end = if is_told (fate_of end) then row_line number (end_words end) else []

-- the lines of rows, of which the first has this number
abbrev pub lines_from : (number : ℕ) → List RowEnd → List ℕ
lines_from number [] = []
lines_from number (end ∷ ends) = end_line number end ++ lines_from (number + 1) ends

-- ---- counts

-- none
abbrev pub no_rows : Counts
no_rows = record { rows = 0; inserted = 0; replaced = 0; exist = 0; refused = 0 }

-- one more, of which this became; a count stops at 2^64 - 1
abbrev pub with_one : Counts → Fate → Counts
with_one c fate =
    elim fate [
      | Inserted ↦ record c { rows = counted c.rows; inserted = counted c.inserted }
      | Replaced ↦ record c { rows = counted c.rows; replaced = counted c.replaced }
      | Exists ↦ record c { rows = counted c.rows; exist = counted c.exist }
      | Refused ↦ record c { rows = counted c.rows; refused = counted c.refused }
    ]

-- these more
abbrev pub with_all : Counts → List RowEnd → Counts
with_all c [] = c
with_all c (end ∷ ends) = with_all (with_one c (fate_of end)) ends

-- how many rows there were, by what became of them
abbrev pub counts_of : List RowEnd → Counts
counts_of ends = with_all no_rows ends

-- a number of rows in words, nothing for none; later: others stand before it
abbrev pub part_of : (later : Bool) → ℕ → List ℕ → List ℕ
part_of later n word =
    if n == 0 then []
    else (if later then codes ", " else codes ": ") ++ decimal n ++ 32 ∷ word

-- rows, or one row
abbrev pub row_noun : ℕ → List ℕ
row_noun n = if n == 1 then codes " row" else codes " rows"

-- the summary, as: 2016 rows: 2010 inserted, 6 exist
abbrev pub summary_of : Counts → List ℕ
summary_of c =
    decimal c.rows ++ row_noun c.rows
    ++ part_of false c.inserted (codes "inserted")
    ++ part_of (nat_lt 0 c.inserted) c.replaced (codes "replaced")
    ++ part_of (nat_lt 0 c.inserted || nat_lt 0 c.replaced) c.exist (codes "exist")
    ++ part_of (nat_lt 0 c.inserted || nat_lt 0 c.replaced || nat_lt 0 c.exist) c.refused
    (codes "refused") ++ 10 ∷ []
