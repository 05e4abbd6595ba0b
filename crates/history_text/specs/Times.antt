-- How a moment is written as text and read again.
use Rattle.std.specs.Prelude.{◌≡◌, ℕ, ◌+◌, ◌*◌, ◌/◌, ◌%◌, ◌-◌, ◌^◌, ◌<◌, ◌==◌, ◌&&◌, ◌||◌, nat_lt, nat_le, ℤ, pos, negsuc, ◌+ℤ◌, ◌<ℤ◌, ◌≤ℤ◌, ◌⊎◌, unsigned_abs, List, [], ◌∷◌, ◌++◌, length, take, drop, map, replicate, codes, slice_index, Option, Some, None, Bool, if◌then◌else◌}
use Rattle.std.specs.Fmt.{signed_decimal}
use Rattle.std.specs.Str.{bytes_eq}
use Rattle.jiff_core.specs.Calendar.{days_from_civil, days_in_month}
use Rattle.jiff_core.specs.Date.{epoch_day}
use Rattle.jiff_core.specs.declared.civil.date.Date.{Date}
use Rattle.history_text.specs.Digits.{digits_in, last_digits}
use Rattle.history_text.specs.Numbers.{signed_in}
use Rattle.history_text.specs.declared.times.Time.{Time}

infixl 10 ◌>>=◌
-- the second step from what the first one gave, if it gave something
abbrev pub ◌>>=◌ : {A B : Type 0} → Option A → (A → Option B) → Option B
(Some x) >>= f = f x
None >>= f = None

-- ---- the calendar, from 1601-01-01 to 9999-12-31

-- the steps of 100 ns of a day
abbrev pub day_ticks : ℕ
day_ticks = 864_000_000_000

-- the steps from 1601-01-01 to the end of 9999-12-31: so many days
abbrev pub calendar_ticks : ℕ
calendar_ticks = 3_067_671 * day_ticks

-- the days from 1601-01-01 to 1970-01-01
abbrev pub days_to_1970 : ℕ
days_to_1970 = 134_774

-- the days from 1601-01-01 to a day that is told by those from 1970-01-01, if it isn't before
abbrev pub since_1601 : ℤ → Option ℕ
since_1601 day = elim (day +ℤ pos days_to_1970) [ pos n ↦ Some n | negsuc n ↦ None ]

-- the calendar has this day
abbrev pub is_date : (year month day : ℕ) → Bool
is_date year month day =
    nat_le 1 month && nat_le month 12 && nat_le 1 day && nat_le day (days_in_month (pos year) month)

-- the days from 1601-01-01 to a date, where the calendar has it and it isn't before
abbrev pub days_to : (year month day : ℕ) → Option ℕ
days_to year month day =
    if is_date year month day then since_1601 (days_from_civil (pos year) month day) else None

-- the steps of 100 ns from midnight to a second, where the clock shows it
abbrev pub clock_ticks : (hour minute second : ℕ) → Option ℕ
clock_ticks hour minute second =
    if nat_lt hour 24 && nat_lt minute 60 && nat_lt second 60
    then Some (((hour * 60 + minute) * 60 + second) * 10_000_000) else None

-- ---- reading

-- the number that so many digits write, at this place of a text
abbrev pub numeral_at : (place count : ℕ) → List ℕ → Option ℕ
numeral_at place count text = digits_in (take count (drop place text))

-- the signs between the numbers of ....-..-..T..:..:..
abbrev pub has_signs : List ℕ → Bool
has_signs text =
    bytes_eq (map (slice_index text) (4 ∷ 7 ∷ 10 ∷ 13 ∷ 16 ∷ [])) (codes "--T::")

-- the days from 1601-01-01 to the date that a text begins by
abbrev pub days_at : List ℕ → Option ℕ
days_at text = do
  year ← numeral_at 0 4 text
  month ← numeral_at 5 2 text
  day ← numeral_at 8 2 text
  days_to year month day

-- the steps from midnight to the second that a text says behind its date
abbrev pub clock_at : List ℕ → Option ℕ
clock_at text = do
  hour ← numeral_at 11 2 text
  minute ← numeral_at 14 2 text
  second ← numeral_at 17 2 text
  clock_ticks hour minute second

-- digits that may stand behind a point: 1 to 7, or 11
abbrev pub is_fraction_length : ℕ → Bool
is_fraction_length count = nat_le 1 count && nat_le count 7 || count == 11

-- the steps of 10 ps that digits behind a point say
abbrev pub fraction_in : List ℕ → Option ℕ
fraction_in digits =
    if is_fraction_length (length digits) then digits_in
    (digits ++ replicate (11 - length digits) 48)
    else None

-- the steps of 10 ps that the end of a text says: a Z alone, or a point, digits and a Z
abbrev pub ending_in : List ℕ → Option ℕ
ending_in text =
    if bytes_eq text (codes "Z") then Some 0
    else if slice_index text 0 == 46 && slice_index text (length text - 1) == 90
    then fraction_in (take (length text - 2) (drop 1 text))
    else None

-- so many steps of 100 ns behind the start of a day, and of 10 ps behind that
abbrev pub moment_of : (days ticks tens : ℕ) → Time
moment_of days ticks tens =
    record { ticks = pos (days * day_ticks + ticks + tens / 10_000); pico = tens % 10_000 }

-- the moment that a date and a time of day say, as 2026-03-01T12:00:00.5Z
abbrev pub calendar_in : List ℕ → Option Time
calendar_in text =
    if nat_le 20 (length text) && has_signs text then (do
      days ← days_at text
      ticks ← clock_at text
      tens ← ending_in (drop 19 text)
      Some (moment_of days ticks tens))
    else None

-- a text ends by a plus and four letters
abbrev pub ends_in_pico : List ℕ → Bool
ends_in_pico text = nat_le 5 (length text) && slice_index text (length text - 5) == 43

-- the moment that a number of steps says, and perhaps a plus and four digits behind it
abbrev pub steps_in : List ℕ → Option Time
steps_in text =
    if ends_in_pico text then (do
      ticks ← signed_in (2 ^ 63) (take (length text - 5) text)
      pico ← numeral_at (length text - 4) 4 text
      Some (record { ticks = ticks; pico = pico }))
    else (signed_in (2 ^ 63) text >>= λ ticks. Some (record { ticks = ticks; pico = 0 }))

-- the moment that a text says: behind an at sign its steps, else a date
abbrev pub time_in : List ℕ → Option Time
time_in text = if slice_index text 0 == 64 then steps_in (drop 1 text) else calendar_in text

-- ---- writing

-- a date: 2026-03-01
abbrev pub date_text : Date → List ℕ
date_text date =
    last_digits 4 (unsigned_abs date.year) ++ 45 ∷ last_digits 2 date.month
    ++ 45 ∷ last_digits 2 date.day

-- a second of a day, behind a T: 12:00:00
abbrev pub clock_text : (second : ℕ) → List ℕ
clock_text second =
    84 ∷ last_digits 2 (second / 3600) ++ 58 ∷ last_digits 2 (second / 60 % 60)
    ++ 58 ∷ last_digits 2 (second % 60)

-- what is behind the second: 7 digits, or 11 where there are picoseconds
abbrev pub ending_text : (ticks pico : ℕ) → List ℕ
ending_text ticks pico =
    46 ∷ last_digits 7 ticks ++ (if pico == 0 then [] else last_digits 4 pico) ++ codes "Z"

-- the date of a day, and the steps and picoseconds behind its start
abbrev pub calendar_text : Date → (ticks pico : ℕ) → List ℕ
calendar_text date ticks pico =
    date_text date ++ clock_text (ticks / 10_000_000) ++ ending_text (ticks % 10_000_000) pico

-- an at sign, the steps, and a plus and four digits where there are picoseconds
abbrev pub steps_text : Time → List ℕ
steps_text time =
    64 ∷ signed_decimal time.ticks
    ++ (if time.pico == 0 then [] else 43 ∷ last_digits 4 time.pico)

-- a moment of the calendar is written by its date, and the time of that day
abbrev pub IsCalendarText : (ticks pico : ℕ) → List ℕ → Type 0
IsCalendarText ticks pico text = (date : Date)
    × (epoch_day date +ℤ pos days_to_1970 ≡ pos (ticks / day_ticks))
    × (text ≡ calendar_text date (ticks % day_ticks) pico)

-- the calendar doesn't say the moment: it is before 1601, or after 9999
abbrev pub IsBeyond : Time → Type 0
IsBeyond time = (time.ticks <ℤ pos 0) ⊎ (pos calendar_ticks ≤ℤ time.ticks)

-- from 1601 to 9999 a moment is written by its date, else by its steps
abbrev pub IsTimeText : Time → List ℕ → Type 0
IsTimeText time text =
    ((n : ℕ) × (time.ticks ≡ pos n) × (n < calendar_ticks) × IsCalendarText n time.pico text)
    ⊎ (IsBeyond time × (text ≡ steps_text time))
