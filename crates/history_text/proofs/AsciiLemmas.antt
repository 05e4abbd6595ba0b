-- ASCII: what is written for a moment and for a Guid, so a JSON string can hold it.
use Rattle.std.proofs.Common.{◌≡◌, ℕ, zero, suc, ◌/◌, ◌%◌, ◌<◌, ◌^◌, ◌==◌, ℤ, pos, negsuc, List, [], ◌∷◌, ◌++◌, take, drop, Bool, true, false, if◌then◌else◌, refl, sym, subst, arith, inl, inr}
use Rattle.std.specs.Prelude.{codes, nat_lt, unsigned_abs}
use Rattle.std.specs.Fmt.{decimal, signed_decimal}
use Rattle.std.specs.Int.{w16, w32, w64, to_be_bytes}
use Rattle.std.specs.Int.RustNames.{FitsSigned}
use Rattle.std.specs.Str.{IsAscii}
use Rattle.std.specs.List.{list_all}
use Rattle.std.proofs.lemmas.Bool.{ltb-true}
use Rattle.std.proofs.lemmas.Fmt.{IsAscii-decimal, IsAscii-from_digits}
use Rattle.std.proofs.lemmas.Str.{IsAscii-append}
use Rattle.std.proofs.lemmas.Str.Ascii.{IsAscii-nil, IsAscii-cons}
use Rattle.jiff_core.specs.declared.civil.date.Date.{Date}
use Rattle.hex.specs.Hex.{encode_lower, lower_digits}
use Rattle.hex.proofs.HexLemmas.{IsAscii-encode_with}
use Rattle.ua_binary.specs.declared.values.Guid.{Guid}
use Rattle.history_text.specs.Digits.{last_digits}
use Rattle.history_text.specs.Guids.{guid_text}
use Rattle.history_text.specs.Times.{date_text, clock_text, ending_text, calendar_text, steps_text, day_ticks, IsTimeText}
use Rattle.history_text.specs.declared.times.Time.{Time}
use Rattle.history_text.proofs.DigitsLemmas.{last_all}
use Rattle.history_text.proofs.NumbersLemmas.{both_hold}

-- the last digits of a number
digits : (count value : ℕ) → IsAscii (last_digits count value)
digits count value = IsAscii-from_digits _ (last_all [] count value tt)

-- a number in decimal, perhaps behind a minus
signed : (z : ℤ) → FitsSigned w64 z → IsAscii (signed_decimal z)
signed (pos n) fits = IsAscii-decimal n (omega (arith, fits.sfits))
signed (negsuc n) fits =
    IsAscii-cons 45 _ (omega arith) (IsAscii-decimal (suc n) (omega (arith, fits.sfits)))

-- one text or the other
chosen : (b : Bool) (xs ys : List ℕ) → IsAscii xs → IsAscii ys → IsAscii (if b then xs else ys)
chosen true xs ys h k = h
chosen false xs ys h k = k

-- a letter behind letters, and others behind it
behind : (front : List ℕ) (letter : ℕ) (rest : List ℕ) → IsAscii front → letter < 128
    → IsAscii rest → IsAscii (front ++ letter ∷ rest)
behind front letter rest h low k =
    IsAscii-append front (letter ∷ rest) h (IsAscii-cons letter rest low k)

-- a date
dated : (date : Date) → IsAscii (date_text date)
dated date =
    let year = last_digits 4 (unsigned_abs date.year) in
    let month = last_digits 2 date.month in
    behind (year ++ 45 ∷ month) 45 (last_digits 2 date.day)
    (behind year 45 month (digits 4 (unsigned_abs date.year)) (omega arith) (digits 2 date.month))
    (omega arith) (digits 2 date.day)

-- a second of a day
clock : (second : ℕ) → IsAscii (clock_text second)
clock second =
    let hour = last_digits 2 (second / 3600) in
    let minute = last_digits 2 (second / 60 % 60) in
    behind (84 ∷ hour ++ 58 ∷ minute) 58 (last_digits 2 (second % 60))
    (behind (84 ∷ hour) 58 minute
    (IsAscii-cons 84 hour (omega arith) (digits 2 (second / 3600))) (omega arith)
    (digits 2 (second / 60 % 60))) (omega arith) (digits 2 (second % 60))

-- what is behind the second
ending : (ticks pico : ℕ) → IsAscii (ending_text ticks pico)
ending ticks pico =
    let front = 46 ∷ last_digits 7 ticks in
    let more = if pico == 0 then [] else last_digits 4 pico in
    IsAscii-append (front ++ more) (codes "Z")
    (IsAscii-append front more
    (IsAscii-cons 46 (last_digits 7 ticks) (omega arith) (digits 7 ticks))
    (chosen (pico == 0) [] (last_digits 4 pico) IsAscii-nil (digits 4 pico)))
    (IsAscii-cons 90 [] (omega arith) IsAscii-nil)

-- steps behind an at sign
steps : (time : Time) → FitsSigned w64 time.ticks → IsAscii (steps_text time)
steps time fits =
    let pico = 43 ∷ last_digits 4 time.pico in
    IsAscii-append (64 ∷ signed_decimal time.ticks) (if time.pico == 0 then [] else pico)
    (IsAscii-cons 64 (signed_decimal time.ticks) (omega arith) (signed time.ticks fits))
    (chosen (time.pico == 0) [] pico IsAscii-nil
    (IsAscii-cons 43 (last_digits 4 time.pico) (omega arith) (digits 4 time.pico)))

-- a moment
pub moment_ascii : (time : Time) (text : List ℕ) → FitsSigned w64 time.ticks
    → IsTimeText time text → IsAscii text
moment_ascii time text fits h = elim h [
  | inl day ↦
      let of_day = day.0 % day_ticks in
      subst IsAscii (sym day.3.2)
      (IsAscii-append (date_text day.3.0 ++ clock_text (of_day / 10_000_000))
      (ending_text (of_day % 10_000_000) time.pico)
      (IsAscii-append (date_text day.3.0) (clock_text (of_day / 10_000_000)) (dated day.3.0)
      (clock (of_day / 10_000_000))) (ending (of_day % 10_000_000) time.pico))
  | inr far ↦ subst IsAscii (sym far.1) (steps time fits)
]

-- letters that are tested one by one
letters : (bs : List ℕ) → list_all (λ b. nat_lt b 128) bs ≡ true → IsAscii bs
letters [] h = IsAscii-nil
letters (b ∷ bs) h = let p = both_hold (nat_lt b 128) (list_all (λ b. nat_lt b 128) bs) h in
    IsAscii-cons b bs (ltb-true b 128 p.0) (letters bs p.1)

-- bytes in hex
hex : (bytes : List ℕ) → IsAscii (encode_lower bytes)
hex bytes = IsAscii-encode_with lower_digits bytes (letters lower_digits refl)

-- a Guid
pub guid_ascii : (guid : Guid) → IsAscii (guid_text guid)
guid_ascii guid =
    let first = to_be_bytes w32 guid.first in
    let second = to_be_bytes w16 guid.second in
    let third = to_be_bytes w16 guid.third in
    let two = encode_lower first ++ 45 ∷ encode_lower second in
    let three = two ++ 45 ∷ encode_lower third in
    let four = three ++ 45 ∷ encode_lower (take 2 guid.last) in
    behind four 45 (encode_lower (drop 2 guid.last))
    (behind three 45 (encode_lower (take 2 guid.last))
    (behind two 45 (encode_lower third)
    (behind (encode_lower first) 45 (encode_lower second) (hex first) (omega arith) (hex second))
    (omega arith) (hex third)) (omega arith) (hex (take 2 guid.last)))
    (omega arith) (hex (drop 2 guid.last))
