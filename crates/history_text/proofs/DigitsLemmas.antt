-- What digits write, and that what is written is read.
use Rattle.std.proofs.Common.{◌≡◌, ℕ, zero, suc, ◌+◌, ◌-◌, ◌*◌, ◌/◌, ◌%◌, ◌^◌, ◌<◌, ◌≤◌, List, [], ◌∷◌, ◌++◌, length, Some, None, Result, Ok, Bool, true, false, cond, IfSome, ◌&&◌, refl, sym, ap, subst, ◌∙◌, arith, append_assoc, append-nil}
use Rattle.std.specs.Char.{is_ascii_digit, digit_value}
use Rattle.std.specs.List.{list_all}
use Rattle.std.specs.Str.{all_ascii_digits}
use Rattle.std.specs.Str.Parse.{AllDigits, digits_value, ParsesUnsigned}
use Rattle.std.proofs.lemmas.Str.Parse.{IsNumeralModel, numerals_by_value, tells_all_ascii_digits, parse_gives}
use Rattle.std.proofs.Math.Nat.{pow-le-pow_right, pow-succ', mul_assoc}
use Rattle.std.proofs.lemmas.Int.Digits.{digits_value-lt, digits_value_push, digits_push}
use Rattle.std.proofs.lemmas.Str.{digit_value_digit}
use Rattle.history_text.specs.Digits.{digits_in, last_digits}

-- one more digit than so many
pub last_digits_step : (count value : ℕ) → 0 < count
    → last_digits count value
    ≡ last_digits (count - 1) (value / 10) ++ (48 + value % 10) ∷ []
last_digits_step zero value some = absurd (omega arith)
last_digits_step (suc count) value some =
    let back : suc count - 1 ≡ count = omega arith in rw back refl

-- appended so many digits less one, and the last
pub last_digits_put : (count value : ℕ) (old : List ℕ) → 0 < count
    → (old ++ last_digits (count - 1) (value / 10)) ++ (48 + value % 10) ∷ []
    ≡ old ++ last_digits count value
last_digits_put count value old some =
    append_assoc old _ _ ∙ ap (λ l. old ++ l) (sym (last_digits_step count value some))

-- std's word for "all are digits" is the one here
pub all_is : (text : List ℕ) → all_ascii_digits text ≡ list_all is_ascii_digit text
all_is [] = refl
all_is (c ∷ cs) = ap (λ b. is_ascii_digit c && b) (all_is cs)

abbrev pub model : IsNumeralModel (λ ds. all_ascii_digits ds ≡ true) (digits_value 10)
model = numerals_by_value _ tells_all_ascii_digits

-- digits have only digits
pub all_digits : (text : List ℕ) → list_all is_ascii_digit text ≡ true → AllDigits 10 text
all_digits text all = model.to text (all_is text ∙ all)

-- digits write a number below a power of ten
pub below : (text : List ℕ) → list_all is_ascii_digit text ≡ true
    → digits_value 10 text < 10 ^ length text
below text all = digits_value-lt 10 text (all_digits text all)

-- up to 19 digits are parsed
pub parsed : {E : Type 0} (text : List ℕ) (r : Result ℕ E)
    → list_all is_ascii_digit text ≡ true → 1 ≤ length text → length text ≤ 19
    → ParsesUnsigned 64 10 text r → r ≡ Ok (digits_value 10 text)
parsed text r all some few h =
    parse_gives model 64 text r h (all_is text ∙ all) some (fits _ (below text all) few)
  where
    fits : (n : ℕ) → n < 10 ^ length text → length text ≤ 19 → n < 2 ^ 64
    fits n lt le = omega (arith, pow-le-pow_right {n = 10} (omega arith) le)

below_where : (text : List ℕ) (b : Bool) → list_all is_ascii_digit text ≡ b
    → IfSome (cond b (Some (digits_value 10 text)) None) (λ n. n < 10 ^ length text)
below_where text true e = below text e
below_where text false e = tt

-- what is read is below a power of ten
pub read_below : (text : List ℕ) → IfSome (digits_in text) (λ n. n < 10 ^ length text)
read_below text = below_where text _ refl

-- ---- what is written is read

-- the letter of a digit
digit_value_of : (k : ℕ) → k < 10 → digit_value (48 + k) ≡ k
digit_value_of k lt = omega (arith, digit_value_digit (48 + k) (omega arith))

-- digits behind digits are digits
pub last_all : (front : List ℕ) (count value : ℕ) → AllDigits 10 front
    → AllDigits 10 (front ++ last_digits count value)
last_all front zero value all = subst (AllDigits 10) (sym (append-nil front)) all
last_all front (suc count) value all =
    subst (AllDigits 10) (append_assoc front (last_digits count (value / 10)) _)
    (digits_push 10 (front ++ last_digits count (value / 10)) (48 + value % 10)
    (last_all front count (value / 10) all)
    (omega (arith, digit_value_of (value % 10) (omega arith))))

-- what digits behind digits write
pub last_value : (front : List ℕ) (count value : ℕ) → value < 10 ^ count
    → digits_value 10 (front ++ last_digits count value)
    ≡ digits_value 10 front * 10 ^ count + value
last_value front zero value lt =
    ap (digits_value 10) (append-nil front) ∙ omega (arith, lt)
last_value front (suc count) value lt =
    let tenth : value / 10 < 10 ^ count = omega (arith, lt, pow-succ' 10 count) in
    let before = last_value front count (value / 10) tenth in
    let digit = digit_value_of (value % 10) (omega arith) in
    let v = digits_value 10 front in
    let ten : 10 ^ suc count ≡ 10 ^ count * 10 = omega (arith, pow-succ' 10 count) in
    let times : v * 10 ^ suc count ≡ v * 10 ^ count * 10 =
    ap (λ p. v * p) ten ∙ sym (mul_assoc v (10 ^ count) 10) in
    ap (digits_value 10) (sym (append_assoc front (last_digits count (value / 10)) _))
    ∙ digits_value_push 10 (front ++ last_digits count (value / 10)) (48 + value % 10)
    ∙ omega (arith, before, digit, times)

-- only digits are digits
pub are_digits : (text : List ℕ) → AllDigits 10 text → list_all is_ascii_digit text ≡ true
are_digits text all = sym (all_is text) ∙ model.from text all

-- digits behind digits are read
pub read_more : (front : List ℕ) (count value : ℕ) → AllDigits 10 front → value < 10 ^ count
    → digits_in (front ++ last_digits count value)
    ≡ Some (digits_value 10 front * 10 ^ count + value)
read_more front count value all lt =
    ap (λ b. cond b (Some (digits_value 10 (front ++ last_digits count value))) None)
    (are_digits _ (last_all front count value all))
    ∙ ap Some (last_value front count value lt)

-- the digits of a number are read
pub read_digits : (count value : ℕ) → value < 10 ^ count
    → digits_in (last_digits count value) ≡ Some value
read_digits count value lt = read_more [] count value tt lt ∙ ap Some (omega arith)

-- the number that the digits of a number write
pub value_again : (count value : ℕ) → value < 10 ^ count
    → digits_value 10 (last_digits count value) ≡ value
value_again count value lt = last_value [] count value lt ∙ omega arith
