-- Whole numbers are read as they are defined to be, and what is written is read.
use Rattle.std.proofs.Common.{◌≡◌, ℕ, suc, ◌^◌, ◌<◌, ◌≤◌, nat_lt, ℤ, pos, negsuc, neg_ℤ, unsigned_abs, true≢false, List, ◌∷◌, length, Some, None, Result, Ok, Err, Bool, true, false, cond, IfSome, OkIff, ◌&&◌, refl, sym, ap, ◌∙◌, arith}
use Rattle.std.specs.Int.{Width, w8, w16, w32, w64}
use Rattle.std.specs.Int.RustNames.{FitsSigned}
use Rattle.std.specs.Result.{result_ok}
use Rattle.std.specs.Str.Parse.{IsNumeral, digits_value, ParsesUnsigned, ParsesSigned, without_leading_sign, without_leading_plus, signed_digits_value}
use Rattle.std.proofs.lemmas.Bool.{ltb-true, lt-ltb}
use Rattle.std.specs.Fmt.{decimal, signed_decimal}
use Rattle.std.proofs.lemmas.Fmt.{decimal_is_IsNumeral_wide, digits_decimal, digits_value-decimal, decimal_nonempty}
use Rattle.std.proofs.Math.Nat.{pow-le-pow_right}
use Rattle.std.proofs.lemmas.Result.{Ok-from_Ok_iff}
use Rattle.std.proofs.lemmas.Str.Parse.{numerals_by_value, tells_digits, parse_signed_digits, parse_signed_minus, parse_gives}
use mir.Val.{hbits}
use Rattle.history_text.specs.Numbers.{is_numeral, is_within, signed_in, unsigned_in}
use Rattle.history_text.proofs.DigitsLemmas.{model, all_digits, all_is}

-- a result is what a test and a value say
decided : {E A : Type 0} (P : Type 0) (test : Bool) (v : A) (r : Result A E)
    → (P → test ≡ true) → (test ≡ true → P) → OkIff r P v
    → result_ok r ≡ cond test (Some v) None
decided P test v (Ok x) to from h = rw (to h.0) (ap Some h.1)
decided P true v (Err e) to from h = absurd (h (from refl))
decided P false v (Err e) to from h = refl

pub both_hold : (a b : Bool) → (a && b) ≡ true → (a ≡ true) × (b ≡ true)
both_hold true b e = (refl, e)
both_hold false b e = absurd cc

both : (a b : Bool) → a ≡ true → b ≡ true → (a && b) ≡ true
both a b p q = rw (p, q) refl

numeral_is : (text : List ℕ) → IsNumeral 10 text → is_numeral text ≡ true
numeral_is text h =
    both _ _ (lt-ltb 0 (length text) h.0) (sym (all_is text) ∙ model.from text h.1)

is_numeral_so : (text : List ℕ) → is_numeral text ≡ true → IsNumeral 10 text
is_numeral_so text e =
    let h = both_hold _ _ e in (ltb-true 0 (length text) h.0, all_digits text h.1)

within_is : (w : Width) (half : ℕ) → half ≡ 2 ^ hbits w → (z : ℤ) → FitsSigned w z
    → is_within half z ≡ true
within_is w half e (pos n) fits = lt-ltb n half (omega (arith, e, fits.sfits))
within_is w half e (negsuc n) fits = lt-ltb n half (omega (arith, e, fits.sfits))

is_within_so : (w : Width) (half : ℕ) → half ≡ 2 ^ hbits w → (z : ℤ)
    → is_within half z ≡ true → FitsSigned w z
is_within_so w half e (pos n) h = record { sfits = omega (arith, e, ltb-true n half h) }
is_within_so w half e (negsuc n) h = record { sfits = omega (arith, e, ltb-true n half h) }

-- a parsed number of a signed type is the one that the text writes
pub parsed_signed : {E : Type 0} (w : Width) (half : ℕ) → half ≡ 2 ^ hbits w
    → (text : List ℕ) (r : Result ℤ E) → ParsesSigned w 10 text r
    → result_ok r ≡ signed_in half text
parsed_signed w half e text r h =
    decided _ _ (signed_digits_value 10 text) r
    (λ p. both _ _ (numeral_is _ p.0) (within_is w half e _ p.1))
    (λ t. let s = both_hold _ _ t in (is_numeral_so _ s.0, is_within_so w half e _ s.1)) h

pub parsed_unsigned : {E : Type 0} (bits : ℕ) (text : List ℕ) (r : Result ℕ E)
    → ParsesUnsigned bits 10 text r → result_ok r ≡ unsigned_in bits text
parsed_unsigned bits text r h =
    decided _ _ (digits_value 10 (without_leading_plus text)) r
    (λ p. both _ _ (numeral_is _ p.0) (lt-ltb _ _ p.1))
    (λ t. let s = both_hold _ _ t in (is_numeral_so _ s.0, ltb-true _ _ s.1)) h

pub parsed_w64 : {E : Type 0} (text : List ℕ) (r : Result ℤ E) → ParsesSigned w64 10 text r
    → result_ok r ≡ signed_in (2 ^ 63) text
parsed_w64 text r = parsed_signed w64 (2 ^ 63) refl text r

-- what is read fits its type
fits_where : (w : Width) (half : ℕ) → half ≡ 2 ^ hbits w → (z : ℤ) (a b : Bool)
    → is_within half z ≡ b → IfSome (cond (a && b) (Some z) None) (λ z. FitsSigned w z)
fits_where w half e z true true h = is_within_so w half e z h
fits_where w half e z true false h = tt
fits_where w half e z false b h = tt

pub read_fits_w64 : (text : List ℕ) → IfSome (signed_in (2 ^ 63) text) (λ z. FitsSigned w64 z)
read_fits_w64 text = fits_where w64 (2 ^ 63) refl (signed_digits_value 10 text) _ _ refl

-- ---- what is written is read

-- what a test and a value say is a result
undecided : {A : Type 0} (P : Type 0) (test : Bool) (v : A) → (P → test ≡ true)
    → (test ≡ true → P) → OkIff {E = Unit {0}} (cond test (Ok v) (Err tt)) P v
undecided P true v to from = (from refl, refl)
undecided P false v to from = λ p. absurd (true≢false (sym (to p)))

-- an optional value from such a result
optional : {A : Type 0} (test : Bool) (v w : A)
    → (let r : Result A (Unit {0}) = cond test (Ok v) (Err tt) in r) ≡ Ok w
    → cond test (Some v) None ≡ Some w
optional true v w e = ap result_ok e
optional false v w e = ap result_ok e

-- a signed number is parsed from its decimal text
parsed_again : {E : Type 0} (w : Width) (z : ℤ) (r : Result ℤ E) → FitsSigned w z
    → unsigned_abs z < 10 ^ 64 → ParsesSigned w 10 (signed_decimal z) r → r ≡ Ok z
parsed_again w (pos n) r fits small h =
    let k = decimal_is_IsNumeral_wide n (omega arith) in
    let read = parse_signed_digits (numerals_by_value _ tells_digits) w (decimal n) r h k.0.1 in
    Ok-from_Ok_iff r _ _ read (k.0.0, omega (arith, k.1, fits.sfits)) ∙ ap (λ m. Ok (pos m)) k.1
parsed_again w (negsuc n) r fits small h =
    let k = decimal_is_IsNumeral_wide (suc n) (omega arith) in
    let read = parse_signed_minus (numerals_by_value _ tells_digits) w (45 ∷ decimal (suc n)) r
    h refl in
    Ok-from_Ok_iff r _ _ read (k.0.1, k.0.0, omega (arith, k.1, fits.sfits))
    ∙ ap (λ m. Ok (neg_ℤ (pos m))) k.1

-- a number of a signed type is read from its decimal text
pub read_signed : (w : Width) (half : ℕ) → half ≡ 2 ^ hbits w → (z : ℤ) → FitsSigned w z
    → unsigned_abs z < 10 ^ 64 → signed_in half (signed_decimal z) ≡ Some z
read_signed w half e z fits small =
    let text = signed_decimal z in
    let v = signed_digits_value 10 text in
    optional (is_numeral (without_leading_sign text) && is_within half v) v z
    (parsed_again w z _ fits small
    (undecided (IsNumeral 10 (without_leading_sign text) × FitsSigned w v)
    (is_numeral (without_leading_sign text) && is_within half v) v
    (λ p. both _ _ (numeral_is _ p.0) (within_is w half e _ p.1))
    (λ t. let s = both_hold _ _ t in (is_numeral_so _ s.0, is_within_so w half e _ s.1))))

pub read_w64 : (z : ℤ) → FitsSigned w64 z → signed_in (2 ^ 63) (signed_decimal z) ≡ Some z
read_w64 (pos n) fits = read_signed w64 (2 ^ 63) refl (pos n) fits (omega (arith, fits.sfits))
read_w64 (negsuc n) fits =
    read_signed w64 (2 ^ 63) refl (negsuc n) fits (omega (arith, fits.sfits))

pub parsed_w8 : {E : Type 0} (text : List ℕ) (r : Result ℤ E) → ParsesSigned w8 10 text r
    → result_ok r ≡ signed_in (2 ^ 7) text
parsed_w8 text r = parsed_signed w8 (2 ^ 7) refl text r

pub parsed_w16 : {E : Type 0} (text : List ℕ) (r : Result ℤ E) → ParsesSigned w16 10 text r
    → result_ok r ≡ signed_in (2 ^ 15) text
parsed_w16 text r = parsed_signed w16 (2 ^ 15) refl text r

pub parsed_w32 : {E : Type 0} (text : List ℕ) (r : Result ℤ E) → ParsesSigned w32 10 text r
    → result_ok r ≡ signed_in (2 ^ 31) text
parsed_w32 text r = parsed_signed w32 (2 ^ 31) refl text r

-- a number of few bits has few digits
small_signed : (w : Width) (z : ℤ) → hbits w ≤ 63 → FitsSigned w z → unsigned_abs z < 10 ^ 64
small_signed w (pos n) few fits =
    omega (arith, fits.sfits, pow-le-pow_right {n = 2} (omega arith) few)
small_signed w (negsuc n) few fits =
    omega (arith, fits.sfits, pow-le-pow_right {n = 2} (omega arith) few)

pub read_w8 : (z : ℤ) → FitsSigned w8 z → signed_in (2 ^ 7) (signed_decimal z) ≡ Some z
read_w8 z fits = read_signed w8 (2 ^ 7) refl z fits (small_signed w8 z (omega arith) fits)

pub read_w16 : (z : ℤ) → FitsSigned w16 z → signed_in (2 ^ 15) (signed_decimal z) ≡ Some z
read_w16 z fits = read_signed w16 (2 ^ 15) refl z fits (small_signed w16 z (omega arith) fits)

pub read_w32 : (z : ℤ) → FitsSigned w32 z → signed_in (2 ^ 31) (signed_decimal z) ≡ Some z
read_w32 z fits = read_signed w32 (2 ^ 31) refl z fits (small_signed w32 z (omega arith) fits)

-- an unsigned number is read from its decimal text
pub read_unsigned : (bits n : ℕ) → bits ≤ 64 → n < 2 ^ bits
    → unsigned_in bits (decimal n) ≡ Some n
read_unsigned bits n few lt =
    let text = decimal n in
    let small : n < 2 ^ 64 = omega (arith, lt, pow-le-pow_right {n = 2} (omega arith) few) in
    let value = digits_value-decimal model n small in
    let v = digits_value 10 (without_leading_plus text) in
    optional (is_numeral (without_leading_plus text) && nat_lt v (2 ^ bits)) v n
    (parse_gives model bits text _
    (undecided (IsNumeral 10 (without_leading_plus text) × (v < 2 ^ bits))
    (is_numeral (without_leading_plus text) && nat_lt v (2 ^ bits)) v
    (λ p. both _ _ (numeral_is _ p.0) (lt-ltb _ _ p.1))
    (λ t. let s = both_hold _ _ t in (is_numeral_so _ s.0, ltb-true _ _ s.1)))
    (digits_decimal model n small) (decimal_nonempty n small) (omega (arith, value))
    ∙ ap Ok value)

-- a number of 8 bits is one of 64
pub wide_w8 : (z : ℤ) → FitsSigned w8 z → FitsSigned w64 z
wide_w8 (pos n) fits = record { sfits = omega (arith, fits.sfits) }
wide_w8 (negsuc n) fits = record { sfits = omega (arith, fits.sfits) }

-- a number of 16 bits is one of 64
pub wide_w16 : (z : ℤ) → FitsSigned w16 z → FitsSigned w64 z
wide_w16 (pos n) fits = record { sfits = omega (arith, fits.sfits) }
wide_w16 (negsuc n) fits = record { sfits = omega (arith, fits.sfits) }

-- a number of 32 bits is one of 64
pub wide_w32 : (z : ℤ) → FitsSigned w32 z → FitsSigned w64 z
wide_w32 (pos n) fits = record { sfits = omega (arith, fits.sfits) }
wide_w32 (negsuc n) fits = record { sfits = omega (arith, fits.sfits) }
