-- Moments: what is written is read.
use Rattle.std.proofs.Common.{◌≡◌, ℕ, zero, suc, ◌+◌, ◌-◌, ◌*◌, ◌/◌, ◌%◌, ◌^◌, ◌<◌, ◌≤◌, ℤ, pos, negsuc, ◌+ℤ◌, List, [], ◌∷◌, ◌++◌, length, take, drop, get_or, inl, inr, Option, Some, None, Bool, true, false, cond, ◌&&◌, ◌==◌, leb, refl, sym, ap, subst, ◌∙◌, arith, unsigned_abs}
use Rattle.std.specs.Prelude.{codes}
use Rattle.jiff_core.specs.Calendar.{IsCivilDate, days_from_civil, days_in_month, day_count}
use Rattle.jiff_core.specs.Date.{epoch_day}
use Rattle.jiff_core.specs.declared.civil.date.Date.{Date}
use Rattle.jiff_core.proofs.CalendarLemmas.{days_from_civil-day_count, days_in_month_bounds, day_count-lt_year}
use Rattle.jiff_core.proofs.DateLemmas.{civil}
use Rattle.jiff_core.proofs.MarchLemmas.{day_count-early}
use Rattle.jiff_core.proofs.SignedLemmas.{signed_arith}
use Rattle.std.specs.Fmt.{decimal, signed_decimal}
use Rattle.std.specs.Int.{w64}
use Rattle.std.specs.Int.RustNames.{FitsSigned}
use Rattle.std.proofs.lemmas.Bool.{lt-ltb, le-leb, ne_eqb, eq-eqb, eqb-true, cases_lt}
use Rattle.std.proofs.lemmas.List.{length-append, append-nil}
use Rattle.std.proofs.Math.ListN.{get_or-eq_default}
use Rattle.std.proofs.Math.Seq.{get_or-append_seam, take-append_seam, drop-append-add}
use Rattle.std.proofs.lemmas.Fmt.{decimal_is_IsNumeral_wide}
use Rattle.std.proofs.lemmas.Str.Parse.{numerals_by_value, tells_digits, not_in_digits}
use Rattle.history_text.specs.declared.times.Time.{Time}
use Rattle.history_text.specs.Numbers.{signed_in}
use Rattle.history_text.specs.Digits.{digits_in, last_digits}
use Rattle.history_text.proofs.NumbersLemmas.{read_w64}
use Rattle.history_text.proofs.DigitsLemmas.{read_digits, read_more, value_again, last_all}
use Rattle.history_text.specs.Times.{◌>>=◌, has_signs, numeral_at, since_1601, days_to, days_at, clock_ticks, clock_at, ending_in, moment_of, calendar_in, ends_in_pico, steps_in, time_in, day_ticks, calendar_ticks, days_to_1970, clock_text, ending_text, calendar_text, IsTimeText}

-- how a text of 20 letters or more with its signs is read, whose date and second are read
pub calendar_is : (text : List ℕ) (days ticks : ℕ) → 20 ≤ length text → has_signs text ≡ true
    → days_at text ≡ Some days → clock_at text ≡ Some ticks
    → calendar_in text ≡ (ending_in (drop 19 text) >>= λ tens. Some (moment_of days ticks tens))
calendar_is text days ticks long signs d c =
    tests (leb 20 (length text)) (has_signs text) (days_at text) (clock_at text)
    (le-leb 20 (length text) long) signs d c
  where
    tests : (a b : Bool) (x y : Option ℕ) → a ≡ true → b ≡ true → x ≡ Some days → y ≡ Some ticks
        → cond (a && b) (x >>= λ days. y >>= λ ticks.
        ending_in (drop 19 text) >>= λ tens. Some (moment_of days ticks tens)) None
        ≡ (ending_in (drop 19 text) >>= λ tens. Some (moment_of days ticks tens))
    tests a b x y p q r s = rw (p, q, r, s) refl

-- ---- a moment that is written by its steps

-- no letter of a number is a plus
no_plus : (n i : ℕ) → n < 10 ^ 64 → get_or (decimal n) i 0 ≡ 43 → ⊥
no_plus n i small e = elim (cases_lt i (length (decimal n))) [
  | inl lt ↦ not_in_digits (numerals_by_value _ tells_digits) (decimal n) 43
      (decimal_is_IsNumeral_wide n small).0.1 (λ r. absurd (omega (arith, r))) i lt e
  | inr le ↦ absurd (omega (arith, get_or-eq_default (decimal n) 0 le, e))
]

-- no letter of a signed number is a plus
pub no_plus_signed : (z : ℤ) (i : ℕ) → FitsSigned w64 z → get_or (signed_decimal z) i 0 ≡ 43 → ⊥
no_plus_signed (pos n) i fits e = no_plus n i (omega (arith, fits.sfits)) e
no_plus_signed (negsuc n) zero fits e = absurd (omega (arith, e))
no_plus_signed (negsuc n) (suc i) fits e = no_plus (suc n) i (omega (arith, fits.sfits)) e

test_false : (a : Bool) (x : ℕ) → (x ≡ 43 → ⊥) → (a && x == 43) ≡ false
test_false false x h = refl
test_false true x h = ne_eqb x 43 h

-- steps alone are read
read_steps : (z : ℤ) → FitsSigned w64 z
    → steps_in (signed_decimal z) ≡ Some (record { ticks = z; pico = 0 })
read_steps z fits =
    let text = signed_decimal z in
    let alone : ends_in_pico text ≡ false =
    test_false _ _ (no_plus_signed z (length text - 5) fits) in
    rw (alone, read_w64 z fits) refl

both : (a b : Bool) → a ≡ true → b ≡ true → (a && b) ≡ true
both a b p q = rw (p, q) refl

three_tests : {A : Type 0} (a b c : Bool) (x : Option A) → a ≡ true → b ≡ true → c ≡ true
    → cond (a && b && c) x None ≡ x
three_tests a b c x p q r = rw (p, q, r) refl

four_tests : {A : Type 0} (a b c d : Bool) (x : Option A) → a ≡ true → b ≡ true → c ≡ true
    → d ≡ true → cond (a && b && c && d) x None ≡ x
four_tests a b c d x p q r s = rw (p, q, r, s) refl

two_steps : {A B C : Type 0} (b : Bool) (x : Option A) (y : Option B) (v : A) (w : B)
    (f : A → B → C) (z : Option C) → b ≡ true → x ≡ Some v → y ≡ Some w
    → cond b (x >>= λ v. y >>= λ w. Some (f v w)) z ≡ Some (f v w)
two_steps b x y v w f z p q r = rw (p, q, r) refl

-- steps, a plus and four digits are read
read_pico : (z : ℤ) (p : ℕ) → FitsSigned w64 z → p < 10 ^ 4
    → steps_in (signed_decimal z ++ 43 ∷ last_digits 4 p) ≡ Some (record { ticks = z; pico = p })
read_pico z p fits small =
    let xs = signed_decimal z in
    let text : List ℕ = xs ++ 43 ∷ last_digits 4 p in
    let long : length text ≡ length xs + 5 = length-append xs (43 ∷ last_digits 4 p) in
    let five : length text - 5 ≡ length xs = omega (arith, long) in
    let four : length text - 4 ≡ length xs + 1 = omega (arith, long) in
    let plus : get_or text (length text - 5) 0 ≡ 43 =
    ap (λ k. get_or text k 0) five ∙ get_or-append_seam xs 43 (last_digits 4 p) 0 in
    let ends : ends_in_pico text ≡ true = both (leb 5 (length text)) _
    (le-leb 5 (length text) (omega (arith, long))) (eq-eqb _ 43 plus) in
    let ticks : signed_in (2 ^ 63) (take (length text - 5) text) ≡ Some z =
    ap (λ k. signed_in (2 ^ 63) (take k text)) five
    ∙ ap (signed_in (2 ^ 63)) (take-append_seam xs (43 ∷ last_digits 4 p))
    ∙ read_w64 z fits in
    let pico : numeral_at (length text - 4) 4 text ≡ Some p =
    ap (λ k. numeral_at k 4 text) four
    ∙ ap (λ l. digits_in (take 4 l)) (drop-append-add xs (43 ∷ last_digits 4 p) 1)
    ∙ read_digits 4 p small in
    two_steps (ends_in_pico text) _ _ z p (λ z p. record { ticks = z; pico = p }) _ ends ticks pico

-- what is written by its steps is read
steps_again : (time : Time) (b : Bool) → (time.pico == 0) ≡ b → FitsSigned w64 time.ticks
    → time.pico < 10 ^ 4
    → steps_in (signed_decimal time.ticks ++ cond b [] (43 ∷ last_digits 4 time.pico))
    ≡ Some time
steps_again time true e fits small =
    let none : 0 ≡ time.pico = sym (eqb-true time.pico 0 e) in
    ap steps_in (append-nil (signed_decimal time.ticks)) ∙ read_steps time.ticks fits
    ∙ ap (λ p. Some (record { ticks = time.ticks; pico = p })) none
steps_again time false e fits small = read_pico time.ticks time.pico fits small

-- ---- a moment that is written by its date

first_of_0 : day_count (pos 0) 1 1 ≡ 3_652_425
first_of_0 = day_count-early (pos 0) 9999 1 1 refl (omega arith) (omega arith) (omega arith)

-- no year since 1601 is negative
year_is : (y : ℤ) (m d n : ℕ) → IsCivilDate y m d
    → days_from_civil y m d +ℤ pos days_to_1970 ≡ pos n
    → (pos (unsigned_abs y) ≡ y) × (unsigned_abs y < 10 ^ 4)
year_is (pos k) m d n h e = (refl, omega (arith, signed_arith, h.0))
year_is (negsuc k) m d n h e =
    let before = day_count-lt_year (negsuc k) m d (pos 0) 1 1 h (omega arith)
    (omega (arith, signed_arith)) in
    absurd (omega (arith, signed_arith, first_of_0, days_from_civil-day_count (negsuc k) m d))

-- a date since 1601 is read
days_again : (date : Date) (n : ℕ) → epoch_day date +ℤ pos days_to_1970 ≡ pos n
    → days_to (unsigned_abs date.year) date.month date.day ≡ Some n
days_again date n e =
    let c = civil date in
    let y = year_is date.year date.month date.day n c e in
    let a = le-leb 1 date.month c.1.0 in
    let b = le-leb date.month 12 c.1.1 in
    let f = le-leb 1 date.day c.2.0 in
    let g : leb date.day (days_in_month (pos (unsigned_abs date.year)) date.month) ≡ true =
    subst (λ y. leb date.day (days_in_month y date.month) ≡ true) (sym y.0)
    (le-leb date.day (days_in_month date.year date.month) c.2.1) in
    let since : since_1601 (days_from_civil (pos (unsigned_abs date.year)) date.month date.day)
    ≡ Some n =
    ap (λ y. since_1601 (days_from_civil y date.month date.day)) y.0
    ∙ ap (λ z. elim z as (λ _. Option ℕ) [ pos n ↦ Some n | negsuc n ↦ None ]) e in
    four_tests _ _ _ _ _ a b f g ∙ since

-- a second is read
clock_again : (s : ℕ) → s < 86_400
    → clock_ticks (s / 3600) (s / 60 % 60) (s % 60) ≡ Some (s * 10_000_000)
clock_again s lt =
    let a = lt-ltb (s / 3600) 24 (omega arith) in
    let b = lt-ltb (s / 60 % 60) 60 (omega arith) in
    let c = lt-ltb (s % 60) 60 (omega arith) in
    let whole : ((s / 3600 * 60 + s / 60 % 60) * 60 + s % 60) * 10_000_000 ≡ s * 10_000_000 =
    omega arith in
    three_tests _ _ _ _ a b c ∙ ap Some whole

-- what is behind the second is read
ending_again : (t p : ℕ) (b : Bool) → (p == 0) ≡ b → t < 10 ^ 7 → p < 10 ^ 4
    → ending_in (46 ∷ last_digits 7 t ++ cond b [] (last_digits 4 p) ++ codes "Z")
    ≡ Some (t * 10_000 + p)
ending_again t p true e small less =
    read_more (last_digits 7 t) 4 0 (last_all [] 7 t tt) (omega arith)
    ∙ ap Some (omega (arith, value_again 7 t small, eqb-true p 0 e))
ending_again t p false e small less =
    read_more (last_digits 7 t) 4 p (last_all [] 7 t tt) less
    ∙ ap Some (omega (arith, value_again 7 t small))

three_steps : {A : Type 0} (x y z : Option ℕ) (a b c : ℕ) (f : ℕ → ℕ → ℕ → Option A)
    → x ≡ Some a → y ≡ Some b → z ≡ Some c
    → (x >>= λ a. y >>= λ b. z >>= λ c. f a b c) ≡ f a b c
three_steps x y z a b c f p q r = rw (p, q, r) refl

-- a date, a second and what is behind it are read
calendar_of : (y m d s : ℕ) (ending : List ℕ) (days tens : ℕ) → 1 ≤ length ending
    → y < 10 ^ 4 → m < 10 ^ 2 → d < 10 ^ 2 → s < 86_400 → days_to y m d ≡ Some days
    → ending_in ending ≡ Some tens
    → calendar_in (last_digits 4 y ++ 45 ∷ last_digits 2 m ++ 45 ∷ last_digits 2 d
    ++ clock_text s ++ ending) ≡ Some (moment_of days (s * 10_000_000) tens)
calendar_of y m d s ending days tens some yy mm dd ss day end =
    let text : List ℕ = last_digits 4 y ++ 45 ∷ last_digits 2 m ++ 45 ∷ last_digits 2 d
    ++ clock_text s ++ ending in
    let at_days : days_at text ≡ Some days =
    three_steps (digits_in (last_digits 4 y)) (digits_in (last_digits 2 m))
    (digits_in (last_digits 2 d)) y m d days_to
    (read_digits 4 y yy) (read_digits 2 m mm) (read_digits 2 d dd) ∙ day in
    let at_clock : clock_at text ≡ Some (s * 10_000_000) =
    three_steps (digits_in (last_digits 2 (s / 3600))) (digits_in (last_digits 2 (s / 60 % 60)))
    (digits_in (last_digits 2 (s % 60))) (s / 3600) (s / 60 % 60) (s % 60) clock_ticks
    (read_digits 2 (s / 3600) (omega arith)) (read_digits 2 (s / 60 % 60) (omega arith))
    (read_digits 2 (s % 60) (omega arith)) ∙ clock_again s ss in
    calendar_is text days (s * 10_000_000) (omega (arith, some)) refl at_days at_clock
    ∙ ap (λ o. o >>= λ tens. Some (moment_of days (s * 10_000_000) tens)) end

-- what is written by its date is read
calendar_again : (date : Date) (n p : ℕ) → n < calendar_ticks → p < 10 ^ 4
    → epoch_day date +ℤ pos days_to_1970 ≡ pos (n / day_ticks)
    → time_in (calendar_text date (n % day_ticks) p) ≡ Some (record { ticks = pos n; pico = p })
calendar_again date n p lt small e =
    let c = civil date in
    let y = (year_is date.year date.month date.day (n / day_ticks) c e).1 in
    let month : date.month < 10 ^ 2 = omega (arith, c.1.1) in
    let day : date.day < 10 ^ 2 =
    omega (arith, c.2.1, (days_in_month_bounds date.year date.month).0) in
    let t = n % day_ticks % 10_000_000 in
    let s = n % day_ticks / 10_000_000 in
    let tens = t * 10_000 + p in
    let end : ending_in (ending_text t p) ≡ Some tens =
    ending_again t p (p == 0) refl (omega arith) small in
    let read = calendar_of (unsigned_abs date.year) date.month date.day s (ending_text t p)
    (n / day_ticks) tens (omega arith) y month day (omega arith) (days_again date _ e) end in
    let ticks : n / day_ticks * day_ticks + s * 10_000_000 + tens / 10_000 ≡ n = omega arith in
    let pico : tens % 10_000 ≡ p = omega arith in
    let no_at : (48 + unsigned_abs date.year / 10 / 10 / 10 % 10 == 64) ≡ false =
    ne_eqb _ 64 (λ h. absurd (omega (arith, h))) in
    ap (λ b. cond b (steps_in (drop 1 (calendar_text date (n % day_ticks) p)))
    (calendar_in (calendar_text date (n % day_ticks) p))) no_at
    ∙ read ∙ (λ i. Some (record { ticks = pos (ticks i); pico = pico i }))

-- what is written is read
pub time_again : (time : Time) (text : List ℕ) → FitsSigned w64 time.ticks → time.pico ≤ 9_999
    → IsTimeText time text → time_in text ≡ Some time
time_again time text fits small (inl (n, is, lt, written)) =
    ap time_in written.2 ∙ calendar_again written.0 n time.pico lt (omega arith) written.1
    ∙ ap (λ z. Some (record { ticks = z; pico = time.pico })) (sym is)
time_again time text fits small (inr (beyond, written)) =
    ap time_in written ∙ steps_again time (time.pico == 0) refl fits (omega arith)
