-- Texts that stay on one line: bytes, pieces and numbers.
use Rattle.std.proofs.Common.{◌≡◌, ◌≤◌, ◌+◌, ◌/◌, ◌%◌, ◌==◌, ◌||◌, ◌++◌, ◌∙◌, ◌∷◌, [], ℕ, zero, suc, ℤ, pos, negsuc, List, true, false, not, refl, ap, drop, arith}
use Rattle.std.proofs.lemmas.Bool.{and_from, and_parts, ne_eqb, cond_both}
use Rattle.std.proofs.lemmas.List.Folds.{list_all-append}
use Rattle.std.specs.Prelude.{nat_lt}
use Rattle.std.specs.List.{list_all, flat_map}
use Rattle.std.specs.Char.{digit_char}
use Rattle.std.specs.Fmt.{digits, digits_onto, digit_glyph, decimal, signed_decimal}
use Rattle.event_lines.specs.OneLine.{is_unbroken, IsOneLine}

-- a text that is written out
pub said : (text : List ℕ) → list_all is_unbroken text ≡ true → IsOneLine text
said text is = record { unbroken = is }

-- from the blank on, no byte breaks a line
pub above : (b : ℕ) → 32 ≤ b → is_unbroken b ≡ true
above b least =
    ap (λ e. not (e || b == 13)) (ne_eqb b 10 (λ e. omega arith))
    ∙ ap (λ e. not (false || e)) (ne_eqb b 13 (λ e. omega arith))

pub onto : (b : ℕ) → {text : List ℕ} → is_unbroken b ≡ true → IsOneLine text → IsOneLine (b ∷ text)
onto b first rest = record { unbroken = and_from _ _ first (IsOneLine.unbroken rest) }

infixl 65 ◌&◌
-- two texts, one behind the other
pub ◌&◌ : {a b : List ℕ} → IsOneLine a → IsOneLine b → IsOneLine (a ++ b)
◌&◌ {a = a} {b = b} first second = record {
  unbroken = list_all-append is_unbroken a b
      ∙ and_from _ _ (IsOneLine.unbroken first) (IsOneLine.unbroken second);
}

pub dropped : (n : ℕ) → (text : List ℕ) → IsOneLine text → IsOneLine (drop n text)
dropped zero text is = is
dropped (suc n) [] is = is
dropped (suc n) (b ∷ text) is =
    dropped n text (record { unbroken = (and_parts _ _ (IsOneLine.unbroken is)).1 })

pub mapped : {A : Type 0} → (f : A → List ℕ) → ((x : A) → IsOneLine (f x)) → (list : List A)
    → IsOneLine (flat_map f list)
mapped f each [] = said [] refl
mapped f each (x ∷ list) = each x & mapped f each list

-- ---- numbers

glyph : (d : ℕ) → is_unbroken (digit_glyph false d) ≡ true
glyph d =
    cond_both (nat_lt d 10) (48 + d) (87 + d) (λ b. is_unbroken b ≡ true)
    (λ _. above (48 + d) (omega arith)) (λ _. above (87 + d) (omega arith))

digits_before : (k base n : ℕ) → (text : List ℕ) → IsOneLine text
    → IsOneLine (digits_onto k base false n text)
digits_before zero base n text is = is
digits_before (suc k) base n text is =
    let first = onto (digit_glyph false (n % base)) (glyph (n % base)) is in
    cond_both (n / base == 0) _ _ IsOneLine (λ _. first)
    (λ _. digits_before k base (n / base) _ first)

pub numeral : (base n : ℕ) → IsOneLine (digits base false n)
unfolding digits
numeral base n = digits_before 64 base n [] (said [] refl)

pub number : (n : ℕ) → IsOneLine (decimal n)
number n = numeral 10 n

pub signed : (z : ℤ) → IsOneLine (signed_decimal z)
signed (pos n) = number n
signed (negsuc n) = onto 45 refl (number (suc n))

-- the character that writes a hex digit
pub hex_character : (d : ℕ) → is_unbroken (digit_char d) ≡ true
hex_character d =
    cond_both (nat_lt d 10) (48 + d) (87 + d) (λ b. is_unbroken b ≡ true)
    (λ _. above (48 + d) (omega arith)) (λ _. above (87 + d) (omega arith))
