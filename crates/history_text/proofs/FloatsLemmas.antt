-- Floats: what is written is read.
use Rattle.std.proofs.Common.{◌≡◌, ℕ, ◌%◌, ◌^◌, ◌<◌, ◌≤◌, List, length, get_or, Some, true, false, cond, not, T, refl, sym, ap, subst, ◌∙◌, arith}
use Rattle.std.specs.Prelude.{codes, to_bits, from_bits}
use Rattle.std.specs.Option.{option_map}
use Rattle.std.specs.Float.{binary32, binary64}
use Rattle.std.specs.Float.Ieee.{nan_bits}
use Rattle.std.specs.Float.Parse.{parse_float}
use Rattle.std.specs.Int.{w32, w64, from_le_bytes, to_le_bytes}
use lib.Ieee.{nan, is_nan}
use lib.Ieee.Bits.{is_false, to_bits-of_bits, nan_bits_is, nan_bits_above}
use Rattle.std.proofs.lemmas.Bool.{lt-ltb}
use Rattle.std.proofs.lemmas.Float.{not_nan_f32_bits, not_nan_f64_bits}
use Rattle.std.proofs.lemmas.Nat.{le_bytes_4, le_bytes_8}
use Rattle.fast_float.proofs.OnLiterals.{fast_float_on_literals}
use Rattle.history_text.specs.Floats.{double_bytes, single_bytes, double_in, single_in, double_again, single_again}

nan_is : is_nan nan ≡ true
unfolding is_nan
nan_is = refl

-- ---- a Double

-- a pattern above that of infinity is a NaN's
double_nan_bits : (n : ℕ) → 0x7ff0_0000_0000_0000 < n % 0x8000_0000_0000_0000
    → nan_bits binary64 n ≡ true
double_nan_bits n h = nan_bits_above binary64 n ∙ lt-ltb _ _ h

double_parsed : parse_float binary64 (codes "NaN") ≡ Some nan
unfolding fast_float_on_literals
double_parsed = refl

-- a NaN is read as the one NaN
pub double_nan : (bytes text : List ℕ) (n : ℕ) → n ≡ from_le_bytes w64 bytes
    → 0x7ff0_0000_0000_0000 < n % 0x8000_0000_0000_0000
    → text ≡ codes "NaN" → double_in text ≡ Some (double_again bytes)
double_nan bytes text n is h word =
    ap double_in word ∙ ap (option_map double_bytes) double_parsed
    ∙ ap (λ b. Some (to_le_bytes w64 (cond b 9_221_120_237_041_090_560 (to_bits binary64 nan))))
    nan_is
    ∙ ap (λ b. Some (cond b (to_le_bytes w64 9_221_120_237_041_090_560) bytes))
    (sym (ap (nan_bits binary64) (sym is) ∙ double_nan_bits n h))

-- what is no NaN is read as it is
pub double_number : (bytes text : List ℕ) (n : ℕ) → n ≡ from_le_bytes w64 bytes → n < 2 ^ 64
    → length bytes ≡ 8 → ((i : ℕ) → get_or bytes i 0 < 256)
    → n % 0x8000_0000_0000_0000 ≤ 0x7ff0_0000_0000_0000
    → parse_float binary64 text ≡ Some (from_bits binary64 n)
    → double_in text ≡ Some (double_again bytes)
double_number bytes text n is small long fits h parses =
    let off : nan_bits binary64 n ≡ false = is_false _ (not_nan_f64_bits n h) in
    let no_nan : is_nan (from_bits binary64 n) ≡ false = sym (nan_bits_is binary64 n) ∙ off in
    let bits : to_bits binary64 (from_bits binary64 n) ≡ n =
    to_bits-of_bits binary64 n (omega (arith, small))
    (subst (λ b. T (not b)) (nan_bits_is binary64 n) (not_nan_f64_bits n h)) in
    let same : to_le_bytes w64 n ≡ bytes = le_bytes_8 bytes n long fits is in
    ap (option_map double_bytes) parses
    ∙ ap (λ b. Some (to_le_bytes w64 (cond b 9_221_120_237_041_090_560
    (to_bits binary64 (from_bits binary64 n))))) no_nan
    ∙ ap (λ k. Some (to_le_bytes w64 k)) bits ∙ ap Some same
    ∙ ap (λ b. Some (cond b (to_le_bytes w64 9_221_120_237_041_090_560) bytes))
    (sym (ap (nan_bits binary64) (sym is) ∙ off))

-- ---- a Single

-- a pattern above that of infinity is a NaN's
single_nan_bits : (n : ℕ) → 0x7f80_0000 < n % 0x8000_0000 → nan_bits binary32 n ≡ true
single_nan_bits n h = nan_bits_above binary32 n ∙ lt-ltb _ _ h

single_parsed : parse_float binary32 (codes "NaN") ≡ Some nan
unfolding fast_float_on_literals
single_parsed = refl

-- a NaN is read as the one NaN
pub single_nan : (bytes text : List ℕ) (n : ℕ) → n ≡ from_le_bytes w32 bytes
    → 0x7f80_0000 < n % 0x8000_0000
    → text ≡ codes "NaN" → single_in text ≡ Some (single_again bytes)
single_nan bytes text n is h word =
    ap single_in word ∙ ap (option_map single_bytes) single_parsed
    ∙ ap (λ b. Some (to_le_bytes w32 (cond b 2_143_289_344 (to_bits binary32 nan)))) nan_is
    ∙ ap (λ b. Some (cond b (to_le_bytes w32 2_143_289_344) bytes))
    (sym (ap (nan_bits binary32) (sym is) ∙ single_nan_bits n h))

-- what is no NaN is read as it is
pub single_number : (bytes text : List ℕ) (n : ℕ) → n ≡ from_le_bytes w32 bytes → n < 2 ^ 32
    → length bytes ≡ 4 → ((i : ℕ) → get_or bytes i 0 < 256) → n % 0x8000_0000 ≤ 0x7f80_0000
    → parse_float binary32 text ≡ Some (from_bits binary32 n)
    → single_in text ≡ Some (single_again bytes)
single_number bytes text n is small long fits h parses =
    let off : nan_bits binary32 n ≡ false = is_false _ (not_nan_f32_bits n h) in
    let no_nan : is_nan (from_bits binary32 n) ≡ false = sym (nan_bits_is binary32 n) ∙ off in
    let bits : to_bits binary32 (from_bits binary32 n) ≡ n =
    to_bits-of_bits binary32 n (omega (arith, small))
    (subst (λ b. T (not b)) (nan_bits_is binary32 n) (not_nan_f32_bits n h)) in
    let same : to_le_bytes w32 n ≡ bytes = le_bytes_4 bytes n long fits is in
    ap (option_map single_bytes) parses
    ∙ ap (λ b. Some (to_le_bytes w32 (cond b 2_143_289_344
    (to_bits binary32 (from_bits binary32 n))))) no_nan
    ∙ ap (λ k. Some (to_le_bytes w32 k)) bits ∙ ap Some same
    ∙ ap (λ b. Some (cond b (to_le_bytes w32 2_143_289_344) bytes))
    (sym (ap (nan_bits binary32) (sym is) ∙ off))
