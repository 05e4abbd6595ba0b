-- Values: what is written is read.
use Rattle.std.proofs.Common.{◌≡◌, ℕ, List, Option, Some, None, Result, Ok, Err, ap, sym, subst}
use Rattle.hex.specs.Hex.{IsBytes, decode_of, encode_lower}
use Rattle.hex.specs.declared.error.FromHexError.{FromHexError}
use Rattle.hex.proofs.HexLemmas.{decode_of-encode_lower}
use Rattle.ua_binary.specs.declared.values.Ticks.{Ticks}
use Rattle.ua_variant.specs.declared.value.Scalar.{Scalar}
use Rattle.ua_variant.specs.declared.value.Scalar.TheVariants.{DateTime}
use Rattle.history_text.specs.Times.{◌>>=◌, time_in, IsTimeText}
use Rattle.history_text.specs.Values.{whole_ticks, ticks_in, bytes_in, IsValueText}

-- what is decoded, if it is
abbrev optional : Result (List ℕ) FromHexError → Option (List ℕ)
optional r = elim r [ Ok bytes ↦ Some bytes | Err _ ↦ None ]

-- what isn't decoded is no bytes
pub no_bytes : (text : List ℕ) (e : FromHexError) → decode_of text ≡ Err e → bytes_in text ≡ None
no_bytes text e h = ap optional h

-- bytes that are written are read
pub bytes_again : (bytes : List ℕ) → IsBytes bytes → bytes_in (encode_lower bytes) ≡ Some bytes
bytes_again bytes fits = ap optional (decode_of-encode_lower bytes fits)

-- a moment that is read is its steps
pub ticks_again : (text : List ℕ) (ticks : Ticks)
    → time_in text ≡ Some (record { ticks = ticks.0; pico = 0 }) → ticks_in text ≡ Some ticks
ticks_again text ticks h = ap (λ o. o >>= whole_ticks) h

-- a moment's text, whatever the value and the text are called
pub dated : (v : Scalar) (ticks : Ticks) (t u : List ℕ) → v ≡ DateTime ticks → t ≡ u
    → IsTimeText (record { ticks = ticks.0; pico = 0 }) u → IsValueText v t
dated v ticks t u p q h = subst (λ v. IsValueText v t) (sym p)
    (subst (IsTimeText (record { ticks = ticks.0; pico = 0 })) (sym q) h)
