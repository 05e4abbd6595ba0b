-- Guids: what is written is read.
use Rattle.std.proofs.Common.{◌≡◌, ℕ, zero, suc, ◌^◌, ◌<◌, List, [], ◌∷◌, length, get_or, Option, Some, None, Result, Ok, Err, refl, ap, ◌∙◌, arith}
use Rattle.std.specs.Int.{w16, w32, to_be_bytes}
use Rattle.std.proofs.lemmas.Nat.{from_be_bytes-to_be_bytes_2, from_be_bytes-to_be_bytes_4}
use Rattle.hex.specs.Hex.{IsBytes, decode_sized, encode_lower, encode_with}
use Rattle.hex.specs.declared.error.FromHexError.{FromHexError}
use Rattle.hex.proofs.HexLemmas.{decode_sized-encode_lower}
use Rattle.ua_binary.specs.declared.values.Guid.{Guid}
use Rattle.history_text.specs.Times.{◌>>=◌}
use Rattle.history_text.specs.Guids.{guid_of_parts, guid_in, guid_text}

abbrev optional : Result (List ℕ) FromHexError → Option (List ℕ)
optional r = elim r [ Ok bytes ↦ Some bytes | Err _ ↦ None ]

-- bytes that are written are read
part : (bytes : List ℕ) (n : ℕ) → length bytes ≡ n → IsBytes bytes
    → optional (decode_sized (encode_lower bytes) n) ≡ Some bytes
part bytes n long fits = ap optional (decode_sized-encode_lower bytes n long fits)

four_bytes : (n : ℕ) → IsBytes (to_be_bytes w32 n)
four_bytes n zero = omega arith
four_bytes n (suc zero) = omega arith
four_bytes n (suc (suc zero)) = omega arith
four_bytes n (suc (suc (suc zero))) = omega arith
four_bytes n (suc (suc (suc (suc i)))) = omega arith

two_bytes : (n : ℕ) → IsBytes (to_be_bytes w16 n)
two_bytes n zero = omega arith
two_bytes n (suc zero) = omega arith
two_bytes n (suc (suc i)) = omega arith

front_bytes : (a b : ℕ) → a < 256 → b < 256 → IsBytes (a ∷ b ∷ [])
front_bytes a b p q zero = p
front_bytes a b p q (suc zero) = q
front_bytes a b p q (suc (suc i)) = omega arith

five_steps : (u v w x y : Option (List ℕ)) (a b c d e : List ℕ) → u ≡ Some a → v ≡ Some b
    → w ≡ Some c → x ≡ Some d → y ≡ Some e
    → (u >>= λ a. v >>= λ b. w >>= λ c. x >>= λ d. y >>= λ e. Some (guid_of_parts a b c d e))
    ≡ Some (guid_of_parts a b c d e)
five_steps u v w x y a b c d e p q r s t = rw (p, q, r, s, t) refl

-- a Guid of eight known bytes is read
read_guid : (first second third a b c d e f g h : ℕ) → first < 2 ^ 32 → second < 2 ^ 16
    → third < 2 ^ 16 → IsBytes (a ∷ b ∷ c ∷ d ∷ e ∷ f ∷ g ∷ h ∷ [])
    → (let guid : Guid = record {
      first = first;
      second = second;
      third = third;
      last = a ∷ b ∷ c ∷ d ∷ e ∷ f ∷ g ∷ h ∷ [];
    } in guid_in (guid_text guid) ≡ Some guid)
unfolding encode_with
read_guid first second third a b c d e f g h p q r fits =
    let four : IsBytes (a ∷ b ∷ []) = front_bytes a b (fits 0) (fits 1) in
    let last : List ℕ = c ∷ d ∷ e ∷ f ∷ g ∷ h ∷ [] in
    five_steps (optional (decode_sized (encode_lower (to_be_bytes w32 first)) 4))
    (optional (decode_sized (encode_lower (to_be_bytes w16 second)) 2))
    (optional (decode_sized (encode_lower (to_be_bytes w16 third)) 2))
    (optional (decode_sized (encode_lower (a ∷ b ∷ [])) 2))
    (optional (decode_sized (encode_lower last) 6))
    (to_be_bytes w32 first) (to_be_bytes w16 second) (to_be_bytes w16 third) (a ∷ b ∷ []) last
    (part _ 4 refl (four_bytes first)) (part _ 2 refl (two_bytes second))
    (part _ 2 refl (two_bytes third)) (part _ 2 refl four)
    (part last 6 refl (λ i. fits (suc (suc i))))
    ∙ (λ i. Some (record {
      first = from_be_bytes-to_be_bytes_4 first p i;
      second = from_be_bytes-to_be_bytes_2 second q i;
      third = from_be_bytes-to_be_bytes_2 third r i;
      last = a ∷ b ∷ last;
    }))

-- a Guid is read
by_last : (first second third : ℕ) (last : List ℕ) → first < 2 ^ 32 → second < 2 ^ 16
    → third < 2 ^ 16 → length last ≡ 8 → IsBytes last
    → (let guid : Guid = record { first = first; second = second; third = third; last = last } in
    guid_in (guid_text guid) ≡ Some guid)
by_last first second third (a ∷ b ∷ c ∷ d ∷ e ∷ f ∷ g ∷ h ∷ []) p q r long fits =
    read_guid first second third a b c d e f g h p q r fits
by_last first second third [] p q r long fits = absurd (omega (arith, long))
by_last first second third (a ∷ []) p q r long fits = absurd (omega (arith, long))
by_last first second third (a ∷ b ∷ []) p q r long fits = absurd (omega (arith, long))
by_last first second third (a ∷ b ∷ c ∷ []) p q r long fits = absurd (omega (arith, long))
by_last first second third (a ∷ b ∷ c ∷ d ∷ []) p q r long fits = absurd (omega (arith, long))
by_last first second third (a ∷ b ∷ c ∷ d ∷ e ∷ []) p q r long fits = absurd (omega (arith, long))
by_last first second third (a ∷ b ∷ c ∷ d ∷ e ∷ f ∷ []) p q r long fits =
    absurd (omega (arith, long))
by_last first second third (a ∷ b ∷ c ∷ d ∷ e ∷ f ∷ g ∷ []) p q r long fits =
    absurd (omega (arith, long))
by_last first second third (a ∷ b ∷ c ∷ d ∷ e ∷ f ∷ g ∷ h ∷ i ∷ l) p q r long fits =
    absurd (omega (arith, long))

-- what is written is read
pub guid_again : (guid : Guid) → guid.first < 2 ^ 32 → guid.second < 2 ^ 16
    → guid.third < 2 ^ 16 → length guid.last ≡ 8 → ((i : ℕ) → get_or guid.last i 0 < 256)
    → guid_in (guid_text guid) ≡ Some guid
guid_again guid p q r long fits =
    by_last guid.first guid.second guid.third guid.last p q r long fits
