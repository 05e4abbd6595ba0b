-- Status codes: what is written is read.
use Rattle.std.proofs.Common.{◌≡◌, ℕ, zero, suc, ◌*◌, ◌^◌, ◌<◌, List, [], length, Some, Ok, Bool, true, false, cond, ◌==◌, refl, sym, ap, ◌∙◌, arith, inl, inr}
use Rattle.std.specs.Prelude.{codes}
use Rattle.std.specs.Str.{bytes_eq}
use Rattle.std.specs.Int.{w32, to_be_bytes}
use Rattle.std.proofs.lemmas.Bool.{cases_Bool, eqb-true}
use Rattle.std.proofs.lemmas.Nat.{and_assoc, from_be_bytes-to_be_bytes_4}
use Rattle.std.proofs.lemmas.Slice.Eq.{bytes_eq-Decides}
use Rattle.hex.specs.Hex.{IsBytes, decode_sized, encode_upper, upper_digits}
use Rattle.hex.proofs.HexLemmas.{decode_of-encode_upper, decode_sized-twice, length-encode_with}
use Rattle.ua_binary.specs.declared.codes.Status.{Status}
use Rattle.history_text.specs.Statuses.{kept, hex_code_in, status_in, status_text}

-- the bytes of a number are bytes
be_bytes : (n : ℕ) → IsBytes (to_be_bytes w32 n)
be_bytes n zero = omega arith
be_bytes n (suc zero) = omega arith
be_bytes n (suc (suc zero)) = omega arith
be_bytes n (suc (suc (suc zero))) = omega arith
be_bytes n (suc (suc (suc (suc i)))) = omega arith

-- a text of another length is another
other : (a b : List ℕ) → (length a ≡ length b → ⊥) → bytes_eq a b ≡ false
other a b apart = elim (cases_Bool (bytes_eq a b)) [
  | inl t ↦ absurd (apart (ap length ((bytes_eq-Decides a b).0 t)))
  | inr f ↦ f
]

-- eight digits are read
code_again : (n : ℕ) → n < 2 ^ 32
    → hex_code_in (encode_upper (to_be_bytes w32 n)) ≡ Some (kept (record { 0 = n }))
code_again n small =
    let text = encode_upper (to_be_bytes w32 n) in
    let long : length text ≡ 2 * 4 = length-encode_with upper_digits (to_be_bytes w32 n) in
    let bytes : decode_sized text 4 ≡ Ok (to_be_bytes w32 n) =
    decode_sized-twice text 4 long ∙ decode_of-encode_upper _ (be_bytes n) in
    rw (bytes, hex_code_in) (ap (λ k. Some (kept (record { 0 = k })))
    (from_be_bytes-to_be_bytes_4 n small))

kept_kept : (status : Status) → kept (kept status) ≡ kept status
kept_kept status = ap (λ n. record { 0 = n }) (and_assoc 4_294_966_263 status.0 4_294_966_263)

again : (status : Status) (b : Bool) → ((kept status).0 == 0) ≡ b → (kept status).0 < 2 ^ 32
    → status_in (cond b (codes "Good") (encode_upper (to_be_bytes w32 (kept status).0)))
    ≡ Some (kept status)
again status true e small =
    ap (λ n. Some (record { 0 = n })) (sym (eqb-true (kept status).0 0 e))
again status false e small =
    let text = encode_upper (to_be_bytes w32 (kept status).0) in
    let long : length text ≡ 8 = length-encode_with upper_digits
    (to_be_bytes w32 (kept status).0) in
    let some = other text [] (λ h. absurd (omega (arith, long, h))) in
    let bad = other text (codes "Good") (λ h. absurd (omega (arith, long, h))) in
    rw (some, bad) (code_again (kept status).0 small ∙ ap Some (kept_kept status))

-- what is written is read
pub status_again : (status : Status) → (kept status).0 < 2 ^ 32
    → status_in (status_text status) ≡ Some (kept status)
status_again status small = again status _ refl small
