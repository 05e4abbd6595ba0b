-- A message that comes in chunks, one after the other.
use Rattle.std.proofs.Common.{◌≡◌, ℕ, ◌+◌, ◌-◌, ◌%◌, List, [], ◌∷◌, ◌++◌, length, Option, refl, sym, ap, ◌∙◌, subst, arith, append_assoc, append-nil, length-append}
use Rattle.std.proofs.KnownBytes.{Consumes-trans}
use Rattle.std.specs.Io.KnownBytes.{Consumes}
use Rattle.std.proofs.Math.Nat.{mod-add-mod}
use Rattle.uacp.specs.declared.types.Letter.TheVariants.{Final, More}
use Rattle.uacp.specs.Split.{joined}
use Rattle.ua_channel.specs.Sending.{number_after, IsNumber, message_chunk, chunks_of}
use Rattle.ua_channel.proofs.Sendings.{number_after-none, number_after-more}
use Rattle.ua_channel.proofs.SendingParts.{letter_before}

-- chunks for these pieces, none of which is the last one
abbrev pub more_of : (token request number : ℕ) → List (List ℕ) → List ℕ
more_of token request number [] = []
more_of token request number (piece ∷ pieces) =
    message_chunk More token number request piece
    ++ more_of token request (number_after number 1) pieces

pub after-is : (number k : ℕ) → IsNumber (number_after number k)
after-is number k = (omega arith, omega arith)

pub after-more : (number k : ℕ)
    → number_after (number_after number k) 1 ≡ number_after number (k + 1)
after-more number k =
    let once : ℕ = (number - 1 + k) % 4294966272 in
    let first : once + 1 - 1 + 1 ≡ once + 1 = omega arith in
    let last : number - 1 + k + 1 ≡ number - 1 + (k + 1) = omega arith in
    ap (λ n. n % 4294966272 + 1) first ∙ ap (λ n. n + 1) (mod-add-mod (number - 1 + k) 4294966272 1)
    ∙ ap (λ n. n % 4294966272 + 1) last

pub more-then : (token request number : ℕ) (pieces : List (List ℕ)) (last : List ℕ)
    → IsNumber number
    → more_of token request number pieces
    ++ message_chunk More token (number_after number (length pieces)) request last
    ≡ more_of token request number (pieces ++ last ∷ [])
more-then token request number [] last is =
    ap (λ n. message_chunk More token n request last) (number_after-none number is)
    ∙ sym (append-nil _)
more-then token request number (piece ∷ pieces) last is =
    let chunk : List ℕ = message_chunk More token number request piece in
    let between : List ℕ = more_of token request (number_after number 1) pieces in
    append_assoc chunk between _
    ∙ ap (λ n. chunk ++ (between ++ message_chunk More token n request last))
    (sym (number_after-more number (length pieces)))
    ∙ ap (λ b. chunk ++ b)
    (more-then token request (number_after number 1) pieces last (after-is number 1))

more_before : (pieces : List (List ℕ)) (last : List ℕ)
    → letter_before (pieces ++ last ∷ []) ≡ More
more_before [] last = refl
more_before (piece ∷ pieces) last = refl

pub more-ends : (token request number : ℕ) (pieces : List (List ℕ)) (last : List ℕ)
    → IsNumber number
    → more_of token request number pieces
    ++ message_chunk Final token (number_after number (length pieces)) request last
    ≡ chunks_of token request number (pieces ++ last ∷ [])
more-ends token request number [] last is =
    ap (λ n. message_chunk Final token n request last) (number_after-none number is)
    ∙ sym (append-nil _)
more-ends token request number (piece ∷ pieces) last is =
    let chunk : List ℕ = message_chunk More token number request piece in
    let between : List ℕ = more_of token request (number_after number 1) pieces in
    append_assoc chunk between _
    ∙ ap (λ n. chunk ++ (between ++ message_chunk Final token n request last))
    (sym (number_after-more number (length pieces)))
    ∙ ap (λ b. chunk ++ b)
    (more-ends token request (number_after number 1) pieces last (after-is number 1))
    ∙ ap (λ letter. message_chunk letter token number request piece
    ++ chunks_of token request (number_after number 1) (pieces ++ last ∷ []))
    (sym (more_before pieces last))

pub joined-then : (pieces : List (List ℕ)) (last : List ℕ)
    → joined (pieces ++ last ∷ []) ≡ joined pieces ++ last
joined-then [] last = append-nil last
joined-then (piece ∷ pieces) last =
    ap (λ b. piece ++ b) (joined-then pieces last) ∙ sym (append_assoc piece (joined pieces) last)

-- one chunk more came
pub heard-more : (unread between rest : Option (List ℕ)) (token request first number : ℕ)
    (pieces : List (List ℕ)) (piece : List ℕ) → IsNumber first
    → number ≡ number_after first (length pieces)
    → Consumes unread between (more_of token request first pieces)
    → Consumes between rest (message_chunk More token number request piece)
    → Consumes unread rest (more_of token request first (pieces ++ piece ∷ []))
heard-more unread between rest token request first number pieces piece is e a b =
    let same : more_of token request first pieces ++ message_chunk More token number request piece
    ≡ more_of token request first (pieces ++ piece ∷ []) =
    ap (λ n. more_of token request first pieces ++ message_chunk More token n request piece) e
    ∙ more-then token request first pieces piece is in
    subst (Consumes unread rest) same (Consumes-trans unread between rest _ _ a b)

-- the last one came
pub heard-ends : (unread between rest : Option (List ℕ)) (token request first number : ℕ)
    (pieces : List (List ℕ)) (piece : List ℕ) → IsNumber first
    → number ≡ number_after first (length pieces)
    → Consumes unread between (more_of token request first pieces)
    → Consumes between rest (message_chunk Final token number request piece)
    → Consumes unread rest (chunks_of token request first (pieces ++ piece ∷ []))
heard-ends unread between rest token request first number pieces piece is e a b =
    let same : more_of token request first pieces ++ message_chunk Final token number request piece
    ≡ chunks_of token request first (pieces ++ piece ∷ []) =
    ap (λ n. more_of token request first pieces ++ message_chunk Final token n request piece) e
    ∙ more-ends token request first pieces piece is in
    subst (Consumes unread rest) same (Consumes-trans unread between rest _ _ a b)

pub number-then : (first number next : ℕ) (pieces : List (List ℕ)) (piece : List ℕ)
    → number ≡ number_after first (length pieces) → next ≡ number_after number 1
    → next ≡ number_after first (length (pieces ++ piece ∷ []))
number-then first number next pieces piece e h =
    let longer : length pieces + 1 ≡ length (pieces ++ piece ∷ []) =
    omega (arith, length-append pieces (piece ∷ [])) in
    h ∙ ap (λ n. number_after n 1) e ∙ after-more first (length pieces)
    ∙ ap (number_after first) longer
