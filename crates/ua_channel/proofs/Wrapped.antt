-- What is written is whole chunks, and how many.
use Rattle.std.proofs.Common.{◌≡◌, ℕ, zero, suc, true, ◌+◌, ◌-◌, ◌*◌, ◌^◌, ◌<◌, ◌≤◌, List, [], ◌∷◌, length, refl, ap, ◌∙◌, arith}
use Rattle.std.specs.Prelude.{◌↔◌}
use Rattle.std.proofs.lemmas.List.{length-append}
use Rattle.std.proofs.lemmas.Nat.{from_le_bytes-to_le_bytes_4}
use Rattle.ua_binary.specs.Binary.{unsigned}
use Rattle.uacp.specs.declared.types.Kind.TheVariants.{Message}
use Rattle.uacp.specs.declared.types.Letter.{Letter}
use Rattle.uacp.specs.declared.types.Letter.TheVariants.{Final, More, Abort}
use Rattle.uacp.specs.Split.{joined, AreFull, IsSplit}
use Rattle.uacp.specs.Stream.{IsChunk, AreChunks}
use Rattle.ua_channel.specs.Headers.{chunk_of}
use Rattle.ua_channel.specs.Sending.{number_after, message_chunk, chunks_of, sent_body, sent_of, AreShort}
use Rattle.ua_channel.proofs.SendingParts.{letter_before}
use Rattle.ua_channel.proofs.Sizes.{message_size}

-- ---- whole chunks

chunk_whole : (limit : ℕ) (letter : Letter) (body : List ℕ) → 16 ≤ length body
    → 8 + length body ≤ limit → limit < 2 ^ 32
    → IsChunk true limit (record { kind = Message; letter = letter; body = body })
    (chunk_of Message letter body)
unfolding unsigned
chunk_whole limit Final body some most fits = record {
  heads = record { long = omega arith; named = refl; stands = tt };
  size = from_le_bytes-to_le_bytes_4 (8 + length body) (omega arith) ∙ omega arith;
  least = omega arith;
  greatest = omega arith;
  body = refl;
}
chunk_whole limit More body some most fits = record {
  heads = record { long = omega arith; named = refl; stands = tt };
  size = from_le_bytes-to_le_bytes_4 (8 + length body) (omega arith) ∙ omega arith;
  least = omega arith;
  greatest = omega arith;
  body = refl;
}
chunk_whole limit Abort body some most fits = record {
  heads = record { long = omega arith; named = refl; stands = tt };
  size = from_le_bytes-to_le_bytes_4 (8 + length body) (omega arith) ∙ omega arith;
  least = omega arith;
  greatest = omega arith;
  body = refl;
}

pub wrapped-whole : (limit token request number : ℕ) (pieces : List (List ℕ)) → 24 < limit
    → limit < 2 ^ 32 → AreShort (limit - 24) pieces
    → AreChunks true (λ _. limit) (chunks_of token request number pieces)
    (sent_of token request number pieces) []
unfolding message_chunk
wrapped-whole limit token request number [] least most short = refl
wrapped-whole limit token request number (piece ∷ pieces) least most short =
    let size = message_size token number request piece in
    let le = short.0 in (
      message_chunk (letter_before pieces) token number request piece,
      chunks_of token request (number_after number 1) pieces,
      refl,
      chunk_whole limit (letter_before pieces) (sent_body token request number piece) (omega arith)
          (omega arith) most,
      wrapped-whole limit token request (number_after number 1) pieces least most short.1,
    )

-- ---- how many

some_joined : (size : ℕ) (piece : List ℕ) (pieces : List (List ℕ)) → 0 < size
    → AreFull size (piece ∷ pieces) → 0 < length (joined (piece ∷ pieces))
some_joined size piece [] some full = omega (arith, full.0, length-append piece [])
some_joined size piece (next ∷ pieces) some full =
    omega (arith, full.0, length-append piece (joined (next ∷ pieces)))

abbrev Counts : ℕ → ℕ → List (List ℕ) → Type 0
Counts size c pieces = (length pieces ≤ suc c) ↔ (length (joined pieces) ≤ suc c * size)

counts : (size c : ℕ) (piece : List ℕ) (pieces : List (List ℕ)) → 0 < size
    → AreFull size (piece ∷ pieces) → Counts size c (piece ∷ pieces)
counts size c piece [] some full =
    (λ _. omega (arith, full.1, length-append piece []), λ _. omega arith)
counts size zero piece (next ∷ pieces) some full =
    let more = some_joined size next pieces some full.1 in (
      λ few. absurd (omega arith),
      λ few.
          absurd (omega (arith, full.0, length-append piece (joined (next ∷ pieces)))),
    )
counts size (suc c) piece (next ∷ pieces) some full =
    let rest = counts size c next pieces some full.1 in (
      λ few. let le = rest.0 (omega arith) in
          omega (arith, le, full.0, length-append piece (joined (next ∷ pieces))),
      λ few. let le = rest.1 (omega
          (arith, few, full.0, length-append piece (joined (next ∷ pieces)))) in omega arith,
    )

counts_body : (size c : ℕ) (pieces : List (List ℕ)) → 0 < size → 0 < length (joined pieces)
    → AreFull size pieces → Counts size c pieces
counts_body size c [] some there full = absurd (omega arith)
counts_body size c (piece ∷ pieces) some there full = counts size c piece pieces some full

pub pieces-count : (size c : ℕ) (body : List ℕ) (pieces : List (List ℕ)) → 0 < size → 0 < c
    → IsSplit size body pieces → (length pieces ≤ c) ↔ (length body ≤ c * size)
pieces-count size zero body pieces some there split = absurd (omega arith)
pieces-count size (suc c) [] pieces some there split =
    let one : length pieces ≡ 1 = ap length split in (λ _. omega arith, λ _. omega arith)
pieces-count size (suc c) (byte ∷ body) pieces some there split =
    let same : length (joined pieces) ≡ length (byte ∷ body) = ap length split.0 in
    let is = counts_body size c pieces some (omega arith) split.1 in
    (λ few. let le = is.0 few in omega (arith, le, same), λ few. is.1 (omega (arith, few, same)))

pub ruleset wrapped = (wrapped-whole, pieces-count)
