-- The piece that stands behind the head of a MSG chunk.
use Rattle.std.proofs.Common.{◌≡◌, ℕ, ◌+◌, ◌≤◌, List, ◌++◌, length, take, drop, sym, ap, ◌∙◌, arith, append_assoc, length-drop}
use Rattle.std.proofs.lemmas.List.{take-append-drop}
use Rattle.std.specs.Int.{w32}
use Rattle.ua_binary.specs.Binary.{unsigned}
use Rattle.uacp.specs.declared.types.Kind.TheVariants.{Message}
use Rattle.uacp.specs.declared.types.Letter.{Letter}
use Rattle.uacp.specs.Chunks.{chunk_letters}
use Rattle.ua_channel.specs.Headers.{message_header}
use Rattle.ua_channel.specs.Sending.{message_head, message_chunk}
use Rattle.ua_channel.proofs.Sizes.{message_size}

pub piece-found : (chunk : List ℕ) (letter : Letter) (token number request : ℕ)
    → 24 ≤ length chunk
    → take 24 chunk ≡ message_head letter (length chunk) token number request
    → chunk ≡ message_chunk letter token number request (drop 24 chunk)
unfolding message_chunk
piece-found chunk letter token number request le front =
    let piece : List ℕ = drop 24 chunk in
    let head : List ℕ =
    message_header.canon
    (record { channel_id = 1; token = token; number = number; request_id = request }) in
    let size : List ℕ = (unsigned w32).canon (length chunk) in
    let letters : List ℕ = chunk_letters Message letter in
    let whole : 8 + length (head ++ piece) ≡ length chunk =
    omega (arith, le, message_size token number request piece, length-drop 24 chunk) in
    sym (take-append-drop 24 chunk) ∙ ap (λ h. h ++ piece) front
    ∙ append_assoc (letters ++ size) head piece
    ∙ ap (λ n. letters ++ (unsigned w32).canon n ++ (head ++ piece)) (sym whole)
