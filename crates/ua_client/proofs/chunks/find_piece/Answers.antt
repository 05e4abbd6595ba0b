use Rattle.std.proofs.Common.{◌≡◌, length, take, sym, subst, ◌∙◌}
use Rattle.ua_channel.specs.Sending.{message_head, message_chunk}
use Rattle.ua_client.proofs.Pieces.{piece-found}
use Rattle.ua_client.proofs.chunks.find_piece.Goals as goal

pub returns-then-same-clause-piece : goal.returns-then-same-clause-piece
returns-then-same-clause-piece c =
    let chunk = c.args.chunk.now in
    let letter = c.in_ok-letter.letter in
    let ids = c.args.ids in
    let front : take 24 chunk
    ≡ message_head letter (length chunk) ids.token ids.number ids.request_id =
    sym c.split_at.ensures.front ∙ c.is_message_head-same.ensures c.if-same.true in
    subst (λ piece. chunk ≡ message_chunk letter ids.token ids.number ids.request_id piece)
    (sym c.split_at.ensures.back)
    (piece-found chunk letter ids.token ids.number ids.request_id c.if-chunk-lt24.false front)
