use Rattle.std.proofs.Common.{[], ◌∷◌, ◌++◌, subst, sym, ap, ◌∙◌, if◌then◌else◌}
use Rattle.std.specs.Io.KnownBytes.{Consumes}
use Rattle.std.proofs.KnownBytes.{Consumes-nil}
use Rattle.uacp.specs.declared.types.Letter.TheVariants.{Final, More}
use Rattle.ua_channel.specs.Sending.{message_chunk}
use Rattle.ua_channel.proofs.Sendings.{number_after-none}
use Rattle.ua_client.proofs.Chunking.{joined-then, heard-more, heard-ends, number-then}
use Rattle.ua_client.proofs.client.read_message.Goals as goal

pub chunks-init : goal.chunks-init
chunks-init g c = record {
  pieces = [];
  body = sym c.new-body.ensures.items;
  read = Consumes-nil (g.R.Read.remaining c.args.reader.now.inner);
  number = sym (number_after-none c.args.first.number c.requires);
  is = c.requires;
}

pub chunks-preserved : goal.chunks-preserved
chunks-preserved g c =
    let remaining = g.R.Read.remaining in
    let first = c.args.first in
    let held = c.chunks.invariant in
    let piece = c.in_ok-part.part.bytes.items in
    let came = subst (λ last. Consumes (remaining c.chunks.reader.inner)
    (remaining c.take_piece.new.reader.inner)
    (message_chunk (if last then Final else More) first.token c.chunks.number first.request_id
    piece)) c.if-part.false c.in_ok-part.ensures in
    record {
      pieces = held.pieces ++ piece ∷ [];
      body = joined-then held.pieces piece ∙ ap (λ b. b ++ piece) held.body
          ∙ sym (c.in_ok-extend_from_slice.ensures.items
          ∙ ap (λ b. c.chunks.body.items ++ b) c.as_slice.ensures.value);
      read = heard-more (remaining c.args.reader.now.inner) (remaining c.chunks.reader.inner)
          (remaining c.take_piece.new.reader.inner) first.token first.request_id first.number
          c.chunks.number held.pieces piece c.requires held.number held.read came;
      number = number-then first.number c.chunks.number c.following-number.result held.pieces piece
          held.number c.following-number.ensures.value;
      is = c.following-number.ensures.within;
    }

pub returns-then-part : goal.returns-then-part
returns-then-part g c =
    let remaining = g.R.Read.remaining in
    let first = c.args.first in
    let held = c.chunks.invariant in
    let piece = c.in_ok-part.part.bytes.items in
    let came = subst (λ last. Consumes (remaining c.chunks.reader.inner)
    (remaining c.take_piece.new.reader.inner)
    (message_chunk (if last then Final else More) first.token c.chunks.number first.request_id
    piece)) c.if-part.true c.in_ok-part.ensures in record {
      hears = (
        held.pieces ++ piece ∷ [],
        joined-then held.pieces piece ∙ ap (λ b. b ++ piece) held.body
            ∙ sym (c.in_ok-extend_from_slice.ensures.items
            ∙ ap (λ b. c.chunks.body.items ++ b) c.as_slice.ensures.value),
        heard-ends (remaining c.args.reader.now.inner) (remaining c.chunks.reader.inner)
            (remaining c.take_piece.new.reader.inner) first.token first.request_id first.number
            c.chunks.number held.pieces piece c.requires held.number held.read came,
        number-then first.number c.chunks.number c.following-number.result held.pieces piece held.number
            c.following-number.ensures.value,
        c.following-number.ensures.within.0,
        c.following-number.ensures.within.1,
      );
    }
