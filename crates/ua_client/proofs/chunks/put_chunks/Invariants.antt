use Rattle.std.proofs.Common.{◌≡◌, ◌++◌, length, take}
use Rattle.ua_channel.specs.Sending.{number_after, chunks_of, AreShort, IsNumber}
use Rattle.ua_client.proofs.chunks.put_chunks.Given as goal

-- the chunks so far and those of the pieces that are left are those of all pieces
abbrev pub invariant-loop-piece : goal.invariant-loop-piece
invariant-loop-piece l = record {
  kept : take (length l.initial.out.items) l.out.items ≡ l.initial.out.items;
  bytes : l.out.items ++ chunks_of l.token l.request_id l.number l.pieces
      ≡ l.initial.out.items ++ chunks_of l.token l.request_id l.initial.number l.initial.pieces;
  next : number_after l.number (length l.pieces)
      ≡ number_after l.initial.number (length l.initial.pieces);
  short : AreShort 4294967271 l.pieces;
  number : IsNumber l.number;
  can_next : (goal.iterator-loop-piece).can_next l.pieces;
  is_finite : (goal.iterator-loop-piece).is_finite l.pieces;
}
