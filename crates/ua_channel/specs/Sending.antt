-- What a channel writes: the answer to an opening, and messages in chunks (Part 6, 6.7.2).
use Rattle.std.specs.Prelude.{◌≡◌, ◌<◌, ◌≤◌, ◌+◌, ◌-◌, ◌*◌, ◌%◌, ℕ, List, [], ◌∷◌, ◌++◌, length, take, Some, Result, Ok, Err, Bool, nat_le, ◌&&◌, ◌||◌, if◌then◌else◌, ◌==◌}
use Rattle.std.specs.Int.{w32}
use Rattle.ua_binary.specs.Binary.{unsigned}
use Rattle.ua_binary.specs.declared.values.Ticks.{Ticks}
use Rattle.ua_binary.specs.declared.fault.BinaryFault.{BinaryFault}
use Rattle.ua_binary.specs.declared.fault.BinaryFault.TheVariants as binary
use Rattle.ua_channel.specs.declared.fault.ChannelFault.{ChannelFault}
use Rattle.ua_channel.specs.declared.fault.ChannelFault.TheVariants.{OutOfMemory}
use Rattle.uacp.specs.declared.types.Kind.TheVariants.{Open, Message}
use Rattle.uacp.specs.declared.types.Letter.{Letter}
use Rattle.uacp.specs.declared.types.Letter.TheVariants.{Final, More}
use Rattle.uacp.specs.Split.{pieces_of}
use Rattle.uacp.specs.Stream.{ChunkContent}
use Rattle.uacp.specs.Chunks.{chunk_letters}
use Rattle.ua_channel.specs.declared.taken.OpenRequest.{OpenRequest}
use Rattle.ua_channel.specs.Headers.{policy_none, security_header, sequence_header, message_header, open_response, chunk_of}
use Rattle.ua_channel.specs.Taking.{ChannelState}

-- ---- sequence numbers: 1 to 4,294,966,272, and 1 again

-- the number of the chunk that comes k chunks after the one with this number
abbrev pub number_after : ℕ → ℕ → ℕ
number_after number k = (number - 1 + k) % 4294966272 + 1

-- ---- the answer to an opening

-- how long a token is good that is asked for so long, in milliseconds: an hour where nothing is
-- asked
abbrev pub revised_lifetime : ℕ → ℕ
revised_lifetime lifetime = if lifetime == 0 then 3600000 else lifetime

-- the body of the answer to an opening, at this moment
abbrev pub opened_body : OpenRequest → Ticks → List ℕ
opened_body request now =
    open_response.canon (
      (now, (request.handle, record { 0 = 0 })),
      (request.token, (now, revised_lifetime request.lifetime)),
    )

-- an OPN chunk with this sequence number that answers at this moment
unfoldable pub opened_chunk : ℕ → OpenRequest → Ticks → List ℕ
opened_chunk number request now =
    chunk_of Open Final (security_header.canon (1, Some policy_none)
    ++ sequence_header.canon (number, request.request_id) ++ opened_body request now)

-- ---- messages

-- what stands before a piece in a MSG chunk of this size, of channel 1
abbrev pub message_head : Letter → ℕ → ℕ → ℕ → ℕ → List ℕ
message_head letter size token number request =
    chunk_letters Message letter ++ (unsigned w32).canon size
    ++ message_header.canon
    (record { channel_id = 1; token = token; number = number; request_id = request })

-- a MSG chunk of channel 1
unfoldable pub message_chunk : Letter → ℕ → ℕ → ℕ → List ℕ → List ℕ
message_chunk letter token number request piece =
    chunk_of Message letter
    (message_header.canon
    (record { channel_id = 1; token = token; number = number; request_id = request }) ++ piece)

-- a chunk for each piece, their numbers running on from this one
abbrev pub chunks_of : ℕ → ℕ → ℕ → List (List ℕ) → List ℕ
chunks_of token request number [] = []
chunks_of token request number (piece ∷ pieces) =
    message_chunk (elim pieces [ [] ↦ Final | piece ∷ pieces ↦ More ]) token number request piece
    ++ chunks_of token request (number_after number 1) pieces

-- what follows the header of such a chunk, and the chunks as the client cuts them off the stream
abbrev pub sent_body : ℕ → ℕ → ℕ → List ℕ → List ℕ
sent_body token request number piece =
    message_header.canon
    (record { channel_id = 1; token = token; number = number; request_id = request }) ++ piece

abbrev pub sent_of : ℕ → ℕ → ℕ → List (List ℕ) → List ChunkContent
sent_of token request number [] = []
sent_of token request number (piece ∷ pieces) =
    record {
      kind = Message;
      letter = (elim pieces [ [] ↦ Final | piece ∷ pieces ↦ More ]);
      body = sent_body token request number piece;
    }
    ∷ sent_of token request (number_after number 1) pieces

-- the bytes of so many chunks were appended and their numbers are used; or memory was wanting, and
-- all is as it was
abbrev pub Writes : {T : Type 0} → ChannelState → List ℕ → ℕ → Result T ChannelFault → List ℕ
    → List ℕ → ChannelState → Type 0
Writes old bytes count (Ok _) before now new =
    (now ≡ before ++ bytes) × (new ≡ record old { next = number_after old.next count })
Writes old bytes count (Err fault) before now new =
    (fault ≡ OutOfMemory) × (now ≡ before) × (new ≡ old)

-- the bytes of a message in the chunks of its pieces, with the greatest token of the MSG chunks
-- that were taken
abbrev pub message_bytes : ChannelState → ℕ → List ℕ → List ℕ
message_bytes state request body =
    chunks_of state.heard.token request state.next (pieces_of (state.limit - 24) body)

-- how many chunks these are
abbrev pub chunk_count : ChannelState → List ℕ → ℕ
chunk_count state body = length (pieces_of (state.limit - 24) body)

-- no piece has more bytes than this
abbrev pub AreShort : ℕ → List (List ℕ) → Type 0
AreShort size [] = Unit {0}
AreShort size (piece ∷ pieces) = (length piece ≤ size) × AreShort size pieces

abbrev pub IsNumber : ℕ → Type 0
IsNumber number = (0 < number) × (number ≤ 4294966272)

-- the chunks of some pieces were appended, and the number after theirs is told; an error leaves a
-- part
abbrev pub PutsChunks : ℕ → ℕ → ℕ → List (List ℕ) → Result ℕ BinaryFault → List ℕ → List ℕ → Type 0
PutsChunks token request number pieces (Ok next) before now =
    (now ≡ before ++ chunks_of token request number pieces)
    × (next ≡ number_after number (length pieces)) × IsNumber next
PutsChunks token request number pieces (Err fault) before now =
    (fault ≡ binary.OutOfMemory) × (take (length before) now ≡ before)

-- a message of n bytes is at most 16,777,216 bytes long, and within what the client takes: its
-- bytes, and its chunks, each with as many bytes of the message as there is room for
abbrev pub is_fitting : ChannelState → ℕ → Bool
is_fitting state n =
    nat_le n 16777216
    &&
    ((state.max_message == 0 || nat_le n state.max_message)
    && (state.max_chunks == 0 || nat_le n (state.max_chunks * (state.limit - 24))))
