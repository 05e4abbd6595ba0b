-- A client's whole connection in the words of the stream: its bytes are whole chunks and a rest
-- (Part 6, 7.1.2.2), and each chunk of the channel has its place among those before it (6.7.2).
use Rattle.std.specs.Prelude.{◌≡◌, ◌+◌, ◌==◌, if◌then◌else◌, ℕ, zero, suc, List, [], ◌∷◌, ◌++◌, Option, None, Some, Ok, Err}
use Rattle.ua_binary.specs.declared.codes.TheConstants.Status.{BAD_OUT_OF_MEMORY, BAD_TCP_MESSAGE_TYPE_INVALID}
use Rattle.uacp.specs.declared.types.Letter.TheVariants.{Final}
use Rattle.uacp.specs.declared.types.UacpFault.{UacpFault}
use Rattle.uacp.specs.declared.greeting.Hello.{Hello}
use Rattle.uacp.specs.declared.greeting.Ack.{Ack}
use Rattle.uacp.specs.Stream.{ChunkContent, AreChunksThenRest}
use Rattle.uacp.specs.Greeting.{hello_at, ack_of}
use Rattle.uacp.specs.Fault.{uacp_fault_status}
use Rattle.ua_channel.specs.Fault as channel
use Rattle.ua_channel.specs.declared.taken.OpenRequest.{OpenRequest}
use Rattle.ua_channel.specs.Placed.{Placed, Opens, Says, Closes, heard_of, openings_of, open_run, bodies_of, placed_chunk}
use Rattle.ua_channel.specs.Taking.{ChannelState}
use Rattle.records.specs.Contents.{Content}
use Rattle.archive.specs.Steps.{give, and_then}
use Rattle.historian.specs.Services.{ServerConfig}
use Rattle.counted_io.specs.declared.fault.ServeFault.TheVariants.{TooLong}
use Rattle.ua_connection.specs.declared.outcome.Served.TheVariants.{EndOfInput, Closed}
use Rattle.ua_connection.specs.Environments.{Environment, before, or_out_of_memory, clock}
use Rattle.ua_connection.specs.Run.{with_later}
use Rattle.ua_connection.specs.Client.{ClientState, Ending, Answering, ends, goes, refuse, greeted, opened, responded}
use Rattle.ua_connection.specs.Serving.{new_standing}

-- ---- the bytes

-- the greatest size of each chunk: 65,536 bytes of the first, and the granted size of later ones
abbrev pub limits_by : ℕ → ℕ → ℕ
limits_by granted zero = 65536
limits_by granted (suc k) = granted

-- The granted size is the Acknowledge's receive size. Where the first chunk gets no Acknowledge it
-- may be any, since the connection ends there.
abbrev pub IsGranted : List ChunkContent → ℕ → Type 0
IsGranted [] granted = Unit {0}
IsGranted (first ∷ pieces) granted = (hello : Hello) (ack : Ack)
    → hello_at first.body ≡ Ok hello → ack_of hello ≡ Ok ack → granted ≡ ack.receive_size

-- a stream of bytes is these whole chunks, the first alone a Hello, and this rest that is none
pub record Chunked (bytes : List ℕ) : Type 0 where
  pub granted : ℕ
  pub pieces : List ChunkContent
  pub rest : List ℕ
  pub fault : Option UacpFault
  pub splits : AreChunksThenRest (limits_by granted) bytes pieces rest fault
  pub grants : IsGranted pieces granted

-- ---- a chunk of the channel

-- a request to open, behind these chunks: its token is the number of the opening
abbrev pub opening_behind : List Placed → (request handle lifetime : ℕ) → OpenRequest
opening_behind past request handle lifetime =
    let token = openings_of past + 1 in
    record { request_id = request; handle = handle; lifetime = lifetime; token = token }

-- A well placed chunk is answered, `past` being those before it, the newest first. OPN is answered
-- by its opening. The last chunk of a message is answered by the message's service, over all its
-- bodies joined. A chunk within a message, or one that gives it up, is answered by nothing. CLO is
-- the end.
abbrev pub well_placed_answer : ServerConfig → ClientState → ChannelState → List Placed → Placed
    → Answering
well_placed_answer config standing state past (Opens sequence asked) = and_then clock
    (opened standing state (opening_behind past sequence.1 asked.handle asked.lifetime))
well_placed_answer config standing state past (Says Final numbers body) = and_then clock
    (responded config standing state numbers.request_id (bodies_of (open_run past) ++ body))
well_placed_answer config standing state past (Says letter numbers body) =
    give (goes standing [] (Some state))
well_placed_answer config standing state past (Closes numbers) = give (ends standing [] (Ok Closed))

-- Any chunk is answered by its place behind `past`, which is what the channel has heard; one that
-- isn't well placed is refused.
abbrev pub answer_behind : ServerConfig → List Placed → ClientState → ChannelState → ChunkContent
    → Answering
answer_behind config past standing state piece = elim (placed_chunk (heard_of past) piece) [
  | Ok placed ↦
      let with_placed : ChannelState = record state { heard = heard_of (placed ∷ past) } in
      well_placed_answer config standing with_placed past placed
  | Err fault ↦ refuse standing (channel.channel_fault_status fault)
]

-- 1,000,000 chunks are answered and no more
abbrev pub counted_chunk_answer : ServerConfig → List Placed → ClientState → ChunkContent
    → Answering
counted_chunk_answer config past standing piece =
    if standing.client.taken == 1000000 then give (ends standing [] (Err TooLong))
    else elim standing.client.channel [
      | None ↦ refuse standing BAD_TCP_MESSAGE_TYPE_INVALID
      | Some state ↦ answer_behind config past standing state piece
    ]

-- ---- the connection

-- memory for what stands first is had, and it is answered so; or it is wanting, and that is told
abbrev pub had : ClientState → Answering → Answering
had standing answering = or_out_of_memory answering (refuse standing BAD_OUT_OF_MEMORY)

-- the chunks that were taken once this one came
abbrev pub taken_with : List Placed → ChunkContent → List Placed
taken_with past piece =
    elim (placed_chunk (heard_of past) piece) [ Ok placed ↦ placed ∷ past | Err fault ↦ past ]

-- the chunks of the channel behind these are answered one after the other, and then the end
abbrev pub channel_answer
    : ServerConfig → (ClientState → Answering) → List Placed → ClientState → List ChunkContent
    → Answering
channel_answer config end past standing [] = end standing
channel_answer config end past standing (piece ∷ pieces) =
    and_then (had standing (counted_chunk_answer config past standing piece))
    (λ reply.
    let later = channel_answer config end (taken_with past piece) reply.state pieces in
    with_later later reply)

-- the end of the stream: a fault is refused; less than a chunk, or nothing, is the input's end
abbrev pub rest_answer : Option UacpFault → List ℕ → ClientState → Answering
rest_answer (Some fault) rest standing = had standing (refuse standing (uacp_fault_status fault))
rest_answer None [] standing = give (ends standing [] (Ok EndOfInput))
rest_answer None (byte ∷ rest) standing = had standing (give (ends standing [] (Ok EndOfInput)))

-- a whole connection: its Hello is answered, then the chunks of the channel, then the end
abbrev pub chunks_answer : ServerConfig → (ClientState → Answering) → ClientState
    → List ChunkContent → Answering
chunks_answer config end standing [] = end standing
chunks_answer config end standing (first ∷ pieces) =
    and_then (had standing (greeted standing (hello_at first.body)))
    (λ reply. with_later (channel_answer config end [] reply.state pieces) reply)

-- the same of a stream, of a client of whom nothing was answered, over what the archive holds
abbrev pub stream_answer : ServerConfig → Content → (bytes : List ℕ) → Chunked bytes → Answering
stream_answer config R bytes stream =
    chunks_answer config (rest_answer stream.fault stream.rest) (new_standing R) stream.pieces

-- The bytes that came are such chunks and a rest. Their answer, which uses just what `used` has of
-- the outside, is `out`; it ended so, and left `last`.
pub record IsConversed (config : ServerConfig) (R : Content) (came : List ℕ) (used : Environment)
    (out : List ℕ) (ending : Ending) (last : ClientState) : Type 0 where
  pub stream : Chunked came
  pub answers : (later : Environment)
      → stream_answer config R came stream (before used later)
      ≡ (record { out = out; ending = Some ending; state = last }, later)
