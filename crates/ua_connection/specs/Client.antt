-- What a client's chunks are answered, one after the other (Part 6, 6.7 and 7.1; Part 4, 7.33 to
-- 7.35).
use Rattle.std.specs.Prelude.{ℕ, ◌+◌, ◌==◌, if◌then◌else◌, Bool, true, false, List, [], ◌∷◌, length, Option, None, Some, Result, Ok, Err}
use Rattle.ua_binary.specs.declared.codes.Status.{Status}
use Rattle.ua_binary.specs.declared.codes.TheConstants.Status.{BAD_OUT_OF_MEMORY, BAD_RESPONSE_TOO_LARGE, BAD_TCP_MESSAGE_TYPE_INVALID}
use Rattle.ua_binary.specs.declared.values.Ticks.{Ticks}
use Rattle.uacp.specs.declared.types.Header.{Header}
use Rattle.uacp.specs.declared.types.Kind.{Kind}
use Rattle.uacp.specs.declared.types.Kind.TheVariants.{Hello}
use Rattle.uacp.specs.declared.types.UacpFault.{UacpFault}
use Rattle.uacp.specs.declared.greeting.Hello.{Hello as HelloNumbers}
use Rattle.uacp.specs.declared.greeting.Ack.{Ack}
use Rattle.uacp.specs.Stream.{ChunkContent, piece_at}
use Rattle.uacp.specs.Chunks.{chunk_header}
use Rattle.uacp.specs.Greeting.{hello_at, ack_of, acknowledge, error}
use Rattle.uacp.specs.Fault.{uacp_fault_status}
use Rattle.ua_channel.specs.Fault as channel
use Rattle.ua_channel.specs.declared.fault.ChannelFault.{ChannelFault}
use Rattle.ua_channel.specs.declared.taken.OpenRequest.{OpenRequest}
use Rattle.ua_channel.specs.declared.taken.Taken.{Taken}
use Rattle.ua_channel.specs.declared.taken.Taken.TheVariants as taken
use Rattle.ua_channel.specs.Placed.{Placed, placed_chunk}
use Rattle.ua_channel.specs.Taking.{ChannelState, new_channel, heard_after, taken_answer}
use Rattle.ua_channel.specs.Sending.{opened_chunk, number_after, message_bytes, chunk_count, is_fitting}
use Rattle.ua_session.specs.Sessions as session
use Rattle.records.specs.Contents.{Content}
use Rattle.historian.specs.Services.{ServerConfig, MessageOutcome, answered as performed}
use Rattle.historian.specs.Requests.{handle_of}
use Rattle.historian.specs.Answers.{response, service_fault, Response}
use Rattle.ua_connection.specs.declared.outcome.Served.{Served}
use Rattle.ua_connection.specs.declared.outcome.Served.TheVariants.{EndOfInput, Closed, Refused}
use Rattle.counted_io.specs.declared.fault.ServeFault.{ServeFault}
use Rattle.counted_io.specs.declared.fault.ServeFault.TheVariants.{TooLong, OutOfMemory}
use Rattle.archive.specs.Steps.{give, and_then}
use Rattle.ua_connection.specs.Environments.{WithEnvironment, by_marks, or_out_of_memory, clock}
use Rattle.ua_connection.specs.Run.{Reply, Protocol}

-- what is known of a client between two chunks: whether it was greeted, the greatest size of a
-- chunk that it may send, how many were taken, its channel and its sessions
pub record Client : Type 0 where
  pub greeted : Bool
  pub limit : ℕ
  pub taken : ℕ
  pub channel : Option ChannelState
  pub sessions : session.SessionsState

-- before the first chunk
abbrev pub new_client : Client
new_client =
    record
    { greeted = false; limit = 65536; taken = 0; channel = None; sessions = session.no_sessions }

-- a client, and what the archive holds
abbrev pub ClientState : Type 0
ClientState = record { client : Client; content : Content }

-- how a client's connection ended
abbrev pub Ending : Type 0
Ending = Result Served ServeFault

-- an answer to an item, by what the environment gives
abbrev pub Answering : Type 0
Answering = WithEnvironment (Reply ClientState Ending)

-- this is written, and the connection ends so
abbrev pub ends : ClientState → List ℕ → Ending → Reply ClientState Ending
ends standing out ending = record { out = out; ending = Some ending; state = standing }

-- a client that was greeted, with one chunk more that was taken, and this channel
abbrev pub client_on : Client → Option ChannelState → Client
client_on client channel =
    record client { greeted = true; taken = client.taken + 1; channel = channel }

-- this is written, one chunk more is counted, and the connection goes on
abbrev pub goes : ClientState → List ℕ → Option ChannelState → Reply ClientState Ending
goes standing out channel =
    record {
      out = out;
      ending = None;
      state = record standing { client = client_on standing.client channel };
    }

-- an ERR with this code ends the connection; without memory for it nothing is written, and it ends
-- by OutOfMemory
abbrev pub refuse : ClientState → Status → Answering
refuse standing code =
    or_out_of_memory (give (ends standing (error.canon code) (Ok (Refused code))))
    (give (ends standing [] (Err OutOfMemory)))

-- ---- the greeting

-- the answer to a Hello, by the Acknowledge that it comes to; its receive size is the client's
-- limit from then on
abbrev pub acknowledged : ClientState → HelloNumbers → Result Ack UacpFault → Answering
acknowledged standing hello (Err fault) = refuse standing (uacp_fault_status fault)
acknowledged standing hello (Ok ack) =
    or_out_of_memory
    (give
    (goes (record standing { client = record standing.client { limit = ack.receive_size } })
    (acknowledge.canon ack) (Some (new_channel hello ack)))) (refuse standing BAD_OUT_OF_MEMORY)

-- a Hello is answered (Part 6, 7.1.2.3)
abbrev pub greeted : ClientState → Result HelloNumbers UacpFault → Answering
greeted standing result =
    elim result [
      | Err fault ↦ refuse standing (uacp_fault_status fault)
      | Ok hello ↦ acknowledged standing hello (ack_of hello)
    ]

-- ---- the channel

-- an opening is answered at this moment, or memory for that is wanting
abbrev pub opened : ClientState → ChannelState → OpenRequest → Ticks → Answering
opened standing state request now =
    or_out_of_memory
    (give
    (goes standing (opened_chunk state.next request now)
    (Some (record state { next = number_after state.next 1 }))))
    (refuse standing BAD_OUT_OF_MEMORY)

-- what doesn't fit what the client takes becomes a ServiceFault that says so, which is sent
-- whatever the limits
abbrev pub fitted : ChannelState → Ticks → ℕ → List ℕ → List ℕ
fitted state now handle body =
    if is_fitting state (length body) then body else service_fault now handle BAD_RESPONSE_TOO_LARGE

-- a response is written, as chunks of the channel
abbrev pub sent_response : ClientState → ChannelState → ℕ → List ℕ → Reply ClientState Ending
sent_response standing state request body =
    goes standing (message_bytes state request body)
    (Some (record state { next = number_after state.next (chunk_count state body) }))

-- the client with these sessions, over what is held then
abbrev pub after_outcome : ClientState → MessageOutcome → ClientState
after_outcome standing ((response, sessions), content) =
    record { client = record standing.client { sessions = sessions }; content = content }

-- the response of an outcome
abbrev pub response_in : MessageOutcome → Response
response_in ((response, sessions), content) = response

-- the bytes of a response, or of what takes its place where it is too large for the client
abbrev pub response_bytes : ChannelState → ℕ → Ticks → Response → List ℕ
response_bytes state handle now result = fitted state now handle (response now handle result)

-- the response is a ServiceFault that says that memory was wanting; where it is wanting for that
-- too, nothing is written
abbrev pub starved_response : ClientState → ChannelState → ℕ → ℕ → Ticks → Answering
starved_response standing state request handle now =
    or_out_of_memory
    (give (sent_response standing state request (service_fault now handle BAD_OUT_OF_MEMORY)))
    (give (ends standing [] (Err OutOfMemory)))

-- what a message comes to is told by its response, or by a ServiceFault: where the response is too
-- large for the client, or memory for it is wanting; and what was done stands. `request` is its id
abbrev pub outcome_response : ClientState → ChannelState → ℕ → List ℕ → Ticks → MessageOutcome
    → Answering
outcome_response standing state request message now outcome =
    let new = after_outcome standing outcome in
    let handle = handle_of message in
    let body = response_bytes state handle now (response_in outcome) in
    or_out_of_memory (give (sent_response new state request body))
    (starved_response new state request handle now)

-- a message that a channel gave is answered by its service
abbrev pub responded : ServerConfig → ClientState → ChannelState → ℕ → List ℕ → Ticks → Answering
responded config standing state request message now =
    and_then (by_marks (performed config now message standing.client.sessions standing.content))
    (outcome_response standing state request message now)

-- what a chunk came to is answered, by one reading of the clock for each opening and each whole
-- message
abbrev pub answer_to_taken : ServerConfig → ClientState → ChannelState → Taken → Answering
answer_to_taken config standing state taken.Nothing = give (goes standing [] (Some state))
answer_to_taken config standing state (taken.Opening request) =
    and_then clock (opened standing state request)
answer_to_taken config standing state (taken.Message request message) =
    and_then clock (responded config standing state request message)
answer_to_taken config standing state (taken.Aborted request) = give (goes standing [] (Some state))
answer_to_taken config standing state taken.Closed = give (ends standing [] (Ok Closed))

-- a channel that took a well placed chunk
abbrev pub with_chunk : ChannelState → Placed → ChannelState
with_chunk state placed = record state { heard = heard_after state.heard placed }

-- by its place among the chunks before it: a well placed one is answered, and another one refused
abbrev pub placed_answer : ServerConfig → ClientState → ChannelState → Result Placed ChannelFault
    → Answering
placed_answer config standing state given =
    elim given [
      | Ok placed ↦ answer_to_taken config standing (with_chunk state placed)
          (taken_answer state.heard placed)
      | Err fault ↦ refuse standing (channel.channel_fault_status fault)
    ]

-- a chunk that is no Hello: its channel takes it; without an Acknowledge before it, it is refused
abbrev pub channel_chunk_answer : ServerConfig → ClientState → Option ChannelState → ChunkContent
    → Answering
channel_chunk_answer config standing given piece =
    elim given [
      | None ↦ refuse standing BAD_TCP_MESSAGE_TYPE_INVALID
      | Some state ↦ placed_answer config standing state (placed_chunk state.heard piece)
    ]

-- a whole chunk is answered, by its kind; a second Hello is malformed (`chunk_header`)
abbrev pub chunk_answer : ServerConfig → ClientState → Kind → ChunkContent → Answering
chunk_answer config standing kind piece =
    elim kind [
      | Hello ↦ greeted standing (hello_at piece.body)
      | _ ↦ channel_chunk_answer config standing standing.client.channel piece
    ]

-- ---- connections

-- what stands first in the bytes that are left: a whole chunk, a fault, or less than a chunk
pub data Item : Type 0 where
  whole : ChunkContent → Item
  malformed : UacpFault → Item
  partial : Item

-- a chunk is answered, but the 1,000,001st ends it unanswered; a fault is refused; a part of one at
-- the end of the input ends it
abbrev pub item_answer : ServerConfig → ClientState → Item → Answering
item_answer config standing (whole piece) =
    if standing.client.taken == 1000000 then give (ends standing [] (Err TooLong))
    else chunk_answer config standing piece.kind piece
item_answer config standing (malformed fault) = refuse standing (uacp_fault_status fault)
item_answer config standing partial = give (ends standing [] (Ok EndOfInput))

-- memory for what stands first is had, and it is answered; or it is wanting
abbrev pub answer : ServerConfig → ClientState → Item → Answering
answer config standing item =
    or_out_of_memory (item_answer config standing item) (refuse standing BAD_OUT_OF_MEMORY)

-- the item that this header, or its want, makes of some bytes, and how many of them it has
abbrev pub found : List ℕ → Result (Option Header) UacpFault → Item × ℕ
found bytes result =
    elim result [
      | Ok None ↦ (partial, length bytes)
      | Ok (Some header) ↦ (whole (piece_at header bytes), header.size)
      | Err fault ↦ (malformed fault, length bytes)
    ]

-- the header of the first chunk, none where that isn't whole, or the fault that stands there
abbrev pub header_at : Client → List ℕ → Result (Option Header) UacpFault
header_at client bytes = chunk_header client.greeted client.limit bytes

-- the item that stands first, and how many bytes it has; none where no bytes are left
abbrev pub next : ClientState → List ℕ → Option (Item × ℕ)
next standing list =
    elim list [
      | [] ↦ None
      | b ∷ bytes ↦ Some (found (b ∷ bytes) (header_at standing.client (b ∷ bytes)))
    ]

-- the protocol of a client's connection
abbrev pub chunks : ServerConfig → Protocol ClientState Item Ending
chunks config = record { next = next; answer = answer config; at_end = Ok EndOfInput }
