-- What goes over a line to a server and comes back: messages in chunks, and what a client asks.
use Rattle.std.specs.Prelude.{◌≡◌, ℕ, ◌+◌, ◌-◌, ◌==◌, ◌<◌, ◌≤◌, List, [], ◌∷◌, ◌++◌, length, take, drop, Option, None, Ok, true, if◌then◌else◌}
use Rattle.std.specs.Option.{option_copied}
use Rattle.std.specs.Io.KnownBytes.{Appends, Consumes}
use Rattle.ua_binary.specs.declared.values.NodeId.{NodeId}
use Rattle.ua_binary.specs.declared.values.NodeId.TheVariants.{Numeric}
use Rattle.ua_binary.specs.declared.values.Body.TheVariants.{Absent}
use Rattle.ua_binary.specs.declared.values.Ticks.{Ticks}
use Rattle.ua_binary.specs.declared.codes.Status.{Status}
use Rattle.ua_binary.specs.Binary.{node_id}
use Rattle.counted_io.specs.Bytes.{AppendsPart}
use Rattle.ua_channel.specs.Headers.{request_header, open_response}
use Rattle.uacp.specs.declared.greeting.Hello.{Hello}
use Rattle.uacp.specs.declared.greeting.Ack.{Ack}
use Rattle.ua_session.specs.Users.{Claim}
use Rattle.ua_services.specs.Endpoints.{EndpointFields}
use Rattle.ua_services.specs.Sessions.{create_session_request, create_session_response, activate_session_request, activate_session_response, close_session_request}
use Rattle.ua_services.specs.Updates.{DataUpdate, UpdateData, history_update_request, history_update_response}
use Rattle.ua_client.specs.declared.line.Line.{Line}
use Rattle.ua_client.specs.declared.requests.NewSession.{NewSession}
use Rattle.ua_client.specs.declared.responses.Opened.{Opened}
use Rattle.ua_client.specs.Answers.{body_in, acknowledge_in, opened_front, opened_fields, is_good}
use Rattle.ua_client.specs.Asking.{greeting, opening}
use Rattle.uacp.specs.Split.{joined, pieces_of}
use Rattle.ua_channel.specs.Sending.{number_after, chunks_of}

-- ---- a line

-- what is still to come from the server, and what was written to it, as far as that is known
pub record Flow : Type 0 where
  pub unread : Option (List ℕ)
  pub sent : Option (List ℕ)

-- what flows over a line, by what its reader has left and what its writer holds
abbrev pub flow_of : {R W : Type 0} → (remaining : R → Option (List ℕ))
    → (contents : W → Option (List ℕ)) → Line R W → Flow
flow_of remaining contents line =
    record { unread = remaining line.reader.inner; sent = contents line.writer.inner }

-- these bytes were written
abbrev pub SendsBytes : (before after : Flow) → (bytes : List ℕ) → Type 0
SendsBytes before after bytes = Appends before.sent after.sent bytes

-- a first part of these bytes was written, and nothing else
abbrev pub SendsPart : (before after : Flow) → (bytes : List ℕ) → Type 0
SendsPart before after bytes = AppendsPart before.sent after.sent bytes

-- these bytes were read
abbrev pub HearsBytes : (before after : Flow) → (bytes : List ℕ) → Type 0
HearsBytes before after bytes = Consumes before.unread after.unread bytes

-- a message came in chunks whose numbers run on from this one, and the next one's is this
abbrev pub HearsMessage : (token first request : ℕ) → (unread rest : Option (List ℕ))
    → (message : List ℕ) → (next : ℕ) → Type 0
HearsMessage token first request unread rest message next =
    (pieces : List (List ℕ)) × (joined pieces ≡ message)
    × Consumes unread rest (chunks_of token request first pieces)
    × (next ≡ number_after first (length pieces)) × (0 < next) × (next ≤ 4294966272)

-- ---- a client

-- the greatest chunk that the server takes; the channel's token; the sequence numbers of the next
-- chunk that is sent and of the next one that comes; the id of the next request; the session's
-- token
pub record CallerState : Type 0 where
  pub limit : ℕ
  pub token : ℕ
  pub number : ℕ
  pub heard : ℕ
  pub request : ℕ
  pub session : NodeId

-- the id of the request after the one with this id
abbrev pub request_after : ℕ → ℕ
request_after request = if request == 4294967295 then 1 else request + 1

-- the bytes of a message in the chunks that a client sends
abbrev pub message_of : CallerState → (body : List ℕ) → List ℕ
message_of c body = chunks_of c.token c.request c.number (pieces_of (c.limit - 24) body)

-- a message was sent, and this one answered it
pub record AsksServer (old new : CallerState) (body message : List ℕ)
    (before after : Flow) : Type 0 where
  pub sends : SendsBytes before after (message_of old body)
  pub hears :
      HearsMessage old.token old.heard old.request before.unread after.unread message new.heard
  pub goes_on : new ≡ record old {
    number = number_after old.number (length (pieces_of (old.limit - 24) body));
    heard = new.heard;
    request = request_after old.request;
  }

-- a request was sent, and this stood behind the header of the response of this type that answered
-- it
pub record Responds (old new : CallerState) (body : List ℕ) (type : ℕ) (told : List ℕ)
    (before after : Flow) : Type 0 where
  pub message : List ℕ
  pub asks : AsksServer old new body message before after
  pub answers : body_in type old.request message ≡ Ok told

-- ---- what is asked

-- what the next request begins with, at this moment: its client waits a minute
abbrev pub head_of : CallerState → (type : ℕ) → (now : Ticks) → List ℕ
head_of c type now =
    node_id.canon (Numeric 0 type) ++ request_header.canon (
      c.session,
      (now, (c.request, (0, (None, (60000, record { type_id = Numeric 0 0; body = Absent }))))),
    )

-- the HistoryUpdate that brings these values to a node
abbrev pub update_request : CallerState → (now : Ticks) → DataUpdate → List ℕ
update_request c now update =
    head_of c 700 now ++ history_update_request.canon (UpdateData update ∷ [])

-- these bytes are a HistoryUpdate response with this result alone
abbrev pub IsOnlyResult : (told : List ℕ) → Status × List Status → Type 0
IsOnlyResult told done = history_update_response.read told ≡ Ok (done ∷ [], [])

-- an update was sent, and this one result answered it
abbrev pub Updates : (old new : CallerState) → (body : List ℕ) → Status × List Status
    → (before after : Flow) → Type 0
Updates old new body done before after =
    (told : List ℕ) × Responds old new body 703 told before after × IsOnlyResult told done

-- the ActivateSession of who claims to be this
abbrev pub activate_request : CallerState → (now : Ticks) → Claim → List ℕ
activate_request c now claim = head_of c 467 now ++ activate_session_request.canon claim

-- it was sent, and a response answered it
abbrev pub Activates : (old new : CallerState) → (body : List ℕ) → (before after : Flow) → Type 0
Activates old new body before after =
    (told : List ℕ) × Responds old new body 470 told before after
    × (activate_session_response.read told ≡ Ok (tt, []))

-- the CloseSession that ends subscriptions too
abbrev pub close_request : CallerState → (now : Ticks) → List ℕ
close_request c now = head_of c 473 now ++ close_session_request.canon true

-- what a client asks for as it greets a server: chunks of at most 65,536 bytes either way, and
-- messages of at most 64
abbrev pub hello_asked : Hello
hello_asked =
    record {
      version = 0;
      receive_size = 65536;
      send_size = 65536;
      max_message = 0;
      max_chunks = 64;
    }

-- the CreateSession that asks for this
abbrev pub create_request : CallerState → (now : Ticks) → NewSession → List ℕ
create_request c now asked =
    head_of c 461 now ++ create_session_request.canon
    (option_copied asked.endpoint_url, (option_copied asked.name, asked.timeout.now))

-- these bytes are a CreateSession response that grants this token
abbrev pub IsSession : (told : List ℕ) → (token : NodeId) → Type 0
IsSession told token =
    (id : NodeId) × (more : List ℕ × (List EndpointFields × ℕ))
    × (create_session_response.read told ≡ Ok ((id, (token, more)), []))

-- it was sent, and a response that grants the session's token answered it
abbrev pub Opens : (old new : CallerState) → (body : List ℕ) → (before after : Flow) → Type 0
Opens old new body before after =
    (between : CallerState) × (told : List ℕ)
    × Responds old between body 464 told before after × IsSession told new.session
    × (new ≡ record between { session = new.session })

-- ---- how it begins

-- what is written first: a greeting, and the opening of a channel that is good for so long
abbrev pub connecting : (lifetime : ℕ) → List ℕ
connecting lifetime = greeting hello_asked ++ opening 1 1 lifetime

-- this chunk answers the first opening: it opens channel 1 by this
pub record AnswersOpening (chunk : List ℕ) (opened : Opened) : Type 0 where
  pub front : take 79 chunk ≡ opened_front (length chunk) 1 1
  pub reads : open_response.read (drop 79 chunk) ≡ Ok (opened_fields opened, [])
  pub same : opened.header.handle ≡ 1
  pub good : is_good opened.header.status ≡ true

-- a server was greeted and a channel opened: what came is an Acknowledge and what answers the
-- opening, and the client begins by them, without a session
pub record Connects (client : CallerState) (lifetime : ℕ) (before after : Flow) : Type 0 where
  pub ack : Ack
  pub opened : Opened
  pub first : List ℕ
  pub second : List ℕ
  pub sends : SendsBytes before after (connecting lifetime)
  pub hears : HearsBytes before after (first ++ second)
  pub acknowledges : acknowledge_in first ≡ Ok ack
  pub opens : AnswersOpening second opened
  pub begins : client ≡ record {
    limit = ack.receive_size;
    token = opened.token;
    number = 2;
    heard = 2;
    request = 2;
    session = Numeric 0 0;
  }
