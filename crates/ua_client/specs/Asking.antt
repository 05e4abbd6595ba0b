-- What a client writes: requests behind their heads, and the chunks that carry them.
use Rattle.std.specs.Prelude.{◌≡◌, ◌+◌, ◌<◌, ◌^◌, ℕ, pos, List, ◌++◌, length, Option, Some, None, Result, Ok, Err}
use Rattle.ua_binary.specs.declared.fault.BinaryFault.{BinaryFault}
use Rattle.ua_binary.specs.declared.fault.BinaryFault.TheVariants.{OutOfMemory}
use Rattle.ua_binary.specs.declared.values.NodeId.TheVariants.{Numeric}
use Rattle.ua_binary.specs.declared.values.Body.TheVariants.{Absent}
use Rattle.ua_binary.specs.Binary.{node_id, node_of, IsShortNode}
use Rattle.uacp.specs.declared.types.Kind.TheVariants.{Hello, Open, Close}
use Rattle.uacp.specs.declared.types.Letter.TheVariants.{Final}
use Rattle.uacp.specs.declared.greeting.Hello.{Hello as HelloFields}
use Rattle.uacp.specs.Greeting.{hello}
use Rattle.ua_channel.specs.Headers.{policy_none, security_header, sequence_header, message_header, request_header, RequestFields, bare_header, open_request, chunk_of}
use Rattle.uacp.specs.Split.{pieces_of}
use Rattle.ua_channel.specs.Sending.{number_after, chunks_of, IsNumber}
use Rattle.ua_session.specs.Users.{Claim, Anonymous, Named}
use Rattle.ua_services.specs.Attributes.{AreShortValues}
use Rattle.ua_services.specs.Updates.{DataUpdate, update_data_details}
use Rattle.ua_client.specs.declared.requests.Header.{Header}
use Rattle.ua_client.specs.declared.requests.Login.{Login}
use Rattle.ua_client.specs.declared.requests.UpdateAsked.{UpdateAsked}

-- ---- requests

-- the header of a request: the session's token, when it was made, its handle, and how long its
-- client waits, in milliseconds; no diagnostics, no entry for an audit log, no additional header
abbrev pub header_fields : Header → RequestFields
header_fields h = (
  node_of h.session,
  (
    h.timestamp,
    (h.handle, (0, (None, (h.timeout, record { type_id = Numeric 0 0; body = Absent })))),
  ),
)

-- what each request begins with: the id of its type, and its header
abbrev pub request_head : (type : ℕ) → Header → List ℕ
request_head type header =
    node_id.canon (Numeric 0 type) ++ request_header.canon (header_fields header)

-- who the user is: by a name with a password, which isn't encrypted, or nobody
abbrev pub claim_in : Option Login → Claim
claim_in login =
    elim login [
      | None ↦ Anonymous
      | Some user ↦ Named (Some user.name.now) (Some user.password.now) None
    ]

-- name and password are few enough bytes to be counted with what stands beside them
abbrev pub IsShortLogin : Login → Type 0
IsShortLogin user = 16 + length user.name.now + length user.password.now < 2 ^ 31

-- the node, what is done, and the values
abbrev pub update_of : UpdateAsked → DataUpdate
update_of asked = (asked.node_id.now, (asked.perform, asked.values.now))

-- the values may be written, and the details are few enough bytes to be counted
abbrev pub IsShortUpdate : DataUpdate → Type 0
IsShortUpdate (node, (perform, values)) =
    IsShortNode node × AreShortValues values
    × (length (update_data_details.canon (node, (perform, values))) < 2 ^ 31)

-- ---- chunks

-- the Hello of a client that gives no URL
abbrev pub greeting : HelloFields → List ℕ
greeting asked = chunk_of Hello Final (hello.canon asked)

-- the first OPN chunk: no channel yet, policy None, and a request for a channel without security
-- that is good for so long, in milliseconds
unfoldable pub opening : (number request lifetime : ℕ) → List ℕ
opening number request lifetime =
    chunk_of Open Final (security_header.canon (0, Some policy_none)
    ++ sequence_header.canon (number, request)
    ++ open_request.canon
    (record { handle = request; request_type = pos 0; mode = pos 1; lifetime = lifetime }))

-- the CLO chunk that ends channel 1
unfoldable pub closing : (token number request : ℕ) → List ℕ
closing token number request =
    chunk_of Close Final (message_header.canon
    (record { channel_id = 1; token = token; number = number; request_id = request })
    ++ node_id.canon (Numeric 0 452) ++ request_header.canon (bare_header request))

-- a message was appended in chunks of pieces of at most so many bytes, and the number after theirs
-- is told; or memory was wanting, and all is as it was
abbrev pub PutsMessage : (size token request number : ℕ) → (body : List ℕ) → Result ℕ BinaryFault
    → (before now : List ℕ) → Type 0
PutsMessage size token request number body (Ok next) before now =
    (now ≡ before ++ chunks_of token request number (pieces_of size body))
    × (next ≡ number_after number (length (pieces_of size body))) × IsNumber next
PutsMessage size token request number body (Err fault) before now =
    (fault ≡ OutOfMemory) × (now ≡ before)
