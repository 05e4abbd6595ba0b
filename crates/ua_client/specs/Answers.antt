-- What a client reads of the server's answers.
use Rattle.std.specs.Prelude.{ℕ, ◌^◌, ◌==◌, ◌&&◌, nat_lt, Bool, not, List, [], ◌∷◌, ◌++◌, map, Option, Some, Result, Ok, Err, if◌then◌else◌}
use Rattle.std.specs.Option.{option_copied}
use Rattle.ua_binary.specs.declared.fault.BinaryFault.{BinaryFault}
use Rattle.ua_binary.specs.declared.codes.Status.{Status}
use Rattle.ua_binary.specs.declared.values.NodeId.{NodeId}
use Rattle.ua_binary.specs.declared.values.Ticks.{Ticks}
use Rattle.std.specs.Int.{w32}
use Rattle.ua_binary.specs.Format.{Format, ◌▸◌}
use Rattle.ua_binary.specs.Binary.{unsigned, node_id, node_of, localized_of}
use Rattle.uacp.specs.declared.greeting.Ack.{Ack}
use Rattle.uacp.specs.Greeting.{acknowledge, error}
use Rattle.uacp.specs.declared.types.Letter.TheVariants.{Final}
use Rattle.uacp.specs.declared.types.Kind.TheVariants.{Open}
use Rattle.uacp.specs.Chunks.{chunk_letters}
use Rattle.ua_channel.specs.Headers.{response_header, policy_none, security_header, sequence_header}
use Rattle.ua_services.specs.Structure.{is_standard_type}
use Rattle.ua_services.specs.Endpoints.{ApplicationFields, TokenFields, EndpointFields}
use Rattle.ua_services.specs.Sessions.{SessionMade}
use Rattle.ua_client.specs.declared.endpoints.Application.{Application}
use Rattle.ua_client.specs.declared.endpoints.Token.{Token}
use Rattle.ua_client.specs.declared.endpoints.Endpoint.{Endpoint}
use Rattle.ua_client.specs.declared.fault.ClientFault.{ClientFault}
use Rattle.ua_client.specs.declared.fault.ClientFault.TheVariants.{Refused, Format as NoAnswer}
use Rattle.ua_client.specs.declared.responses.Certificate.{Certificate}
use Rattle.ua_client.specs.declared.responses.Granted.{Granted}
use Rattle.ua_client.specs.declared.responses.Opened.{Opened}
use Rattle.ua_client.specs.declared.responses.ResponseHeader.{ResponseHeader}
use Rattle.ua_client.specs.declared.responses.UpdateResult.{UpdateResult}

-- ---- structures in the bytes that they were read from

-- an application, as its format has it
abbrev pub application_in : Application → ApplicationFields
application_in v =
    let urls = map option_copied v.discovery_urls.items in (
      option_copied v.application_uri,
      (
        option_copied v.product_uri,
        (localized_of v.application_name, (v.application_type, urls)),
      ),
    )

abbrev pub token_in : Token → TokenFields
token_in v = (option_copied v.policy_id, v.token_type)

abbrev pub endpoint_in : Endpoint → EndpointFields
endpoint_in v = (
  option_copied v.endpoint_url,
  (
    application_in v.server,
    (
      v.security_mode,
      (
        option_copied v.security_policy_uri,
        (map token_in v.tokens.items, (option_copied v.transport_profile_uri, v.security_level)),
      ),
    ),
  ),
)

abbrev pub certificate_in : Certificate → Option (List ℕ) × Option (List ℕ)
certificate_in v = (option_copied v.bytes, option_copied v.signature)

abbrev pub made_in : Granted → SessionMade
made_in v = (
  node_of v.session_id,
  (
    node_of v.authentication_token,
    (v.timeout, (map endpoint_in v.endpoints.items, v.max_request_size)),
  ),
)

abbrev pub update_in : UpdateResult → Status × List Status
update_in v = (v.status, v.operation_results)

-- the header of a response, as its format has it
abbrev pub header_in : ResponseHeader → Ticks × (ℕ × Status)
header_in v = (v.timestamp, (v.handle, v.status))

-- an OpenSecureChannel response, as its format has it
abbrev pub opened_fields : Opened → (Ticks × (ℕ × Status)) × (ℕ × (Ticks × ℕ))
opened_fields v = (header_in v.header, (v.token, (v.created_at, v.lifetime)))

-- ---- messages

-- what each response begins with: the id of its type, its moment, the request's handle, a status
abbrev pub response_head : Format BinaryFault (NodeId × (Ticks × (ℕ × Status)))
response_head = node_id ▸ response_header

-- its severity is good
abbrev pub is_good : Status → Bool
is_good status = nat_lt status.0 (2 ^ 30)

-- what stands behind the head of a response of this type to the request of this handle; one whose
-- status isn't good, as each ServiceFault's, refuses the request, and another is no answer
abbrev pub judged : (type handle : ℕ) → NodeId × (Ticks × (ℕ × Status)) → (body : List ℕ)
    → Result (List ℕ) ClientFault
judged type handle (id, (time, (number, status))) body =
    if not (is_good status) then Err (Refused status)
    else if is_standard_type type id && number == handle then Ok body else Err NoAnswer

-- what a message answers to a request of this handle by a response of this type
abbrev pub body_in : (type handle : ℕ) → (message : List ℕ) → Result (List ℕ) ClientFault
body_in type handle message =
    elim (response_head.read message)
    [ Ok (head, body) ↦ judged type handle head body | Err fault ↦ Err NoAnswer ]

-- the code of the Error that a chunk is; another chunk is no answer
abbrev pub chunk_refusal : (chunk : List ℕ) → ClientFault
chunk_refusal chunk =
    elim (error.read chunk) [
      | Ok (status, []) ↦ Refused status
      | Ok (status, byte ∷ rest) ↦ NoAnswer
      | Err fault ↦ NoAnswer
    ]

-- the Acknowledge that a chunk is; an Error refuses the greeting
abbrev pub acknowledge_in : (chunk : List ℕ) → Result Ack ClientFault
acknowledge_in chunk =
    elim (acknowledge.read chunk) [
      | Ok (ack, []) ↦ Ok ack
      | Ok (ack, byte ∷ rest) ↦ Err NoAnswer
      | Err fault ↦ Err (chunk_refusal chunk)
    ]

-- the front of an OPN chunk of this size, of channel 1
abbrev pub opened_front : (size number request : ℕ) → List ℕ
opened_front size number request =
    chunk_letters Open Final ++ (unsigned w32).canon size ++ security_header.canon
    (1, Some policy_none)
    ++ sequence_header.canon (number, request)
