-- Sessions: how one is made, activated and closed (Part 4, 5.7.2 to 5.7.4), and who a client says
-- that it is (7.41).
use Rattle.std.specs.Prelude.{◌≡◌, ℕ, ◌<◌, ◌^◌, List, length, map, Option, None, Bool, if◌then◌else◌, pos, []}
use Rattle.std.specs.Option.{option_copied}
use Rattle.std.specs.Int.{w32}
use Rattle.ua_binary.specs.declared.fault.BinaryFault.{BinaryFault}
use Rattle.ua_binary.specs.declared.values.NodeId.{NodeId}
use Rattle.ua_binary.specs.declared.values.NodeId.TheVariants.{Numeric}
use Rattle.ua_binary.specs.declared.values.Body.TheVariants.{Absent}
use Rattle.ua_binary.specs.Format.{Format, block, ◌▸◌, chosen, headed, standing_for, fitting}
use Rattle.ua_binary.specs.Binary.{unsigned, boolean, text, byte_string, node_id, IsNodeId, status, body, IsShortNode}
use Rattle.ua_services.specs.Unkept.{unkept, ◌▹◌, ◌◃◌, many, AreFew, unkept_array, null}
use Rattle.ua_services.specs.Structure.{is_standard_type, structure}
use Rattle.ua_services.specs.Endpoints.{application_description, EndpointFields, endpoint_fields, endpoint_description, AreShortEndpoints}
use Rattle.ua_session.specs.Users.{Claim, Anonymous, Named, Other}
use Rattle.ua_services.specs.declared.sessions.CreateSessionRequest.{CreateSessionRequest}
use Rattle.ua_services.specs.declared.sessions.CreateSessionResponse.{CreateSessionResponse}

-- ---- identities

-- a UserNameIdentityToken: policy id, which isn't kept, user name, password, algorithm of
-- encryption
abbrev pub user_name_form : Format BinaryFault Claim
user_name_form =
    standing_for (λ (name, (password, algorithm)). Named name password algorithm)
    (λ claim.
    elim claim
    [ Named name password algorithm ↦ (name, (password, algorithm)) | _ ↦ (None, (None, None)) ])
    (structure (unkept None text ▹ text ▸ byte_string ▸ text))

-- of a type that isn't known here: the null type without a body is nobody's
abbrev pub unknown_form : NodeId → Format BinaryFault Claim
unknown_form id =
    standing_for
    (λ kept. elim kept [ Absent ↦ if is_standard_type 0 id then Anonymous else Other | _ ↦ Other ])
    (λ _. Absent) body

-- an AnonymousIdentityToken: its policy id, which isn't kept
abbrev pub anonymous_form : Format BinaryFault Claim
anonymous_form = standing_for (λ _. Anonymous) (λ _. tt) (structure (unkept None text))

-- the type id that is written: nobody's is the null type, and something else's that of a
-- certificate
abbrev pub identity_type : Claim → NodeId
identity_type claim =
    elim claim [ Anonymous ↦ Numeric 0 0 | Named _ _ _ ↦ Numeric 0 324 | Other ↦ Numeric 0 327 ]

-- a type, and what it calls for, a structure that fills the body (Part 4, 7.41)
unfoldable pub user_identity : Format BinaryFault Claim
user_identity =
    headed identity_type node_id (λ id.
    chosen (is_standard_type 321 id) anonymous_form
    (chosen (is_standard_type 324 id) user_name_form (unknown_form id)))

-- ---- signatures and certificates

-- algorithm, signature
abbrev pub signature_data : Format BinaryFault (Option (List ℕ) × Option (List ℕ))
signature_data = text ▸ byte_string

-- certificate, signature
abbrev pub signed_software_certificate : Format BinaryFault (Option (List ℕ) × Option (List ℕ))
signed_software_certificate = byte_string ▸ byte_string

-- ---- CreateSession

-- the URL of the endpoint, the name of the session, the timeout as its bytes
abbrev pub session_asked : CreateSessionRequest → Option (List ℕ) × (Option (List ℕ) × List ℕ)
session_asked r = (option_copied r.endpoint_url, (option_copied r.session_name, r.timeout))

-- the client, URI of the server, URL of the endpoint, name, nonce, certificate, timeout, greatest
-- response
unfoldable pub create_session_request : Format BinaryFault
    (Option (List ℕ) × (Option (List ℕ) × List ℕ))
create_session_request =
    unkept
    (None, (None, (record { locale = None; text = None }, (pos 0, [])))) application_description
    ▹ unkept None text ▹ text ▸ text
    ▸ unkept None byte_string ▹ unkept None byte_string ▹ block 8 ◃ unkept 0 (unsigned w32)

-- session id, token, timeout, endpoints, greatest request
abbrev pub SessionMade : Type 0
SessionMade = NodeId × (NodeId × (List ℕ × (List EndpointFields × ℕ)))

abbrev pub session_made : CreateSessionResponse → SessionMade
session_made r = (
  r.session_id,
  (
    r.authentication_token,
    (r.timeout, (map endpoint_fields r.endpoints.items, r.max_request_size)),
  ),
)

-- what has a spelling
abbrev pub IsSessionMade : SessionMade → Type 0
IsSessionMade (session, (token, (timeout, (endpoints, most)))) =
    IsNodeId session × IsNodeId token × (length timeout ≡ 8) × AreFew endpoint_description endpoints
    × (most < 2 ^ 32)

-- session id, token, timeout, nonce, certificate, endpoints, software certificates, signature,
-- greatest request
unfoldable pub create_session_response : Format BinaryFault SessionMade
create_session_response =
    fitting IsSessionMade
    (node_id ▸ node_id ▸ block 8
    ▸ unkept None byte_string ▹ unkept None byte_string ▹ many endpoint_description
    ▸ unkept_array signed_software_certificate ▹ unkept (None, None) signature_data ▹ unsigned w32)

abbrev pub IsShortSession : CreateSessionResponse → Type 0
IsShortSession r =
    IsShortNode r.session_id × IsShortNode r.authentication_token
    × AreShortEndpoints r.endpoints.items

-- ---- ActivateSession and CloseSession

-- signature, software certificates, locales, identity, signature of the token
unfoldable pub activate_session_request : Format BinaryFault Claim
activate_session_request =
    unkept
    (None, None) signature_data ▹ unkept_array signed_software_certificate ▹ unkept_array text ▹
    user_identity ◃ unkept (None, None) signature_data

-- nonce, results of the certificates, diagnostics
unfoldable pub activate_session_response : Format BinaryFault (Unit {0})
activate_session_response = unkept None byte_string ▹ unkept_array status ▹ null

-- whether subscriptions end with it
unfoldable pub close_session_request : Format BinaryFault Bool
close_session_request = boolean
