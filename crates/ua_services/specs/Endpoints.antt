-- Endpoints, and the request for them (Part 4, 5.5.4, 7.2, 7.14 and 7.42).
use Rattle.std.specs.Prelude.{ℕ, ◌<◌, ◌^◌, ℤ, pos, List, length, map, All, Option, None}
use Rattle.std.specs.Option.{option_copied}
use Rattle.std.specs.Int.{w32}
use Rattle.std.specs.Int.RustNames.{FitsSigned}
use Rattle.ua_binary.specs.declared.fault.BinaryFault.{BinaryFault}
use Rattle.ua_binary.specs.declared.values.LocalizedText.{LocalizedText}
use Rattle.ua_binary.specs.Format.{Format, byte, ◌▸◌, fitting}
use Rattle.ua_binary.specs.Binary.{signed, text, IsText, byte_string, localized, IsLocalized, IsCounted, IsShortLocalized}
use Rattle.ua_services.specs.Unkept.{unkept, ◌▹◌, ◌◃◌, many, AreFew, unkept_array}
use Rattle.ua_services.specs.declared.endpoints.ApplicationType.{ApplicationType}
use Rattle.ua_services.specs.declared.endpoints.ApplicationType.TheVariants.{Server, Client, ClientAndServer, DiscoveryServer}
use Rattle.ua_services.specs.declared.endpoints.MessageSecurityMode.{MessageSecurityMode}
use Rattle.ua_services.specs.declared.endpoints.MessageSecurityMode.TheVariants as mode
use Rattle.ua_services.specs.declared.endpoints.UserTokenType.{UserTokenType}
use Rattle.ua_services.specs.declared.endpoints.UserTokenType.TheVariants.{Anonymous, UserName}
use Rattle.ua_services.specs.declared.endpoints.ApplicationDescription.{ApplicationDescription}
use Rattle.ua_services.specs.declared.endpoints.UserTokenPolicy.{UserTokenPolicy}
use Rattle.ua_services.specs.declared.endpoints.EndpointDescription.{EndpointDescription}
use Rattle.ua_services.specs.declared.endpoints.GetEndpointsRequest.{GetEndpointsRequest}

-- ---- enumerations

-- the number of an ApplicationType (Part 4, 7.4)
abbrev pub application_number : ApplicationType → ℤ
application_number v =
    elim v [ Server ↦ pos 0 | Client ↦ pos 1 | ClientAndServer ↦ pos 2 | DiscoveryServer ↦ pos 3 ]

-- the number of a MessageSecurityMode (Part 4, 7.20)
abbrev pub mode_number : MessageSecurityMode → ℤ
mode_number v =
    elim v
    [ mode.Invalid ↦ pos 0 | mode.None ↦ pos 1 | mode.Sign ↦ pos 2 | mode.SignAndEncrypt ↦ pos 3 ]

-- the number of a UserTokenType (Part 4, 7.43)
abbrev pub token_number : UserTokenType → ℤ
token_number v = elim v [ Anonymous ↦ pos 0 | UserName ↦ pos 1 ]

-- ---- applications

-- URI, product URI, name, type, discovery URLs
abbrev pub ApplicationFields : Type 0
ApplicationFields =
    Option (List ℕ) × (Option (List ℕ) × (LocalizedText × (ℤ × List (Option (List ℕ)))))

abbrev pub application_fields : ApplicationDescription → ApplicationFields
application_fields v = (
  v.application_uri,
  (
    v.product_uri,
    (v.application_name, (application_number v.application_type, v.discovery_urls)),
  ),
)

-- what has a spelling
abbrev pub IsApplication : ApplicationFields → Type 0
IsApplication (uri, (product, (name, (type, urls)))) =
    IsText uri × IsText product × IsLocalized name × FitsSigned w32 type × AreFew text urls

-- URI, product URI, name, type, URI of a gateway, URI of a discovery profile, discovery URLs
unfoldable pub application_description : Format BinaryFault ApplicationFields
application_description =
    fitting IsApplication
    (text ▸ text ▸ localized ▸ signed w32 ▸ unkept None text ▹ unkept None text ▹ many text)

abbrev pub IsShortTexts : List (Option (List ℕ)) → Type 0
IsShortTexts texts = (length texts < 2 ^ 31) × All (λ v. IsCounted v) texts

abbrev pub IsShortApplication : ApplicationDescription → Type 0
IsShortApplication v =
    IsCounted v.application_uri × IsCounted v.product_uri × IsShortLocalized v.application_name
    × IsShortTexts v.discovery_urls

-- ---- tokens

-- policy id, type of the token
abbrev pub TokenFields : Type 0
TokenFields = Option (List ℕ) × ℤ

abbrev pub token_fields : UserTokenPolicy → TokenFields
token_fields v = (v.policy_id, token_number v.token_type)

-- policy id, type of the token, type of an issued one, URL of its issuer, security policy
unfoldable pub user_token_policy : Format BinaryFault TokenFields
user_token_policy =
    fitting (λ v. IsText v.0 × FitsSigned w32 v.1)
    (text ▸ signed w32 ◃ unkept None text ◃ unkept None text ◃ unkept None text)

abbrev pub IsShortToken : UserTokenPolicy → Type 0
IsShortToken v = IsCounted v.policy_id

-- ---- endpoints

-- security mode, security policy, tokens, transport profile, security level
abbrev pub AccessFields : Type 0
AccessFields = ℤ × (Option (List ℕ) × (List TokenFields × (Option (List ℕ) × ℕ)))

-- URL, the server, and these
abbrev pub EndpointFields : Type 0
EndpointFields = Option (List ℕ) × (ApplicationFields × AccessFields)

abbrev pub access_fields : EndpointDescription → AccessFields
access_fields v = (
  mode_number v.security_mode,
  (
    v.security_policy_uri,
    (map token_fields v.user_identity_tokens, (v.transport_profile_uri, v.security_level)),
  ),
)

abbrev pub endpoint_fields : EndpointDescription → EndpointFields
endpoint_fields v = (v.endpoint_url, (application_fields v.server, access_fields v))

-- what has a spelling
abbrev pub IsAccess : AccessFields → Type 0
IsAccess (security, (policy, (tokens, (transport, level)))) =
    FitsSigned w32 security × IsText policy × AreFew user_token_policy tokens × IsText transport
    × (level < 2 ^ 8)

-- how an endpoint is reached: security mode, security policy, tokens, transport profile, security
-- level
unfoldable pub access : Format BinaryFault AccessFields
access = fitting IsAccess (signed w32 ▸ text ▸ many user_token_policy ▸ text ▸ byte)

-- URL, the server, its certificate, and how it is reached
unfoldable pub endpoint_description : Format BinaryFault EndpointFields
endpoint_description =
    fitting (λ (url, (server, access)). IsText url × IsApplication server × IsAccess access)
    (text ▸ application_description ▸ unkept None byte_string ▹ access)

abbrev pub IsShortAccess : EndpointDescription → Type 0
IsShortAccess v =
    IsCounted v.security_policy_uri × (length v.user_identity_tokens < 2 ^ 31)
    × All IsShortToken v.user_identity_tokens × IsCounted v.transport_profile_uri

abbrev pub IsShortEndpoint : EndpointDescription → Type 0
IsShortEndpoint v = IsCounted v.endpoint_url × IsShortApplication v.server × IsShortAccess v

-- few enough endpoints, each with few enough of all that is counted
abbrev pub AreShortEndpoints : List EndpointDescription → Type 0
AreShortEndpoints endpoints = (length endpoints < 2 ^ 31) × All IsShortEndpoint endpoints

-- the same, each with a spelling
abbrev pub AreEndpoints : List EndpointDescription → Type 0
AreEndpoints endpoints = AreFew endpoint_description (map endpoint_fields endpoints)

-- ---- GetEndpoints

-- the URL that the client used, and the transport profiles that it takes
abbrev pub endpoints_asked : GetEndpointsRequest → Option (List ℕ) × List (Option (List ℕ))
endpoints_asked r = (option_copied r.endpoint_url, map option_copied r.profile_uris.items)

-- URL, locales, transport profiles
unfoldable pub get_endpoints_request : Format BinaryFault (Option (List ℕ) × List (Option (List ℕ)))
get_endpoints_request = text ▸ unkept_array text ▹ many text

-- the endpoints
unfoldable pub get_endpoints_response : Format BinaryFault (List EndpointFields)
get_endpoints_response = fitting (AreFew endpoint_description) (many endpoint_description)
