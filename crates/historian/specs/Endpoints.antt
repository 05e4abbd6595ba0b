-- What the server tells of itself: its one endpoint, without security (Part 4, 5.5.4, 7.2, 7.14 and
-- 7.42).
use Rattle.std.specs.Prelude.{ℕ, List, [], ◌∷◌, ◌++◌, codes, length, nat_eq, nat_lt, Bool, Option, None, Some, unwrap_or, true, if◌then◌else◌, ℤ}
use Rattle.std.specs.List.{list_any}
use Rattle.std.specs.Cmp.Lexicographic.{pointwise}
use Rattle.ua_channel.specs.Headers.{policy_none}
use Rattle.ua_services.specs.Endpoints.{ApplicationFields, TokenFields, EndpointFields, token_number, mode_number, application_number, AccessFields}
use Rattle.ua_services.specs.declared.endpoints.ApplicationType.TheVariants.{Server}
use Rattle.ua_services.specs.declared.endpoints.MessageSecurityMode.TheVariants as mode
use Rattle.ua_services.specs.declared.endpoints.UserTokenType.TheVariants.{Anonymous, UserName}
use Rattle.ua_session.specs.Users.{Allowed}
use Rattle.ua_settings.specs.Settings.{SettingsValues}
use Rattle.ua_binary.specs.declared.values.LocalizedText.{LocalizedText}

-- the one transport profile that is served: UA TCP, UA Binary (Part 7)
unfoldable pub transport_profile : List ℕ
transport_profile = codes "http://opcfoundation.org/UA-Profile/Transport/uatcp-uasc-uabinary"

-- the name of the application
abbrev pub application_name : LocalizedText
application_name = record { locale = None; text = Some (codes "uahist") }

-- its type, and the URL at which it is found
abbrev pub found_at : SettingsValues → ℤ × List (Option (List ℕ))
found_at settings = (application_number Server, Some settings.url ∷ [])

-- the server as an application (Part 4, 7.2)
abbrev pub application_of : SettingsValues → ApplicationFields
application_of settings =
    (Some settings.application, (Some (codes "urn:uahist"), (application_name, found_at settings)))

-- a way in without a name, where that is allowed, and one by name and password, where there is a
-- user with a name
abbrev pub tokens_of : Allowed → List TokenFields
tokens_of allowed =
    (if allowed.anonymous then (Some (codes "anonymous"), token_number Anonymous) ∷ [] else [])
    ++
    (if nat_lt 0 (length allowed.named) then (Some (codes "username"), token_number UserName) ∷ []
    else [])

-- the identity tokens that users may have, the transport, and the security level
abbrev pub carriage_of : SettingsValues → List TokenFields × (Option (List ℕ) × ℕ)
carriage_of settings = (tokens_of settings.users, (Some transport_profile, 0))

-- how the endpoint is reached: without security
abbrev pub security_of : SettingsValues → AccessFields
security_of settings = (mode_number mode.None, (Some policy_none, carriage_of settings))

-- the one endpoint (Part 4, 7.14)
abbrev pub endpoint_of : SettingsValues → EndpointFields
endpoint_of settings = (Some settings.url, (application_of settings, security_of settings))

-- the transport profile that is served, with no name as an empty one
abbrev pub is_transport : Option (List ℕ) → Bool
is_transport profile = pointwise nat_eq (unwrap_or profile []) transport_profile

-- a client that names no transport profile takes any
abbrev pub takes_transport : List (Option (List ℕ)) → Bool
takes_transport list =
    elim list [
      | [] ↦ true
      | profile ∷ profiles ↦ list_any is_transport (profile ∷ profiles)
    ]
