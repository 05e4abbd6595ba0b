-- Names for parts of the definitions in specs/Endpoints, for the lemmas on these parts.
use Rattle.std.specs.Prelude.{ℕ, List, [], ◌∷◌, nat_eq, Bool, Option, unwrap_or, if◌then◌else◌}
use Rattle.std.specs.Cmp.Lexicographic.{pointwise}
use Rattle.ua_services.specs.Endpoints.{EndpointFields}
use Rattle.ua_settings.specs.Settings.{SettingsValues}
use Rattle.historian.specs.Endpoints.{endpoint_of, takes_transport, transport_profile}

-- the endpoints for a client that takes these transport profiles
abbrev pub endpoints_for : SettingsValues → List (Option (List ℕ)) → List EndpointFields
endpoints_for settings profiles = if takes_transport profiles then endpoint_of settings ∷ [] else []

abbrev pub is_served_profile : Option (List ℕ) → Bool
is_served_profile profile = pointwise nat_eq (unwrap_or profile []) transport_profile
