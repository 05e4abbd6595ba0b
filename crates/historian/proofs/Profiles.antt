-- The transport profiles that a client takes.
use Rattle.std.proofs.Common.{◌≡◌, ◌||◌, ℕ, true, false, List, [], ◌∷◌, refl, ap, map}
use Rattle.std.specs.Prelude.{Option}
use Rattle.std.specs.Borrow.{Bor}
use Rattle.std.specs.List.{list_any}
use Rattle.std.specs.Option.{option_copied}
use Rattle.ua_settings.specs.Settings.{SettingsValues}
use Rattle.historian.specs.Endpoints.{endpoint_of, takes_transport}
use Rattle.historian.proofs.EndpointsParts.{is_served_profile, endpoints_for}

any_copied : (profiles : List (Option (Bor (List ℕ))))
    → list_any (λ p. is_served_profile (option_copied p)) profiles
    ≡ list_any is_served_profile (map option_copied profiles)
any_copied [] = refl
any_copied (p ∷ ps) = ap (λ b. is_served_profile (option_copied p) || b) (any_copied ps)

pub takes_copied : (profiles : List (Option (Bor (List ℕ)))) → (profiles ≡ [] → ⊥)
    → list_any (λ p. is_served_profile (option_copied p)) profiles
    ≡ takes_transport (map option_copied profiles)
takes_copied [] some = absurd (some refl)
takes_copied (p ∷ ps) some = any_copied (p ∷ ps)

pub endpoints-none : (settings : SettingsValues) (profiles : List (Option (List ℕ)))
    → takes_transport profiles ≡ false → endpoints_for settings profiles ≡ []
endpoints-none settings profiles others = rw others refl

pub endpoints-one : (settings : SettingsValues) (profiles : List (Option (List ℕ)))
    → takes_transport profiles ≡ true → endpoints_for settings profiles ≡ endpoint_of settings ∷ []
endpoints-one settings profiles this = rw this refl
