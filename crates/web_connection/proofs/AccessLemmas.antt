-- Whom credentials say.
use Rattle.std.proofs.Common.{◌≡◌, List, ℕ, Bool, true, false, None, Some, sym, ap, ◌∙◌}
use Rattle.std.specs.Prelude.{if◌then◌else◌}
use Rattle.std.specs.Str.{IsUtf8, is_utf8}
use Rattle.std.proofs.lemmas.Str.{is_utf8-from_IsUtf8, IsUtf8-from_is_utf8}
use Rattle.ua_session.specs.Users.{Claim, Named, Other}
use Rattle.web_request.specs.declared.page.Credentials.{Credentials}
use Rattle.web_connection.specs.Access.{claim_in}

-- by whether the name is UTF-8
abbrev claim_by : Credentials → Bool → Claim
claim_by given utf8 = if utf8 then Named (Some given.name) (Some given.password) None else Other

-- a name that is UTF-8
pub named : (given : Credentials) (bytes name password : List ℕ) → bytes ≡ given.name
    → name ≡ bytes → password ≡ given.password → IsUtf8 bytes
    → Named (Some name) (Some password) None ≡ claim_in (Some given)
named given bytes name password b n p utf8 =
    (λ i. Named (Some ((n ∙ b) i)) (Some (p i)) None)
    ∙ ap (claim_by given) (sym (ap is_utf8 (sym b) ∙ is_utf8-from_IsUtf8 bytes utf8))

not_utf8 : (bytes : List ℕ) (utf8 : Bool) → is_utf8 bytes ≡ utf8 → ¬ (IsUtf8 bytes) → utf8 ≡ false
not_utf8 bytes true e none = absurd (none (IsUtf8-from_is_utf8 bytes e))
not_utf8 bytes false e none = λ i. false

-- one that isn't
pub unnamed : (given : Credentials) (bytes : List ℕ) → bytes ≡ given.name → ¬ (IsUtf8 bytes)
    → Other ≡ claim_in (Some given)
unnamed given bytes b none =
    ap (claim_by given)
    (sym (ap is_utf8 (sym b) ∙ not_utf8 bytes (is_utf8 bytes) (λ i. is_utf8 bytes) none))
