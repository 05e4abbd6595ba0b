-- Who is let in.
use Rattle.std.specs.Prelude.{Bool, Option, None, Some, is_some, is_ok, not, ◌&&◌, if◌then◌else◌}
use Rattle.std.specs.Str.{is_utf8}
use Rattle.ua_session.specs.Users.{Claim, Anonymous, Other, Named, judgement}
use Rattle.ua_settings.specs.Settings.{SettingsValues}
use Rattle.web_request.specs.declared.page.Credentials.{Credentials}

-- who asks, by the credentials, judged as a session's user is: without any it is the anonymous
-- user, and a name that isn't UTF-8 is no user's
abbrev pub claim_in : Option Credentials → Claim
claim_in None = Anonymous
claim_in (Some given) =
    if is_utf8 given.name then Named (Some given.name) (Some given.password) None else Other

-- who asks is one of the users, or anybody may
abbrev pub is_let_in : SettingsValues → Option Credentials → Bool
is_let_in s credentials = is_ok (judgement s.users (claim_in credentials))

-- credentials are given, and let nobody in
abbrev pub are_wrong : SettingsValues → Option Credentials → Bool
are_wrong s credentials = is_some credentials && not (is_let_in s credentials)
