-- A session of a user of the settings with a running server: how it is opened, and how it ends.
use Rattle.std.specs.Prelude.{◌⊎◌, ℕ, List, [], ◌∷◌, ◌++◌, Some, None, codes}
use Rattle.ua_services.specs.Sessions.{create_session_request}
use Rattle.ua_binary.specs.declared.values.Ticks.{Ticks}
use Rattle.ua_session.specs.Users.{Allowed, Claim, Anonymous, Named, password_of}
use Rattle.ua_client.specs.Asking.{closing}
use Rattle.ua_client.specs.Talking.{CallerState, Flow, SendsPart, Connects, Opens, Activates, Responds, connecting, head_of, activate_request, close_request, message_of}
use Rattle.remote_import.specs.Bringing.{SessionState}

-- who a user of the settings is to a server: the name with its password, and anonymous where none
-- of that name has one
abbrev pub claim_by : Allowed → (user : List ℕ) → Claim
claim_by users user =
    elim (password_of users user) [
      | None ↦ Anonymous
      | Some password ↦ Named (Some user) (Some password) None
    ]

-- an hour in milliseconds, as the bytes of a Double
abbrev pub hour : List ℕ
hour = 0 ∷ 0 ∷ 0 ∷ 0 ∷ 64 ∷ 119 ∷ 75 ∷ 65 ∷ []

-- the CreateSession of an import: no URL, a name, and a session that lives an hour unused
abbrev pub session_request : CallerState → (now : Ticks) → List ℕ
session_request client now =
    head_of client 461 now ++ create_session_request.canon
    (None, (Some (codes "uahist import"), hour))

-- a channel was opened that is good for an hour, then a session was made, and it was activated by
-- this claim of a user's name and password, or as anonymous
pub record OpensSession (claim : Claim) (now : Ticks) (old : Flow) (new : SessionState)
    : Type 0 where
  pub connected : SessionState
  pub made : SessionState
  pub connects : Connects connected.client 3600000 old connected.flow
  pub creates : Opens connected.client made.client (session_request connected.client now)
      connected.flow made.flow
  pub activates : Activates made.client new.client (activate_request made.client now claim)
      made.flow new.flow

-- the session isn't known to be activated: all that asks for it was sent, or its first bytes
abbrev pub StopsActivating : Claim → (now : Ticks) → (made : SessionState) → (new : Flow) → Type 0
StopsActivating claim now made new =
    SendsPart made.flow new (message_of made.client (activate_request made.client now claim))

-- a channel was opened, and a session isn't known to be made, or not to be activated
abbrev pub StopsConnected : Claim → (now : Ticks) → (connected : SessionState) → (new : Flow)
    → Type 0
StopsConnected claim now connected new =
    SendsPart connected.flow new
    (message_of connected.client (session_request connected.client now))
    ⊎ ((made : SessionState)
    × Opens connected.client made.client (session_request connected.client now)
    connected.flow made.flow × StopsActivating claim now made new)

-- no session is known to be open: what was sent are the first bytes of what opens one, or all
abbrev pub StopsOpening : Claim → (now : Ticks) → (old new : Flow) → Type 0
StopsOpening claim now old new =
    SendsPart old new (connecting 3600000)
    ⊎ ((connected : SessionState) × Connects connected.client 3600000 old connected.flow
    × StopsConnected claim now connected new)

-- a session's end was asked for, and then its channel's, as far as the server answered and took
-- that
abbrev pub EndsSession : (now : Ticks) → (old : SessionState) → (new : Flow) → Type 0
EndsSession now old new =
    SendsPart old.flow new (message_of old.client (close_request old.client now))
    ⊎ ((closed : SessionState)
    × Responds old.client closed.client (close_request old.client now) 476 [] old.flow closed.flow
    × SendsPart closed.flow new
    (closing closed.client.token closed.client.number closed.client.request))
