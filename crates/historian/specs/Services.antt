-- What a message is answered over what the archive holds (Part 4, 5.5 to 5.7; 7.33 to 7.35): the
-- answer of its service, or the code that refuses it, and the sessions and the content that this
-- leaves.
use Rattle.std.specs.Prelude.{◌≡◌, ℕ, List, [], ◌∷◌, Option, Result, Ok, Err, IfOk, ok_or, if◌then◌else◌}
use Rattle.ua_binary.specs.declared.codes.Status.{Status}
use Rattle.ua_binary.specs.declared.codes.TheConstants.Status.{BAD_OUT_OF_MEMORY, BAD_DECODING_ERROR}
use Rattle.ua_binary.specs.declared.values.NodeId.{NodeId}
use Rattle.ua_binary.specs.declared.values.Ticks.{Ticks}
use Rattle.ua_session.specs.declared.fault.SessionFault.{SessionFault}
use Rattle.ua_session.specs.Fault.{session_fault_status}
use Rattle.ua_session.specs.declared.identity.Access.TheVariants as may
use Rattle.ua_session.specs.Users.{Claim, access_of}
use Rattle.ua_session.specs.Sessions.{SessionsState, with_audit, create_answer, activate_answer, close_answer, user_at, with_new, with_user, without_session}
use Rattle.ua_services.specs.Attributes.{ReadAsked}
use Rattle.ua_services.specs.Browsing.{BrowseFields}
use Rattle.ua_services.specs.History.{HistoryAsked}
use Rattle.ua_services.specs.Updates.{Details}
use Rattle.ua_settings.specs.Settings.{SettingsValues}
use Rattle.records.specs.Contents.{Content}
use Rattle.archive.specs.Store.{Store, StepResult, Done, NoMemory}
use Rattle.archive.specs.Steps.{Fallible, give, step, and_then}
use Rattle.historian.specs.Answers.{Answer, Endpoints, Created, Activated, Closed, Response}
use Rattle.historian.specs.Requests.{Call, GetEndpoints, CreateSession, ActivateSession, CloseSession, Browse, Read, HistoryRead, HistoryUpdate, Request, request_in}
use Rattle.historian.specs.Endpoints.{endpoint_of, takes_transport}
use Rattle.historian.specs.Browsing.{browse}
use Rattle.historian.specs.Reading.{Served, read, read_history}
use Rattle.historian.specs.Updating.{update_history}
use Rattle.historian.specs.UserSpaces.{space_for}
use Rattle.historian.specs.Auditing.{activation_event, notes_updates, updates_audited, noting}

-- a server: its settings, and the number and the id of its replica of the archive
pub record ServerConfig : Type 0 where
  pub settings : SettingsValues
  pub own : ℕ
  pub id : List ℕ

-- the server of an archive
abbrev pub site_of : SettingsValues → Store → ServerConfig
site_of settings store = record { settings = settings; own = store.own; id = store.id }

-- what a message comes to: its response, the sessions that it leaves, and the content
abbrev pub MessageOutcome : Type 0
MessageOutcome = (Response × SessionsState) × Content

-- ---- calls of the sessions

-- what a call answers and leaves, unless memory for it is wanting; a refusal leaves the sessions as
-- they are
abbrev pub called : {A : Type 0} → SessionsState → (A → Answer × SessionsState)
    → Result A SessionFault → StepResult → Response × SessionsState
called sessions done (Err fault) mark = (Err (session_fault_status fault), sessions)
called sessions done (Ok a) NoMemory = (Err BAD_OUT_OF_MEMORY, sessions)
called sessions done (Ok a) mark = let d = done a in (Ok d.0, d.1)

-- ---- services

-- a service that wants a session which was activated; where it wasn't the session stays as it is
abbrev pub in_session : SessionsState → Result (List ℕ) SessionFault
    → (List ℕ → Fallible (Response × Content)) → Content → Fallible MessageOutcome
in_session sessions (Err fault) service R = give ((Err (session_fault_status fault), sessions), R)
in_session sessions (Ok user) service R =
    and_then (service user) (λ told. give ((told.0, sessions), told.1))

-- the endpoints that are offered to a client that takes these transport profiles
abbrev pub offered : ServerConfig → List (Option (List ℕ)) → Answer
offered config profiles =
    Endpoints (if takes_transport profiles then endpoint_of config.settings ∷ [] else [])

-- a session of these ids was made, with this timeout
abbrev pub created : ServerConfig → List ℕ → SessionsState → NodeId × NodeId
    → Answer × SessionsState
created config timeout sessions (session, token) = (
  Created (session, (token, (timeout, (endpoint_of config.settings ∷ [], 4194304)))),
  with_new sessions,
)

-- the session is this user's
abbrev pub activated : NodeId → SessionsState → List ℕ → Answer × SessionsState
activated token sessions user =
    (Activated, record sessions { alive = with_user token user sessions.alive })

-- the session is closed
abbrev pub close_outcome : NodeId → SessionsState → Answer × SessionsState
close_outcome token sessions =
    (Closed, record sessions { alive = without_session token sessions.alive })

-- the endpoints that take these transport profiles are told
abbrev pub endpoints_for : ServerConfig → List (Option (List ℕ)) → SessionsState → Content
    → Fallible MessageOutcome
endpoints_for config profiles sessions R = give ((Ok (offered config profiles), sessions), R)

-- a session is made, with this timeout, which takes memory
abbrev pub create_for : ServerConfig → List ℕ → SessionsState → Content → Fallible MessageOutcome
create_for config timeout sessions R =
    step
    (λ mark. (called sessions (created config timeout sessions) (create_answer sessions) mark, R))

-- what an activation by this claim came to, which is kept for a log
abbrev pub noting_activation : Claim → Response × SessionsState → Response × SessionsState
noting_activation claim (response, sessions) =
    (response, with_audit (activation_event claim response) sessions)

-- a session is activated as whom this identity is allowed, which takes memory
abbrev pub activate_for : ServerConfig → NodeId → Claim → SessionsState → Content
    → Fallible MessageOutcome
activate_for config token claim sessions R =
    let answer = activate_answer sessions token config.settings.users claim in
    step
    (λ mark. (noting_activation claim (called sessions (activated token sessions) answer mark), R))

-- a session is closed
abbrev pub close_for : NodeId → SessionsState → Content → Fallible MessageOutcome
close_for token sessions R =
    give (called sessions (λ _. close_outcome token sessions) (close_answer sessions token) Done, R)

-- a service for the user who activated the session of this token
abbrev pub for_user : NodeId → (Content → (user : List ℕ) → Served) → SessionsState → Content
    → Fallible MessageOutcome
for_user token service sessions R = in_session sessions (user_at sessions token) (service R) R

-- a Browse of this user, to whom the nodes are what they are to all
abbrev pub browse_for : ServerConfig → List BrowseFields → Content → (user : List ℕ) → Served
browse_for config nodes R user = give (browse config.settings.space nodes, R)

-- a Read of this user
abbrev pub read_for : ServerConfig → Ticks → ReadAsked → Content → (user : List ℕ) → Served
read_for config now asked R user = read (space_for config.settings user) now asked R

-- a HistoryRead of this user, to whom the histories are what they are to all
abbrev pub history_for : ServerConfig → HistoryAsked → Content → (user : List ℕ) → Served
history_for config asked R user = read_history config.id config.settings.space asked R

-- a HistoryUpdate of this user
abbrev pub update_for : ServerConfig → Ticks → List Details → Content → (user : List ℕ) → Served
update_for config now details R user =
    update_history config.own (space_for config.settings user) user now details R

-- HistoryUpdates of this user, in one of these sessions; what they came to is noted, where the
-- settings ask for it
abbrev pub updated_by : ServerConfig → Ticks → List Details → SessionsState → Content
    → (user : List ℕ) → Fallible MessageOutcome
updated_by config now details sessions R user =
    let s = config.settings in
    and_then (update_for config now details R user)
    (λ (response, S).
    let event = updates_audited (notes_updates s) s.space user details response in
    give ((response, noting event sessions), S))

-- HistoryUpdates for whoever activated the session, if somebody did
abbrev pub updates_of : ServerConfig → Ticks → List Details → SessionsState
    → Result (List ℕ) SessionFault → Content → Fallible MessageOutcome
updates_of config now details sessions (Err fault) R =
    give ((Err (session_fault_status fault), sessions), R)
updates_of config now details sessions (Ok user) R = updated_by config now details sessions R user

-- the same for the session of this token
abbrev pub updates_for : ServerConfig → Ticks → NodeId → List Details → SessionsState → Content
    → Fallible MessageOutcome
updates_for config now token details sessions =
    updates_of config now details sessions (user_at sessions token)

-- What a service answers, and what it leaves: a session more, a session's user, a session less,
-- which takes no memory; the last four want a session that was activated.
abbrev pub served : ServerConfig → Ticks → NodeId → Call → SessionsState → Content
    → Fallible MessageOutcome
served config now token (GetEndpoints profiles) = endpoints_for config profiles
served config now token (CreateSession timeout) = create_for config timeout
served config now token (ActivateSession claim) = activate_for config token claim
served config now token CloseSession = close_for token
served config now token (Browse nodes) = for_user token (browse_for config nodes)
served config now token (Read asked) = for_user token (read_for config now asked)
served config now token (HistoryRead asked) = for_user token (history_for config asked)
served config now token (HistoryUpdate details) = updates_for config now token details

-- who activated the session of this token, if somebody did, may only read
abbrev pub OnlyReads : SettingsValues → SessionsState → NodeId → Type 0
OnlyReads settings sessions token =
    IfOk (user_at sessions token) (λ user. access_of settings.users user ≡ may.Read)

-- ---- messages

-- what is asked, or why nothing is
abbrev pub asked : ServerConfig → Ticks → NodeId → Result Call Status → SessionsState → Content
    → Fallible MessageOutcome
asked config now token result sessions R =
    elim result [
      | Err status ↦ give ((Err status, sessions), R)
      | Ok call ↦ served config now token call sessions R
    ]

-- a call is read, unless memory for that is wanting, and served
abbrev pub answered_call : ServerConfig → Ticks → NodeId → Option Call → SessionsState → Content
    → Fallible MessageOutcome
answered_call config now token call sessions R =
    and_then
    (step
    (λ mark.
    elim mark [ NoMemory ↦ Err BAD_OUT_OF_MEMORY | _ ↦ ok_or call BAD_DECODING_ERROR ]))
    (λ call. asked config now token call sessions R)

-- a request is answered by its service; what is none is refused
abbrev pub answered_request : ServerConfig → Ticks → Result Request Status → SessionsState → Content
    → Fallible MessageOutcome
answered_request config now result sessions R =
    elim result [
      | Err status ↦ give ((Err status, sessions), R)
      | Ok request ↦ answered_call config now request.0 request.1 sessions R
    ]

-- a message
abbrev pub answered : ServerConfig → Ticks → List ℕ → SessionsState → Content
    → Fallible MessageOutcome
answered config now message = answered_request config now (request_in message)
