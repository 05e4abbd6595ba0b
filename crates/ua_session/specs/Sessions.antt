-- What the sessions of a connection are, and what each call answers and leaves (Part 4, 5.7).
use Rattle.std.specs.Prelude.{◌≡◌, ◌≤◌, ◌+◌, ◌*◌, ◌^◌, ◌-◌, min, ℕ, Bool, false, List, [], ◌∷◌, ◌++◌, length, ◌==◌, ◌&&◌, ◌||◌, nat_le, Option, None, Some, IfSome, Result, Ok, Err, MatchResult, find, is_some, if◌then◌else◌}
use Rattle.std.specs.List.{list_any}
use Rattle.std.specs.Option.{ok_or}
use Rattle.ua_binary.specs.Format.{◌>>=◌, IsOrStarved}
use Rattle.ua_binary.specs.declared.values.NodeId.{NodeId}
use Rattle.ua_binary.specs.declared.values.NodeId.TheVariants.{Numeric}
use Rattle.ua_session.specs.declared.fault.SessionFault.{SessionFault}
use Rattle.ua_session.specs.declared.fault.SessionFault.TheVariants.{TooMany, IdInvalid, NotActivated, OutOfMemory}
use Rattle.ua_session.specs.declared.audit.AuditEvent.{AuditEvent}
use Rattle.ua_session.specs.declared.session.Session.{Session}
use Rattle.ua_session.specs.Users.{Allowed, Claim, judgement}

-- the id of the k-th session of a connection, k from 1
abbrev pub session_id_of : ℕ → NodeId
session_id_of k = Numeric 1 (2 * k)

-- the token of the k-th session of a connection, k from 1
abbrev pub token_of : ℕ → NodeId
token_of k = Numeric 1 (2 * k + 1)

-- whether this is the session's token
abbrev pub is_named : NodeId → Session → Bool
is_named id session =
    elim id [ Numeric namespace number ↦ namespace == 1 && number == session.token | _ ↦ false ]

-- how many sessions were made, and those that are open, the oldest first; how many audit events
-- there were, and the last one
pub record SessionsState : Type 0 where
  pub made : ℕ
  pub alive : List Session
  pub audits : ℕ
  pub last_audit : Option AuditEvent

-- no session yet
abbrev pub no_sessions : SessionsState
no_sessions = record { made = 0; alive = []; audits = 0; last_audit = None }

-- ---- what a call answers where memory is there

-- the id and the token of the next session
abbrev pub create_answer : SessionsState → Result (NodeId × NodeId) SessionFault
create_answer state =
    if nat_le 16 (length state.alive) || nat_le 1000000 state.made then Err TooMany
    else Ok (session_id_of (state.made + 1), token_of (state.made + 1))

-- as whom an open session is activated
abbrev pub activate_answer : SessionsState → NodeId → Allowed → Claim → Result (List ℕ) SessionFault
activate_answer state token allowed claim =
    ok_or (find (is_named token) state.alive) IdInvalid >>= λ _. judgement allowed claim

-- whether a session of this token can be closed
abbrev pub close_answer : SessionsState → NodeId → Result (Unit {0}) SessionFault
close_answer state token = ok_or (find (is_named token) state.alive) IdInvalid >>= λ _. Ok tt

-- the user of an open session, where it has one
abbrev pub user_at : SessionsState → NodeId → Result (List ℕ) SessionFault
user_at state token =
    ok_or (find (is_named token) state.alive) IdInvalid
    >>= λ session. ok_or session.user NotActivated

-- an open session has a user
abbrev pub has_user : SessionsState → Bool
has_user state = list_any (λ session. is_some session.user) state.alive

-- ---- what a call leaves

-- one session more, which nobody activated
abbrev pub with_new : SessionsState → SessionsState
with_new state =
    record state {
      made = state.made + 1;
      alive = state.alive ++ record { token = 2 * (state.made + 1) + 1; user = None } ∷ [];
    }

-- the session of this token has this user
abbrev pub with_user : NodeId → List ℕ → List Session → List Session
with_user token user [] = []
with_user token user (session ∷ alive) =
    if is_named token session then record session { user = Some user } ∷ alive
    else session ∷ with_user token user alive

-- the session of this token is gone
abbrev pub without_session : NodeId → List Session → List Session
without_session token [] = []
without_session token (session ∷ alive) =
    if is_named token session then alive else session ∷ without_session token alive

-- this was done in them last
abbrev pub with_audit : AuditEvent → SessionsState → SessionsState
with_audit event state =
    record state { audits = min (state.audits + 1) (2 ^ 64 - 1); last_audit = Some event }

-- ---- the calls

-- a session was made, which nobody activated; nothing was where it couldn't be
pub record Creates (old : SessionsState) (result : Result (NodeId × NodeId) SessionFault)
    (new : SessionsState) : Type 0 where
  pub answer : IsOrStarved OutOfMemory (create_answer old) result
  pub leaves : MatchResult result (λ _. new ≡ with_new old) (λ _. new ≡ old)

-- the session of this token has the user whom the claim shows; else nothing changed
pub record Activates (old : SessionsState) (token : NodeId) (allowed : Allowed) (claim : Claim)
    (result : Result (List ℕ) SessionFault) (new : SessionsState) : Type 0 where
  pub answer : IsOrStarved OutOfMemory (activate_answer old token allowed claim) result
  pub leaves : MatchResult result
      (λ user. new ≡ record old { alive = with_user token user old.alive }) (λ _. new ≡ old)

-- the session of this token is gone; nothing changed where there is none
pub record Closes (old : SessionsState) (token : NodeId) (result : Result (Unit {0}) SessionFault)
    (new : SessionsState) : Type 0 where
  pub answer : result ≡ close_answer old token
  pub leaves : MatchResult result
      (λ _. new ≡ record old { alive = without_session token old.alive }) (λ _. new ≡ old)

-- ---- what each session keeps

-- its user, where it has one, is as long as a record's may be
abbrev pub HasShortUser : Session → Type 0
HasShortUser session = IfSome session.user (λ user. length user ≤ 256)
