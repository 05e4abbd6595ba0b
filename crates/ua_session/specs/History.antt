-- What happened to the sessions of a connection, and how each call is answered by what happened
-- before it (Part 4, 5.7).
use Rattle.std.specs.Prelude.{◌≡◌, ◌≢◌, ◌≤◌, ◌<◌, ◌+◌, ◌/◌, ℕ, suc, Bool, false, List, [], ◌∷◌, ◌==◌, ◌||◌, Option, None, Some, Result, Ok, Err, IsOk, if◌then◌else◌}
use Rattle.ua_binary.specs.Binary.{numeric_parts}
use Rattle.ua_binary.specs.declared.values.NodeId.{NodeId}
use Rattle.ua_session.specs.declared.fault.SessionFault.{SessionFault}
use Rattle.ua_session.specs.declared.fault.SessionFault.TheVariants.{TooMany, IdInvalid, NotActivated, OutOfMemory}
use Rattle.ua_session.specs.Users.{Allowed, Claim, judgement}
use Rattle.ua_session.specs.Sessions.{SessionsState, session_id_of, token_of, user_at, Creates, Activates, Closes}

-- ---- what happened

-- A session was made; the k-th one was activated as a user, or closed. What was refused did not
-- happen.
pub data Deed : Type 0 where
  Made : Deed
  Activated : ℕ → List ℕ → Deed
  Closed : ℕ → Deed

-- The newest deed is the first of a list. How many sessions were made:
abbrev pub made_count : List Deed → ℕ
made_count [] = 0
made_count (Made ∷ past) = suc (made_count past)
made_count (Activated k user ∷ past) = made_count past
made_count (Closed k ∷ past) = made_count past

-- how many were closed
abbrev pub closed_count : List Deed → ℕ
closed_count [] = 0
closed_count (Made ∷ past) = closed_count past
closed_count (Activated k user ∷ past) = closed_count past
closed_count (Closed k ∷ past) = suc (closed_count past)

-- whether the k-th was closed
abbrev pub was_closed : ℕ → List Deed → Bool
was_closed k [] = false
was_closed k (Made ∷ past) = was_closed k past
was_closed k (Activated l user ∷ past) = was_closed k past
was_closed k (Closed l ∷ past) = l == k || was_closed k past

-- the user of the k-th session's last activation
abbrev pub last_user : ℕ → List Deed → Option (List ℕ)
last_user k [] = None
last_user k (Made ∷ past) = last_user k past
last_user k (Activated l user ∷ past) = if l == k then Some user else last_user k past
last_user k (Closed l ∷ past) = last_user k past

-- the k-th session was made and not closed
pub record IsAlive (k : ℕ) (past : List Deed) : Type 0 where
  pub first : 0 < k
  pub made : k ≤ made_count past
  pub unclosed : was_closed k past ≡ false

-- the session that a token is of, if of any
abbrev pub session_of : NodeId → ℕ
session_of token = (numeric_parts token).1 / 2

-- the token of a session that is alive
pub record IsValid (token : NodeId) (past : List Deed) : Type 0 where
  pub is_token : token ≡ token_of (session_of token)
  pub is_alive : IsAlive (session_of token) past

-- fewer than 1,000,000 were made, and fewer than 16 of these are alive
pub record HasRoom (past : List Deed) : Type 0 where
  pub to_make : made_count past < 1000000
  pub to_hold : made_count past < closed_count past + 16

-- ---- the calls

-- a call, with what it answered
pub data SessionCall : Type 0 where
  Create : Result (NodeId × NodeId) SessionFault → SessionCall
  Activate : NodeId → Allowed → Claim → Result (List ℕ) SessionFault → SessionCall
  Close : NodeId → Result (Unit {0}) SessionFault → SessionCall
  -- user_of
  Ask : NodeId → Result (List ℕ) SessionFault → SessionCall

-- what the calls promise
abbrev pub DoesSessionCall : SessionsState → SessionCall → SessionsState → Type 0
DoesSessionCall old (Create result) new = Creates old result new
DoesSessionCall old (Activate token allowed claim result) new =
    Activates old token allowed claim result new
DoesSessionCall old (Close token result) new = Closes old token result new
DoesSessionCall old (Ask token result) new = (result ≡ user_at old token) × (new ≡ old)

-- one call after the other
abbrev pub RunsSessions : SessionsState → List SessionCall → SessionsState → Type 0
RunsSessions old [] new = new ≡ old
RunsSessions old (event ∷ events) new =
    (between : SessionsState) × DoesSessionCall old event between × RunsSessions between events new

-- what happened, with this call
abbrev pub deeds_after : List Deed → SessionCall → List Deed
deeds_after past (Create (Ok given)) = Made ∷ past
deeds_after past (Create (Err fault)) = past
deeds_after past (Activate token allowed claim (Ok user)) = Activated (session_of token) user ∷ past
deeds_after past (Activate token allowed claim (Err fault)) = past
deeds_after past (Close token (Ok done)) = Closed (session_of token) ∷ past
deeds_after past (Close token (Err fault)) = past
deeds_after past (Ask token result) = past

-- Each call is answered by what happened before it: a session is made where there is room for one;
-- a token is valid while its session is alive; as whom it is activated is judged by the users; and
-- the user who is told is that of the last activation.
abbrev pub IsAnswered : List Deed → SessionCall → Type 0
IsAnswered past (Create (Ok given)) =
    HasRoom past
    × (given ≡ (session_id_of (suc (made_count past)), token_of (suc (made_count past))))
IsAnswered past (Create (Err TooMany)) = ¬ HasRoom past
IsAnswered past (Create (Err OutOfMemory)) = HasRoom past
IsAnswered past (Create (Err fault)) = ⊥
IsAnswered past (Activate token allowed claim (Ok user)) =
    IsValid token past × (judgement allowed claim ≡ Ok user)
IsAnswered past (Activate token allowed claim (Err IdInvalid)) = ¬ IsValid token past
IsAnswered past (Activate token allowed claim (Err OutOfMemory)) =
    IsValid token past × IsOk (judgement allowed claim)
IsAnswered past (Activate token allowed claim (Err fault)) =
    IsValid token past × (judgement allowed claim ≡ Err fault)
IsAnswered past (Close token (Ok done)) = IsValid token past
IsAnswered past (Close token (Err IdInvalid)) = ¬ IsValid token past
IsAnswered past (Close token (Err fault)) = ⊥
IsAnswered past (Ask token (Ok user)) =
    IsValid token past × (last_user (session_of token) past ≡ Some user)
IsAnswered past (Ask token (Err NotActivated)) =
    IsValid token past × (last_user (session_of token) past ≡ None)
IsAnswered past (Ask token (Err IdInvalid)) = ¬ IsValid token past
IsAnswered past (Ask token (Err fault)) = ⊥

abbrev pub AreAnswered : List Deed → List SessionCall → Type 0
AreAnswered past [] = Unit {0}
AreAnswered past (event ∷ events) =
    IsAnswered past event × AreAnswered (deeds_after past event) events

-- none of the calls activated or closed the session of this token
abbrev pub LeaveAlone : NodeId → List SessionCall → Type 0
LeaveAlone token [] = Unit {0}
LeaveAlone token (Create result ∷ events) = LeaveAlone token events
LeaveAlone token (Activate other allowed claim (Ok user) ∷ events) =
    (other ≢ token) × LeaveAlone token events
LeaveAlone token (Activate other allowed claim (Err fault) ∷ events) = LeaveAlone token events
LeaveAlone token (Close other (Ok done) ∷ events) = (other ≢ token) × LeaveAlone token events
LeaveAlone token (Close other (Err fault) ∷ events) = LeaveAlone token events
LeaveAlone token (Ask other result ∷ events) = LeaveAlone token events
