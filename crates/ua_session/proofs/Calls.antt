-- What a call does, by the place of its session.
use Rattle.std.proofs.Common.{◌≡◌, ℕ, ◌≤◌, List, length, get_or, set, None, Some, Ok, Err, refl, sym, ap, ◌∙◌, subst, position}
use Rattle.std.specs.List.{AllByRecursion, remove}
use Rattle.ua_binary.specs.declared.values.NodeId.{NodeId}
use Rattle.ua_session.specs.declared.fault.SessionFault.{SessionFault}
use Rattle.ua_session.specs.declared.fault.SessionFault.TheVariants.{IdInvalid, OutOfMemory}
use Rattle.ua_session.specs.declared.session.Session.{Session}
use Rattle.ua_session.specs.Users.{Allowed, Claim, judgement}
use Rattle.ua_session.specs.Sessions.{SessionsState, is_named, Activates, Closes, HasShortUser}
use Rattle.ua_session.proofs.Found.{found, find_none, find_some, without_session-at, with_user-at, short-with_user, short-without_session}

-- ---- close

pub closes-none : (state : SessionsState) (token : NodeId)
    → position (is_named token) state.alive ≡ None → Closes state token (Err IdInvalid) state
closes-none state token none =
    let gone = find_none (is_named token) state.alive none in
    record { answer = rw gone refl; leaves = refl }

any : Session
any = record { token = 0; user = None }

pub closes-one : (state : SessionsState) (token : NodeId) (place : ℕ) (rest : List Session)
    → position (is_named token) state.alive ≡ Some place → rest ≡ remove state.alive place
    → Closes state token (Ok tt) (record state { alive = rest })
closes-one state token place rest at is =
    let here = found token state.alive place at in
    let one = find_some token state.alive place here any in
    record {
      answer = rw one refl;
      leaves = ap (λ l. let s : SessionsState =
          record state { alive = l } in s)
          (is ∙ without_session-at token state.alive place here);
    }

-- the names stay short
pub short-remove : (alive rest : List Session) (token : NodeId) (place : ℕ)
    → position (is_named token) alive ≡ Some place → rest ≡ remove alive place
    → AllByRecursion HasShortUser alive → AllByRecursion HasShortUser rest
short-remove alive rest token place at is all =
    let P : List Session → Type 0 = AllByRecursion HasShortUser in
    subst P (sym (is ∙ without_session-at token alive place (found token alive place at)))
    (short-without_session token alive all)

pub ruleset closing = (closes-none, closes-one, short-remove)

-- ---- activate

pub activates-none : (state : SessionsState) (token : NodeId) (allowed : Allowed) (claim : Claim)
    → position (is_named token) state.alive ≡ None
    → Activates state token allowed claim (Err IdInvalid) state
activates-none state token allowed claim none =
    let gone = find_none (is_named token) state.alive none in
    record { answer = rw gone refl; leaves = refl }

pub activates-refused : (state : SessionsState) (token : NodeId) (allowed : Allowed) (claim : Claim)
    (place : ℕ) (fault : SessionFault) → position (is_named token) state.alive ≡ Some place
    → Err fault ≡ judgement allowed claim
    → Activates state token allowed claim (Err fault) state
activates-refused state token allowed claim place fault at is =
    let one = find_some token state.alive place (found token state.alive place at) any in
    record { answer = rw (one, ← is) refl; leaves = refl }

pub activates-starved : (state : SessionsState) (token : NodeId) (allowed : Allowed) (claim : Claim)
    (place : ℕ) (user : List ℕ) → position (is_named token) state.alive ≡ Some place
    → Ok user ≡ judgement allowed claim
    → Activates state token allowed claim (Err OutOfMemory) state
activates-starved state token allowed claim place user at is =
    let one = find_some token state.alive place (found token state.alive place at) any in
    record { answer = rw (one, ← is) refl; leaves = refl }

pub activates-one : (state : SessionsState) (token : NodeId) (allowed : Allowed) (claim : Claim)
    (place : ℕ) (user name : List ℕ) (d : Session)
    → position (is_named token) state.alive ≡ Some place → Ok user ≡ judgement allowed claim
    → d ≡ get_or state.alive place d → name ≡ user
    → Activates state token allowed claim (Ok user)
    (record state {
      alive =
          set state.alive place (record { token = d.token; user = Some name });
    })
activates-one state token allowed claim place user name d at is there copied =
    let here = found token state.alive place at in
    let one = find_some token state.alive place here any in
    let written = ap (λ u. set state.alive place (record d { user = Some u })) copied in
    let same = written ∙ ap (λ (s : Session). set state.alive place (record s { user = Some user }))
    there ∙ with_user-at token user state.alive place d here in
    record {
      answer = rw (one, ← is) refl;
      leaves =
          ap (λ l. let s : SessionsState = record state { alive = l } in s) same;
    }

pub short-set : (alive : List Session) (token : NodeId) (place : ℕ) (user : List ℕ) (d : Session)
    → position (is_named token) alive ≡ Some place → d ≡ get_or alive place d → length user ≤ 256
    → AllByRecursion HasShortUser alive
    → AllByRecursion HasShortUser (set alive place (record { token = d.token; user = Some user }))
short-set alive token place user d at there short all =
    let here = found token alive place at in
    let same = ap (λ (s : Session). set alive place (record s { user = Some user })) there
    ∙ with_user-at token user alive place d here in
    let P : List Session → Type 0 = AllByRecursion HasShortUser in
    subst P (sym same) (short-with_user token user alive short all)

pub ruleset activating = (
  activates-none,
  activates-refused,
  activates-starved,
  activates-one,
  short-set,
)
