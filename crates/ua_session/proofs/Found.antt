-- The session of a token in a list: found, changed or taken out by its place.
use Rattle.std.proofs.Common.{◌≡◌, ℕ, zero, suc, ◌<◌, ◌≤◌, Bool, true, false, List, [], ◌∷◌, length, get_or, set, None, Some, refl, sym, ap, ◌∙◌, cond, nat_lt, ltb-false, arith, find, position}
use Rattle.std.specs.List.{AllByRecursion, position_or_len, slice_get, remove}
use Rattle.std.proofs.lemmas.List.Folds.{find_at}
use Rattle.std.proofs.lemmas.List.Quantifiers.{position-Some}
use Rattle.std.proofs.lemmas.Option.{slice_get_past}
use Rattle.ua_binary.specs.declared.values.NodeId.{NodeId}
use Rattle.ua_session.specs.declared.session.Session.{Session}
use Rattle.ua_session.specs.Sessions.{is_named, with_user, without_session, HasShortUser}

-- what has no place isn't found
pub find_none : {X : Type 0} (p : X → Bool) (xs : List X) → position p xs ≡ None → find p xs ≡ None
find_none p xs none = find_at p xs ∙ past (nat_lt (position_or_len p xs) (length xs)) refl
  where
    past : (b : Bool) → nat_lt (position_or_len p xs) (length xs) ≡ b
        → slice_get xs (position_or_len p xs) ≡ None
    past true is = let e : cond true (Some (position_or_len p xs)) None ≡ None =
        ap (λ b. cond b (Some (position_or_len p xs)) None) (sym is) ∙ none in cc
    past false is = slice_get_past xs (position_or_len p xs) (ltb-false _ _ is)

-- the session at the first place
pub record Found (token : NodeId) (alive : List Session) (place : ℕ) : Type 0 where
  pub within : place < length alive
  pub here : (d : Session) → is_named token (get_or alive place d) ≡ true
  pub before : (k : ℕ) (d : Session) → k < place → is_named token (get_or alive k d) ≡ false

pub found : (token : NodeId) (alive : List Session) (place : ℕ)
    → position (is_named token) alive ≡ Some place → Found token alive place
found token alive place is =
    let any : Session = record { token = 0; user = None } in
    record {
      within = (position-Some (is_named token) alive place any is).0;
      here = λ d. (position-Some (is_named token) alive place d is).1;
      before = λ k d below. (position-Some (is_named token) alive place d is).2 k below;
    }

after_first : (token : NodeId) (session : Session) (alive : List Session) (place : ℕ)
    → Found token (session ∷ alive) (suc place) → Found token alive place
after_first token session alive place is = record {
  within = omega (arith, is.within);
  here = is.here;
  before = λ k d below. is.before (suc k) d (omega (arith, below));
}

pub without_session-at : (token : NodeId) (alive : List Session) (place : ℕ)
    → Found token alive place → remove alive place ≡ without_session token alive
without_session-at token [] place is = absurd (omega (arith, is.within))
without_session-at token (session ∷ alive) zero is = let here = is.here session in rw here refl
without_session-at token (session ∷ alive) (suc place) is =
    let apart : is_named token session ≡ false = is.before zero session (omega arith) in
    rw apart (ap (λ rest. session ∷ rest) (without_session-at token alive place
    (after_first token session alive place is)))

pub with_user-at : (token : NodeId) (user : List ℕ) (alive : List Session) (place : ℕ) (d : Session)
    → Found token alive place → set alive place (record (get_or alive place d) { user = Some user })
    ≡ with_user token user alive
with_user-at token user [] place d is = absurd (omega (arith, is.within))
with_user-at token user (session ∷ alive) zero d is = let here = is.here session in rw here refl
with_user-at token user (session ∷ alive) (suc place) d is =
    let apart : is_named token session ≡ false = is.before zero session (omega arith) in
    rw apart (ap (λ rest. session ∷ rest) (with_user-at token user alive place d
    (after_first token session alive place is)))

-- what is at a place is found
pub find_some : (token : NodeId) (alive : List Session) (place : ℕ) → Found token alive place
    → (d : Session) → find (is_named token) alive ≡ Some (get_or alive place d)
find_some token [] place is d = absurd (omega (arith, is.within))
find_some token (session ∷ alive) zero is d = let here = is.here session in rw here refl
find_some token (session ∷ alive) (suc place) is d =
    let apart : is_named token session ≡ false = is.before zero session (omega arith) in
    rw apart (find_some token alive place (after_first token session alive place is) d)

-- the names stay short
pub short-with_user : (token : NodeId) (user : List ℕ) (alive : List Session) → length user ≤ 256
    → AllByRecursion HasShortUser alive → AllByRecursion HasShortUser (with_user token user alive)
short-with_user token user [] short all = tt
short-with_user token user (session ∷ alive) short all =
    elim (is_named token session) as (λ b.
    AllByRecursion HasShortUser (cond b (record session { user = Some user } ∷ alive)
    (session ∷ with_user token user alive)))
    [ true ↦ (short, all.1) | false ↦ (all.0, short-with_user token user alive short all.1) ]

pub short-without_session : (token : NodeId) (alive : List Session)
    → AllByRecursion HasShortUser alive → AllByRecursion HasShortUser (without_session token alive)
short-without_session token [] all = tt
short-without_session token (session ∷ alive) all =
    elim (is_named token session) as (λ b.
    AllByRecursion HasShortUser (cond b alive (session ∷ without_session token alive)))
    [ true ↦ all.1 | false ↦ (all.0, short-without_session token alive all.1) ]
