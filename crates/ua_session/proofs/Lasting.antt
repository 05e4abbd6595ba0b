-- What a token has, whatever is called later; and how many sessions there are.
use Rattle.std.proofs.Common.{◌≡◌, ◌≢◌, ℕ, suc, ◌+◌, ◌*◌, ◌≤◌, Bool, true, false, List, [], ◌∷◌, ◌++◌, length, Option, None, Some, Ok, Err, refl, sym, ap, ◌∙◌, subst, cond, eqb, leb, arith, find, length-append}
use Rattle.std.specs.Option.{ok_or}
use Rattle.std.proofs.lemmas.Bool.{eq-eqb, ne_eqb, or_parts, or_from, or_left, or_right, leb-false, cond-true, cond-false, true≢false}
use Rattle.ua_binary.specs.Binary.{numeric_parts}
use Rattle.ua_binary.specs.declared.values.NodeId.{NodeId}
use Rattle.ua_session.specs.declared.fault.SessionFault.TheVariants.{OutOfMemory, TooMany, IdInvalid, NotActivated}
use Rattle.ua_session.specs.declared.session.Session.{Session}
use Rattle.ua_session.specs.Users.{Allowed, Claim, judgement}
use Rattle.ua_binary.specs.Format.{◌>>=◌, IsOrStarved}
use Rattle.ua_session.specs.Sessions.{SessionsState, no_sessions, session_id_of, token_of, is_named, user_at, with_new}
use Rattle.ua_session.proofs.SessionsParts.{is_full}
use Rattle.ua_session.specs.History.{Deed, Made, Activated, Closed, made_count, was_closed, last_user, IsAlive, session_of, IsValid, SessionCall, Create, Activate, Close, Ask, DoesSessionCall, RunsSessions, deeds_after, IsAnswered, LeaveAlone}
use Rattle.ua_session.proofs.Alive.{length-with_user, length-le-without_session}
use Rattle.ua_session.proofs.Histories.{Represents, represents-fresh, half, valid, invalid, answering, leaving}

-- ---- the last activation

-- a run, taken apart at one call
record Splits (past : List Deed) (event : SessionCall) (later : List SessionCall)
    (new : SessionsState) : Type 0 where
  before : List Deed
  old : SessionsState
  between : SessionsState
  is : Represents before old
  grown : made_count past ≤ made_count before
  does : DoesSessionCall old event between
  goes_on : RunsSessions between later new

-- no session is unmade
made_grows : (past : List Deed) (event : SessionCall)
    → made_count past ≤ made_count (deeds_after past event)
made_grows past (Create (Ok given)) = omega arith
made_grows past (Create (Err fault)) = omega arith
made_grows past (Activate token allowed claim (Ok user)) = omega arith
made_grows past (Activate token allowed claim (Err fault)) = omega arith
made_grows past (Close token (Ok done)) = omega arith
made_grows past (Close token (Err fault)) = omega arith
made_grows past (Ask token result) = omega arith

split : (past : List Deed) (before : List SessionCall) (event : SessionCall)
    (later : List SessionCall) (old new : SessionsState) → Represents past old
    → RunsSessions old (before ++ event ∷ later) new → Splits past event later new
split past [] event later old new is run = record {
  before = past;
  old = old;
  between = run.0;
  is =
      is;
  grown = omega arith;
  does = run.1;
  goes_on = run.2;
}
split past (x ∷ before) event later old new is run =
    let rest = split (deeds_after past x) before event later run.0 new
    (leaving past old run.0 x is run.1) run.2 in
    record {
      before = rest.before;
      old = rest.old;
      between = rest.between;
      is = rest.is;
      grown =
          omega (arith, made_grows past x, rest.grown);
      does = rest.does;
      goes_on = rest.goes_on;
    }

-- a token that is valid and has this user, if any
record Has (past : List Deed) (token : NodeId) (user : Option (List ℕ)) : Type 0 where
  valid_still : IsValid token past
  last : last_user (session_of token) past ≡ user

apart_sessions : (past : List Deed) (other token : NodeId) → IsValid other past → IsValid token past
    → other ≢ token → session_of other ≡ session_of token → ⊥
apart_sessions past other token a b ne same = ne (a.is_token ∙ ap token_of same ∙ sym b.is_token)

-- a call that leaves it alone leaves what it has
has-made : (past : List Deed) (token : NodeId) (user : Option (List ℕ)) → Has past token user
    → Has (Made ∷ past) token user
has-made past token user has =
    let valid = has.valid_still in
    record {
      valid_still = record {
        is_token = valid.is_token;
        is_alive =
            record {
              first = valid.is_alive.first;
              made = omega (arith, valid.is_alive.made);
              unclosed =
                  valid.is_alive.unclosed;
            };
      };
      last = has.last;
    }

has-activated : (past : List Deed) (other token : NodeId) (name : List ℕ) (user : Option (List ℕ))
    → IsValid other past → other ≢ token → Has past token user
    → Has (Activated (session_of other) name ∷ past) token user
has-activated past other token name user able ne has =
    let valid = has.valid_still in
    let apart = ne_eqb (session_of other) (session_of token)
    (apart_sessions past other token able valid ne) in
    record {
      valid_still = record {
        is_token = valid.is_token;
        is_alive =
            record {
              first = valid.is_alive.first;
              made = valid.is_alive.made;
              unclosed =
                  valid.is_alive.unclosed;
            };
      };
      last = cond-false (eqb (session_of other) (session_of token)) (Some name)
          (last_user (session_of token) past) apart ∙ has.last;
    }

has-closed : (past : List Deed) (other token : NodeId) (user : Option (List ℕ)) → IsValid other past
    → other ≢ token → Has past token user → Has (Closed (session_of other) ∷ past) token user
has-closed past other token user able ne has =
    let valid = has.valid_still in
    let apart = ne_eqb (session_of other) (session_of token)
    (apart_sessions past other token able valid ne) in
    record {
      valid_still = record {
        is_token = valid.is_token;
        is_alive =
            record {
              first = valid.is_alive.first;
              made = valid.is_alive.made;
              unclosed =
                  or_from (eqb (session_of other) (session_of token))
                  (was_closed (session_of token) past) apart valid.is_alive.unclosed;
            };
      };
      last = has.last;
    }

-- a call that leaves a token alone
has-after : (past : List Deed) (event : SessionCall) (events : List SessionCall) (token : NodeId)
    (user : Option (List ℕ)) → IsAnswered past event → LeaveAlone token (event ∷ events)
    → Has past token user
    → Has (deeds_after past event) token user × LeaveAlone token events
has-after past (Create (Ok given)) events token user answered alone has =
    (has-made past token user has, alone)
has-after past (Create (Err fault)) events token user answered alone has = (has, alone)
has-after past (Activate other allowed claim (Ok name)) events token user answered alone has =
    (has-activated past other token name user answered.0 alone.0 has, alone.1)
has-after past (Activate other allowed claim (Err fault)) events token user answered alone has =
    (has, alone)
has-after past (Close other (Ok done)) events token user answered alone has =
    (has-closed past other token user answered alone.0 has, alone.1)
has-after past (Close other (Err fault)) events token user answered alone has = (has, alone)
has-after past (Ask other result) events token user answered alone has = (has, alone)

-- what a token has is what is answered for it
has-answer : (past : List Deed) (state : SessionsState) (token : NodeId) (user : Option (List ℕ))
    (o : Option Session) → Represents past state → Has past token user
    → find (is_named token) state.alive ≡ o
    → (ok_or o IdInvalid >>= λ session. ok_or session.user NotActivated) ≡ ok_or user NotActivated
has-answer past state token user None is has found =
    absurd (invalid past state token is found has.valid_still)
has-answer past state token user (Some session) is has found =
    let same : session.user ≡ user = (valid past state token session is found).1 ∙ has.last in
    by session.user same
  where
    by : (u : Option (List ℕ)) → u ≡ user → ok_or u NotActivated ≡ ok_or user NotActivated
    by None e = ap (λ o. ok_or o NotActivated) e
    by (Some name) e = ap (λ o. ok_or o NotActivated) e

has-lasts : (past : List Deed) (events : List SessionCall) (old new : SessionsState)
    (token : NodeId) (user : Option (List ℕ)) → Represents past old → RunsSessions old events new
    → LeaveAlone token events → Has past token user → user_at new token ≡ ok_or user NotActivated
has-lasts past [] old new token user is run alone has =
    let P : SessionsState → Type 0 = λ s. user_at s token ≡ ok_or user NotActivated in
    subst P (sym run) (has-answer past old token user (find (is_named token) old.alive) is has refl)
has-lasts past (event ∷ events) old new token user is run alone has =
    let step = has-after past event events token user
    (answering past old run.0 event is run.1) alone has in
    has-lasts (deeds_after past event) events run.0 new token user
    (leaving past old run.0 event is run.1) run.2 step.1 step.0

-- ---- after it was made, and after an activation

pub user-made : (before later : List SessionCall) (given : NodeId × NodeId) (state : SessionsState)
    → RunsSessions no_sessions (before ++ Create (Ok given) ∷ later) state
    → LeaveAlone given.1 later → user_at state given.1 ≡ Err NotActivated
user-made before later given state run alone =
    let parts = split [] before (Create (Ok given)) later no_sessions state represents-fresh run in
    let answered = answering parts.before parts.old parts.between
    (Create (Ok given)) parts.is parts.does in
    let k = suc (made_count parts.before) in
    let unmade = parts.is.unmade k (omega arith) in
    let named : session_of (token_of k) ≡ k = half k in
    let H : ℕ → Type 0 = λ m. IsAlive m (Made ∷ parts.before)
    × (last_user m (Made ∷ parts.before) ≡ None) in
    let both = subst H (sym named)
    (record { first = omega arith; made = omega arith; unclosed = unmade.0 }, unmade.1) in
    let has : Has (Made ∷ parts.before) (token_of k) None =
    record {
      valid_still = record { is_token = ap token_of (sym named); is_alive = both.0 };
      last = both.1;
    } in
    let T : NodeId → Type 0 = λ t. Has (Made ∷ parts.before) t None in
    has-lasts (Made ∷ parts.before) later parts.between state given.1 None
    (leaving parts.before parts.old parts.between (Create (Ok given)) parts.is parts.does)
    parts.goes_on alone
    (subst T (sym (ap (λ p. p.1) answered.1)) has)

pub user-activated : (before later : List SessionCall) (token : NodeId) (allowed : Allowed)
    (claim : Claim) (user : List ℕ) (state : SessionsState)
    → RunsSessions no_sessions (before ++ Activate token allowed claim (Ok user) ∷ later) state
    → LeaveAlone token later → (judgement allowed claim ≡ Ok user) × (user_at state token ≡ Ok user)
user-activated before later token allowed claim user state run alone =
    let event = Activate token allowed claim (Ok user) in
    let parts = split [] before event later no_sessions state represents-fresh run in
    let answered = answering parts.before parts.old parts.between event parts.is parts.does in
    let k = session_of token in
    let is_alive = answered.0.is_alive in
    let has : Has (Activated k user ∷ parts.before) token (Some user) = record {
      valid_still = record {
        is_token = answered.0.is_token;
        is_alive =
            record { first = is_alive.first; made = is_alive.made; unclosed = is_alive.unclosed };
      };
      last = cond-true (eqb k k) (Some user) (last_user k parts.before) (eq-eqb k k refl);
    } in (
      answered.1,
      has-lasts (deeds_after parts.before event) later parts.between state token
          (Some user) (leaving parts.before parts.old parts.between event parts.is parts.does)
          parts.goes_on alone has,
    )

-- ---- after it was closed

closed-stays : (k : ℕ) (past : List Deed) (event : SessionCall) → was_closed k past ≡ true
    → was_closed k (deeds_after past event) ≡ true
closed-stays k past (Create (Ok given)) close_answer = close_answer
closed-stays k past (Create (Err fault)) close_answer = close_answer
closed-stays k past (Activate other allowed claim (Ok name)) close_answer = close_answer
closed-stays k past (Activate other allowed claim (Err fault)) close_answer = close_answer
closed-stays k past (Close other (Ok done)) close_answer =
    or_right (eqb (session_of other) k) (was_closed k past) close_answer
closed-stays k past (Close other (Err fault)) close_answer = close_answer
closed-stays k past (Ask other result) close_answer = close_answer

closed-answer : (past : List Deed) (state : SessionsState) (token : NodeId) (o : Option Session)
    → Represents past state → was_closed (session_of token) past ≡ true
    → find (is_named token) state.alive ≡ o
    → (ok_or o IdInvalid >>= λ session. ok_or session.user NotActivated) ≡ Err IdInvalid
closed-answer past state token None is close_answer found = refl
closed-answer past state token (Some session) is close_answer found =
    let open_still = (valid past state token session is found).0.is_alive.unclosed in
    absurd (true≢false (sym close_answer ∙ open_still))

closed-lasts : (past : List Deed) (events : List SessionCall) (old new : SessionsState)
    (token : NodeId) → Represents past old → RunsSessions old events new
    → was_closed (session_of token) past ≡ true → user_at new token ≡ Err IdInvalid
closed-lasts past [] old new token is run close_answer =
    let P : SessionsState → Type 0 = λ s. user_at s token ≡ Err IdInvalid in
    subst P (sym run) (closed-answer past old token
    (find (is_named token) old.alive) is close_answer refl)
closed-lasts past (event ∷ events) old new token is run close_answer =
    closed-lasts (deeds_after past event) events run.0 new token
    (leaving past old run.0 event is run.1) run.2
    (closed-stays (session_of token) past event close_answer)

pub user-closed : (before later : List SessionCall) (token : NodeId) (state : SessionsState)
    → RunsSessions no_sessions (before ++ Close token (Ok tt) ∷ later) state
    → user_at state token ≡ Err IdInvalid
user-closed before later token state run =
    let event = Close token (Ok tt) in
    let parts = split [] before event later no_sessions state represents-fresh run in
    let k = session_of token in
    closed-lasts (deeds_after parts.before event) later parts.between state token
    (leaving parts.before parts.old parts.between event parts.is parts.does) parts.goes_on
    (or_left (eqb k k) (was_closed k parts.before) (eq-eqb k k refl))

pub ruleset lasting = (user-made, user-activated, user-closed)

-- ---- a token is given once

pub given-once : (before between later : List SessionCall) (one two : NodeId × NodeId)
    (state : SessionsState) → RunsSessions no_sessions
    (before ++ Create (Ok one) ∷ (between ++ Create (Ok two) ∷ later)) state
    → (one.0 ≢ two.0) × (one.1 ≢ two.1)
given-once before between later one two state run =
    let first = split [] before (Create (Ok one))
    (between ++ Create (Ok two) ∷ later) no_sessions state represents-fresh run in
    let one_is = (answering first.before first.old first.between
    (Create (Ok one)) first.is first.does).1 in
    let second = split (Made ∷ first.before) between (Create (Ok two)) later first.between state
    (leaving first.before first.old first.between (Create (Ok one)) first.is first.does)
    first.goes_on in
    let two_is = (answering second.before second.old second.between
    (Create (Ok two)) second.is second.does).1 in
    let grown = second.grown in (
      λ same. let e = ap (λ n. (numeric_parts n).1)
          (sym (ap (λ p. p.0) one_is) ∙ same ∙ ap (λ p. p.0) two_is) in omega arith,
      λ same. let e = ap (λ n. (numeric_parts n).1)
          (sym (ap (λ p. p.1) one_is) ∙ same ∙ ap (λ p. p.1) two_is) in omega arith,
    )

pub ruleset once = (given-once)

-- ---- how many there are

record IsBounded (state : SessionsState) : Type 0 where
  few : length state.alive ≤ 16
  rare : state.made ≤ 1000000

bounded-along : (state new : SessionsState) → new ≡ state → IsBounded state → IsBounded new
bounded-along state new same is = subst IsBounded (sym same) is

bounded-made : (old : SessionsState) (full : Bool) (given : NodeId × NodeId) → is_full old ≡ full
    → IsOrStarved OutOfMemory (cond full (Err TooMany)
    (Ok (session_id_of (old.made + 1), token_of (old.made + 1)))) (Ok given)
    → IsBounded (with_new old)
bounded-made old true given is answer = absurd cc
bounded-made old false given is answer =
    let new : Session = record { token = 2 * (old.made + 1) + 1; user = None } in
    let parts = or_parts (leb 16 (length old.alive)) (leb 1000000 old.made) is in
    let few = leb-false 16 (length old.alive) parts.0 in
    let rare = leb-false 1000000 old.made parts.1 in
    record { few = omega (arith, length-append old.alive (new ∷ [])); rare = omega arith }

bounded-after : (old new : SessionsState) (event : SessionCall) → IsBounded old
    → DoesSessionCall old event new → IsBounded new
bounded-after old new (Create (Ok given)) is does =
    bounded-along _ new does.leaves (bounded-made old (is_full old) given refl does.answer)
bounded-after old new (Create (Err fault)) is does = bounded-along old new does.leaves is
bounded-after old new (Activate token allowed claim (Ok user)) is does =
    bounded-along _ new does.leaves
    (record { few = rw (length-with_user token user old.alive) is.few; rare = is.rare })
bounded-after old new (Activate token allowed claim (Err fault)) is does =
    bounded-along old new does.leaves is
bounded-after old new (Close token (Ok done)) is does =
    bounded-along _ new does.leaves
    (record {
      few = omega (arith, is.few, length-le-without_session token old.alive);
      rare =
          is.rare;
    })
bounded-after old new (Close token (Err fault)) is does = bounded-along old new does.leaves is
bounded-after old new (Ask token result) is does = bounded-along old new does.1 is

bounded-run : (events : List SessionCall) (old new : SessionsState) → IsBounded old
    → RunsSessions old events new → IsBounded new
bounded-run [] old new is run = bounded-along old new run is
bounded-run (event ∷ events) old new is run =
    bounded-run events run.0 new (bounded-after old run.0 event is run.1) run.2

pub runs-bounded : (events : List SessionCall) (state : SessionsState)
    → RunsSessions no_sessions events state → (length state.alive ≤ 16) × (state.made ≤ 1000000)
runs-bounded events state run =
    let is = bounded-run events no_sessions state
    (record { few = omega arith; rare = omega arith }) run in
    (is.few, is.rare)

pub ruleset bounded = (runs-bounded)
