-- The sessions that are held are those that were made and not closed, and so each call is answered
-- by what happened.
use Rattle.std.proofs.Common.{◌≡◌, inl, inr, ℕ, suc, ◌+◌, ◌*◌, ◌/◌, ◌<◌, Bool, true, false, List, [], ◌∷◌, length, Option, None, Some, Result, Ok, Err, refl, sym, ap, ◌∙◌, subst, cond, eqb, leb, arith, find, length-append, is_some, IsSome, option_map, unwrap_or, nat_eq, ◌&&◌}
use Rattle.std.specs.Option.{option_or, ok_or}
use Rattle.std.specs.Result.{result_ok}
use Rattle.std.specs.Cmp.Lexicographic.{pointwise}
use Rattle.std.proofs.lemmas.Bool.{eqb-true, eqb-false, eq-eqb, ne_eqb, cases_eq, or_parts, or_cases, or_from, leb-true, leb-false, cond-true, cond-false, true≢false}
use Rattle.ua_binary.specs.declared.values.NodeId.{NodeId}
use Rattle.ua_binary.specs.declared.values.NodeId.TheVariants.{Numeric, Named, Global, Opaque}
use Rattle.ua_session.specs.declared.fault.SessionFault.{SessionFault}
use Rattle.ua_session.specs.declared.fault.SessionFault.TheVariants.{TooMany, IdInvalid, NotActivated, IdentityInvalid, IdentityRejected, OutOfMemory}
use Rattle.ua_session.specs.declared.session.Session.{Session}
use Rattle.ua_session.specs.declared.identity.User.{User}
use Rattle.ua_session.specs.Users.{Allowed, Claim, Anonymous, Named as ByName, Other, judgement_of_name, judgement}
use Rattle.ua_session.proofs.UsersParts.{has_name, nobody, unless_encrypted, judgement_of_user}
use Rattle.ua_binary.specs.Format.{◌>>=◌, IsOrStarved}
use Rattle.ua_session.specs.Sessions.{SessionsState, no_sessions, session_id_of, token_of, is_named, with_new, with_user, without_session}
use Rattle.ua_session.proofs.SessionsParts.{is_full}
use Rattle.ua_session.specs.History.{Deed, Made, Activated, Closed, made_count, closed_count, was_closed, last_user, IsAlive, session_of, IsValid, HasRoom, SessionCall, Create, Activate, Close, Ask, DoesSessionCall, RunsSessions, deeds_after, IsAnswered, AreAnswered}
use Rattle.ua_session.proofs.Alive.{at, changed, Apart, at_same-with_user, at_other-with_user, at_same-without_session, at_other-without_session, length-without_session, length-with_user, apart-with_user, apart-without_session, at-append, apart-append}

-- a session that is held under a token's number
pub record Holds (past : List Deed) (n : ℕ) (session : Session) : Type 0 where
  pub odd : n ≡ 2 * (n / 2) + 1
  pub is_alive : IsAlive (n / 2) past
  pub user : session.user ≡ last_user (n / 2) past

-- what is held, in terms of what happened
pub record Represents (past : List Deed) (state : SessionsState) : Type 0 where
  pub made : state.made ≡ made_count past
  pub count : length state.alive + closed_count past ≡ made_count past
  pub apart : Apart state.alive
  pub holds : (n : ℕ) (session : Session) → at n state.alive ≡ Some session → Holds past n session
  pub held : (k : ℕ) → IsAlive k past → IsSome (at (2 * k + 1) state.alive)
  pub unmade : (k : ℕ) → made_count past < k
      → (was_closed k past ≡ false) × (last_user k past ≡ None)

pub represents-fresh : Represents [] no_sessions
represents-fresh = record {
  made = refl;
  count = refl;
  apart = tt;
  holds = λ n session is. cc;
  held = λ k is. absurd (omega (arith, is.first, is.made));
  unmade = λ k above. (refl, refl);
}

-- ---- a session is made

made-fresh : (past : List Deed) (state : SessionsState) → Represents past state
    → at (2 * (state.made + 1) + 1) state.alive ≡ None
made-fresh past state is = by (at (2 * (state.made + 1) + 1) state.alive) refl
  where
    by : (o : Option Session) → at (2 * (state.made + 1) + 1) state.alive ≡ o
        → at (2 * (state.made + 1) + 1) state.alive ≡ None
    by None e = e
    by (Some session) e =
        let holds = is.holds (2 * (state.made + 1) + 1) session e in
        let bound = holds.is_alive.made in
        let made = is.made in
        absurd (omega arith)

-- the last of the sessions is the new one
holds-made : (past : List Deed) (state : SessionsState) (n : ℕ) (session : Session)
    → Represents past state → (o : Option Session) (b : Bool) → at n state.alive ≡ o
    → eqb n (2 * (state.made + 1) + 1) ≡ b
    → (let new : Session = record { token = 2 * (state.made + 1) + 1; user = None } in
    option_or o (cond b (Some new) None)) ≡ Some session → Holds (Made ∷ past) n session
holds-made past state n session is (Some one) b at_is test found =
    let holds = is.holds n session (at_is ∙ found) in
    record {
      odd = holds.odd;
      is_alive = record {
        first = holds.is_alive.first;
        made =
            omega (arith, holds.is_alive.made);
        unclosed = holds.is_alive.unclosed;
      };
      user =
          holds.user;
    }
holds-made past state n session is None true at_is test found =
    let n_is = eqb-true n (2 * (state.made + 1) + 1) test in
    let made = is.made in
    let unmade = is.unmade (n / 2) (omega arith) in
    let user : None ≡ session.user =
    ap (λ (o : Option Session). elim o [ None ↦ None | Some s ↦ s.user ]) found in
    record {
      odd = omega arith;
      is_alive = record {
        first = omega arith;
        made =
            omega arith;
        unclosed = unmade.0;
      };
      user = sym user ∙ sym unmade.1;
    }
holds-made past state n session is None false at_is test found = cc

some_left : {A : Type 0} (o p : Option A) → IsSome o → IsSome (option_or o p)
some_left (Some x) p some = some
some_left None p some = cc

some_right : {A : Type 0} (o : Option A) (x : A) → IsSome (option_or o (Some x))
some_right (Some y) x = refl
some_right None x = refl

held-made : (past : List Deed) (state : SessionsState) (k : ℕ) → Represents past state
    → IsAlive k (Made ∷ past) → IsSome (at (2 * k + 1) (with_new state).alive)
held-made past state k is alive =
    let new : Session = record { token = 2 * (state.made + 1) + 1; user = None } in
    let made = is.made in
    let P : Option Session → Type 0 = IsSome in
    subst P (sym (at-append (2 * k + 1) state.alive new))
    (elim (cases_eq k (suc (made_count past))) [
      | inl one ↦ (let test : eqb (2 * k + 1) (2 * (state.made + 1) + 1) ≡ true =
          eq-eqb _ _ (omega arith) in rw test (some_right (at (2 * k + 1) state.alive) new))
      | inr ne ↦ some_left (at (2 * k + 1) state.alive) _
          (is.held k (record {
            first = alive.first;
            made = omega (arith, alive.made);
            unclosed =
                alive.unclosed;
          }))
    ])

represents-made : (past : List Deed) (state : SessionsState) → Represents past state
    → Represents (Made ∷ past) (with_new state)
represents-made past state is =
    let new : Session = record { token = 2 * (state.made + 1) + 1; user = None } in
    record {
      made = omega (arith, is.made);
      count = omega (arith, length-append state.alive (new ∷ []), is.count);
      apart = apart-append state.alive new is.apart (made-fresh past state is);
      holds = λ n session found. holds-made past state n session is (at n state.alive)
          (eqb n (2 * (state.made + 1) + 1)) refl refl (sym (at-append n state.alive new) ∙ found);
      held = λ k alive. held-made past state k is alive;
      unmade = λ k above. is.unmade k (omega arith);
    }

-- ---- a session is activated

-- two tokens are of two sessions
halves : (past : List Deed) (n m : ℕ) (s t : Session) → Holds past n s → Holds past m t
    → (m ≡ n → ⊥) → n / 2 ≡ m / 2 → ⊥
halves past n m s t one other ne same =
    let a = one.odd in
    let b = other.odd in
    ne (b ∙ ap (λ h. 2 * h + 1) (sym same) ∙ sym a)

represents-activated : (past : List Deed) (state : SessionsState) (n : ℕ) (user : List ℕ)
    (one : Session) → Represents past state → at n state.alive ≡ Some one
    → Represents (Activated (n / 2) user
    ∷ past) (record state { alive = with_user (Numeric 1 n) user state.alive })
represents-activated past state n user one is there =
    let held_one = is.holds n one there in
    record {
      made = is.made;
      count = rw (length-with_user (Numeric 1 n) user state.alive) is.count;
      apart = apart-with_user n user state.alive is.apart;
      holds = λ m session found. elim (cases_eq m n) [
        | inl same ↦ (
            let Q : ℕ → Type 0 = λ k. at k (with_user (Numeric 1 n) user state.alive)
            ≡ Some session in
            let changed : Some (changed user one) ≡ Some session =
            sym (at_same-with_user n user state.alive ∙ ap (option_map (changed user)) there)
            ∙ subst Q same found in
            let has : Some user ≡ session.user =
            ap (λ (o : Option Session). elim o [ None ↦ None | Some s ↦ s.user ]) changed in
            let P : ℕ → Type 0 = λ k. Holds (Activated (n / 2) user ∷ past) k session in
            subst P (sym same) (record {
              odd = held_one.odd;
              is_alive = record {
                first = held_one.is_alive.first;
                made =
                    held_one.is_alive.made;
                unclosed = held_one.is_alive.unclosed;
              };
              user = sym has ∙ sym (cond-true (eqb (n / 2) (n / 2)) (Some user)
                  (last_user (n / 2) past) (eq-eqb (n / 2) (n / 2) refl));
            }))
        | inr ne ↦ (
            let held_other = is.holds m session (sym (at_other-with_user m n user state.alive ne)
            ∙ found) in
            let apart = ne_eqb (n / 2) (m / 2)
            (halves past n m one session held_one held_other ne) in
            record {
              odd = held_other.odd;
              is_alive = record {
                first = held_other.is_alive.first;
                made =
                    held_other.is_alive.made;
                unclosed = held_other.is_alive.unclosed;
              };
              user = held_other.user
                  ∙ sym (cond-false (eqb (n / 2) (m / 2)) (Some user)
                  (last_user (m / 2) past) apart);
            })
      ];
      held = λ k alive.
          let still = is.held k (record
          { first = alive.first; made = alive.made; unclosed = alive.unclosed }) in
          elim (cases_eq (2 * k + 1) n) [
            | inl same ↦ (
                let P : ℕ → Type 0 =
                λ m. IsSome (at m (with_user (Numeric 1 n) user state.alive)) in
                subst P (sym same) (rw (at_same-with_user n user state.alive, there) refl))
            | inr ne ↦ rw (at_other-with_user (2 * k + 1) n user state.alive ne) still
          ];
      unmade = λ k above.
          let bound = held_one.is_alive.made in
          let apart : eqb (n / 2) k ≡ false = ne_eqb (n / 2) k (λ e. omega arith) in (
            (is.unmade k above).0,
            cond-false (eqb (n / 2) k) (Some user) (last_user k past) apart
                ∙ (is.unmade k above).1,
          );
    }

-- ---- a session is closed

represents-closed : (past : List Deed) (state : SessionsState) (n : ℕ) (one : Session)
    → Represents past state → at n state.alive ≡ Some one
    → Represents (Closed (n / 2) ∷ past)
    (record state { alive = without_session (Numeric 1 n) state.alive })
represents-closed past state n one is there =
    let held_one = is.holds n one there in
    let fewer = length-without_session n state.alive (rw there refl) in
    record {
      made = is.made;
      count = omega (arith, is.count, fewer);
      apart = apart-without_session n state.alive is.apart;
      holds = λ m session found. elim (cases_eq m n) [
        | inl same ↦ (
            let Q : ℕ → Type 0 = λ k. at k (without_session (Numeric 1 n) state.alive)
            ≡ Some session in
            let gone : None ≡ Some session =
            sym (at_same-without_session n state.alive is.apart) ∙ subst Q same found in
            absurd cc)
        | inr ne ↦ (
            let held_other = is.holds m session (sym (at_other-without_session m n state.alive ne)
            ∙ found) in
            let apart = ne_eqb (n / 2) (m / 2)
            (halves past n m one session held_one held_other ne) in
            record {
              odd = held_other.odd;
              is_alive = record {
                first = held_other.is_alive.first;
                made =
                    held_other.is_alive.made;
                unclosed =
                    or_from (eqb (n / 2) (m / 2))
                    (was_closed (m / 2) past) apart held_other.is_alive.unclosed;
              };
              user = held_other.user;
            })
      ];
      held = λ k alive.
          let parts = or_parts (eqb (n / 2) k) (was_closed k past) alive.unclosed in
          let still = is.held k (record
          { first = alive.first; made = alive.made; unclosed = parts.1 }) in
          let other = eqb-false (n / 2) k parts.0 in
          let ne : 2 * k + 1 ≡ n → ⊥ = λ e. other (omega arith) in
          rw (at_other-without_session (2 * k + 1) n state.alive ne) still;
      unmade = λ k above.
          let bound = held_one.is_alive.made in
          let apart : eqb (n / 2) k ≡ false = ne_eqb (n / 2) k (λ e. omega arith) in (
            or_from (eqb (n / 2) k) (was_closed k past) apart (is.unmade k above).0,
            (is.unmade k above).1,
          );
    }

-- ---- which tokens are valid

none_found : (alive : List Session) → find (λ _. false) alive ≡ None
none_found [] = refl
none_found (session ∷ alive) = none_found alive

-- the token that names a session that is held
record Names (past : List Deed) (state : SessionsState) (token : NodeId) (session : Session) :
    Type 0 where
  is_token : token ≡ token_of (session_of token)
  there : at (2 * session_of token + 1) state.alive ≡ Some session
  holds : Holds past (2 * session_of token + 1) session

names : (past : List Deed) (state : SessionsState) (token : NodeId) (session : Session)
    → Represents past state → find (is_named token) state.alive ≡ Some session
    → Names past state token session
names past state (Numeric namespace n) session is found = by (eqb namespace 1) refl
  where
    by : (b : Bool) → eqb namespace 1 ≡ b → Names past state (Numeric namespace n) session
    by true e =
        let Q : Bool → Type 0 = λ b. find (λ (s : Session). b && eqb n s.token) state.alive
        ≡ Some session in
        let there : at n state.alive ≡ Some session = subst Q e found in
        let holds = is.holds n session there in
        let P : ℕ → Type 0 = λ m. at m state.alive ≡ Some session in
        let H : ℕ → Type 0 = λ m. Holds past m session in
        record {
          is_token = ap (λ k. Numeric k n) (eqb-true namespace 1 e)
              ∙ ap (λ m. Numeric 1 m) holds.odd;
          there = subst P holds.odd there;
          holds =
              subst H holds.odd holds;
        }
    by false e =
        let Q : Bool → Type 0 = λ b. find (λ (s : Session). b && eqb n s.token) state.alive
        ≡ Some session in
        let there : find (λ (s : Session). false) state.alive ≡ Some session = subst Q e found in
        let none = none_found state.alive in absurd cc
names past state (Named namespace name) session is found = let none = none_found state.alive in
    absurd cc
names past state (Global namespace id) session is found = let none = none_found state.alive in
    absurd cc
names past state (Opaque namespace id) session is found = let none = none_found state.alive in
    absurd cc

pub half : (k : ℕ) → (2 * k + 1) / 2 ≡ k
half k = omega arith

pub valid : (past : List Deed) (state : SessionsState) (token : NodeId) (session : Session)
    → Represents past state → find (is_named token) state.alive ≡ Some session
    → IsValid token past × (session.user ≡ last_user (session_of token) past)
valid past state token session is found =
    let named = names past state token session is found in
    let k = session_of token in
    let P : ℕ → Type 0 = λ m. IsAlive m past × (session.user ≡ last_user m past) in
    let both = subst P (half k) (named.holds.is_alive, named.holds.user) in
    (record { is_token = named.is_token; is_alive = both.0 }, both.1)

pub invalid : (past : List Deed) (state : SessionsState) (token : NodeId) → Represents past state
    → find (is_named token) state.alive ≡ None → ¬ IsValid token past
invalid past state token is gone one =
    let P : NodeId → Type 0 = λ t. find (is_named t) state.alive ≡ None in
    let none : at (2 * session_of token + 1) state.alive ≡ None = subst P one.is_token gone in
    let some = is.held (session_of token) one.is_alive in
    let wrong : is_some (at (2 * session_of token + 1) state.alive) ≡ false = ap is_some none in
    true≢false (sym some ∙ wrong)

-- ---- one call

-- what is judged is a matter of the identity
abbrev of_identity : SessionFault → Bool
of_identity IdentityInvalid = true
of_identity IdentityRejected = true
of_identity fault = false

abbrev is_judgement : Result (List ℕ) SessionFault → Bool
is_judgement (Ok user) = true
is_judgement (Err fault) = of_identity fault

admitted-judges : (o : Option User) (password : List ℕ)
    → is_judgement (judgement_of_user o password) ≡ true
admitted-judges None password = refl
admitted-judges (Some user) password =
    elim (pointwise nat_eq user.password password) as
    (λ b. is_judgement (cond b (Ok user.name) (Err IdentityRejected)) ≡ true)
    [ true ↦ refl | false ↦ refl ]

known-judges : (users : List User) (name : Option (List ℕ)) (password : List ℕ)
    → is_judgement (judgement_of_name users name password) ≡ true
known-judges users None password = refl
known-judges users (Some name) password = admitted-judges (find (has_name name) users) password

plain-judges : (algorithm : List ℕ) (answer : Result (List ℕ) SessionFault)
    → is_judgement answer ≡ true → is_judgement (unless_encrypted algorithm answer) ≡ true
plain-judges [] answer e = e
plain-judges (byte ∷ algorithm) answer e = refl

judged-judges : (allowed : Allowed) (claim : Claim) → is_judgement (judgement allowed claim) ≡ true
judged-judges allowed Anonymous = elim allowed.anonymous as
    (λ b. is_judgement (cond b (Ok nobody) (Err IdentityRejected)) ≡ true)
    [ true ↦ refl | false ↦ refl ]
judged-judges allowed (ByName name password algorithm) =
    plain-judges (unwrap_or algorithm []) (judgement_of_name allowed.named name
    (unwrap_or password [])) (known-judges allowed.named name (unwrap_or password []))
judged-judges allowed Other = refl

judged-fault : (allowed : Allowed) (claim : Claim) (fault : SessionFault)
    → judgement allowed claim ≡ Err fault → of_identity fault ≡ true
judged-fault allowed claim fault is = sym (ap is_judgement is) ∙ judged-judges allowed claim

has_room : (past : List Deed) (old : SessionsState) → Represents past old → is_full old ≡ false
    → HasRoom past
has_room past old is full =
    let parts = or_parts (leb 16 (length old.alive)) (leb 1000000 old.made) full in
    let few = leb-false 16 (length old.alive) parts.0 in
    let rare = leb-false 1000000 old.made parts.1 in
    let made = is.made in
    let count = is.count in
    record { to_make = omega arith; to_hold = omega arith }

no_room : (past : List Deed) (old : SessionsState) → Represents past old → is_full old ≡ true
    → ¬ HasRoom past
no_room past old is full room =
    let made = is.made in
    let count = is.count in
    elim (or_cases (leb 16 (length old.alive)) (leb 1000000 old.made) full) [
      | inl many ↦ (let h = leb-true 16 (length old.alive) many in let a = room.to_hold in
          omega arith)
      | inr last ↦ (let h = leb-true 1000000 old.made last in let a = room.to_make in omega arith)
    ]

creating : (past : List Deed) (old : SessionsState) (full : Bool)
    (result : Result (NodeId × NodeId) SessionFault) → Represents past old → is_full old ≡ full
    → IsOrStarved OutOfMemory (cond full (Err TooMany)
    (Ok (session_id_of (old.made + 1), token_of (old.made + 1)))) result
    → IsAnswered past (Create result)
creating past old true (Ok given) is full answer = absurd cc
creating past old true (Err TooMany) is full answer = no_room past old is full
creating past old true (Err fault) is full answer = cc
creating past old false (Ok given) is full answer = (
  has_room past old is full,
  answer
      ∙ ap (λ m. (session_id_of m, token_of m)) (omega (arith, is.made)),
)
creating past old false (Err OutOfMemory) is full answer = has_room past old is full
creating past old false (Err fault) is full answer = cc

activating : (past : List Deed) (old : SessionsState) (token : NodeId) (allowed : Allowed)
    (claim : Claim) (o : Option Session) (j : Result (List ℕ) SessionFault)
    (result : Result (List ℕ) SessionFault)
    → Represents past old → find (is_named token) old.alive ≡ o → judgement allowed claim ≡ j
    → IsOrStarved OutOfMemory (ok_or o IdInvalid >>= λ _. j) result
    → IsAnswered past (Activate token allowed claim result)
activating past old token allowed claim None j (Ok user) is found judges answer = absurd cc
activating past old token allowed claim None j (Err IdInvalid) is found judges answer =
    invalid past old token is found
activating past old token allowed claim None j (Err fault) is found judges answer = absurd cc
activating past old token allowed claim (Some session) (Ok name) (Ok user) is found judges answer =
    ((valid past old token session is found).0, judges ∙ ap Ok (sym answer))
activating past old token allowed claim (Some session) (Ok name)
    (Err OutOfMemory) is found judges answer =
    ((valid past old token session is found).0, rw judges refl)
activating past old token allowed claim (Some session) (Ok name)
    (Err fault) is found judges answer = absurd cc
activating past old token allowed claim (Some session) (Err cause)
    (Ok user) is found judges answer = absurd cc
activating past old token allowed claim (Some session) (Err cause)
    (Err IdInvalid) is found judges answer = let answer_of =
    judged-fault allowed claim cause judges in absurd cc
activating past old token allowed claim (Some session) (Err cause)
    (Err OutOfMemory) is found judges answer = let answer_of =
    judged-fault allowed claim cause judges in absurd cc
activating past old token allowed claim (Some session) (Err cause)
    (Err fault) is found judges answer =
    ((valid past old token session is found).0, judges ∙ sym answer)

closing : (past : List Deed) (old : SessionsState) (token : NodeId) (o : Option Session)
    (result : Result (Unit {0}) SessionFault)
    → Represents past old → find (is_named token) old.alive ≡ o
    → result ≡ (ok_or o IdInvalid >>= λ _. Ok tt) → IsAnswered past (Close token result)
closing past old token None (Ok done) is found answer = absurd cc
closing past old token None (Err IdInvalid) is found answer = invalid past old token is found
closing past old token None (Err fault) is found answer = absurd cc
closing past old token (Some session) (Ok done) is found answer =
    (valid past old token session is found).0
closing past old token (Some session) (Err fault) is found answer = absurd cc

asked : (past : List Deed) (token : NodeId) (user : Option (List ℕ))
    (result : Result (List ℕ) SessionFault) → IsValid token past
    → user ≡ last_user (session_of token) past
    → result ≡ ok_or user NotActivated → IsAnswered past (Ask token result)
asked past token None (Ok name) is last answer = absurd cc
asked past token None (Err NotActivated) is last answer = (is, sym last)
asked past token None (Err fault) is last answer = absurd cc
asked past token (Some user) (Ok name) is last answer = (is, sym last ∙ sym (ap result_ok answer))
asked past token (Some user) (Err fault) is last answer = absurd cc

asking : (past : List Deed) (old : SessionsState) (token : NodeId) (o : Option Session)
    (result : Result (List ℕ) SessionFault)
    → Represents past old → find (is_named token) old.alive ≡ o
    → result ≡ (ok_or o IdInvalid >>= λ session. ok_or session.user NotActivated)
    → IsAnswered past (Ask token result)
asking past old token None (Ok user) is found answer = absurd cc
asking past old token None (Err IdInvalid) is found answer = invalid past old token is found
asking past old token None (Err fault) is found answer = absurd cc
asking past old token (Some session) result is found answer =
    let both = valid past old token session is found in
    asked past token session.user result both.0 both.1 answer

-- ---- what a call leaves

leaves-activated : (past : List Deed) (old : SessionsState) (token : NodeId) (user : List ℕ)
    (session : Session) → Represents past old → find (is_named token) old.alive ≡ Some session
    → Represents (Activated (session_of token) user ∷ past)
    (record old { alive = with_user token user old.alive })
leaves-activated past old token user session is found =
    let named = names past old token session is found in
    let P : NodeId → Type 0 = λ t.
    Represents (Activated (session_of token) user ∷ past)
    (record old { alive = with_user t user old.alive }) in
    let Q : ℕ → Type 0 = λ k. Represents (Activated k user ∷ past)
    (record old { alive = with_user (token_of (session_of token)) user old.alive }) in
    subst P (sym named.is_token) (subst Q (half (session_of token))
    (represents-activated past old (2 * session_of token + 1) user session is named.there))

leaves-closed : (past : List Deed) (old : SessionsState) (token : NodeId) (session : Session)
    → Represents past old → find (is_named token) old.alive ≡ Some session
    → Represents (Closed (session_of token) ∷ past)
    (record old { alive = without_session token old.alive })
leaves-closed past old token session is found =
    let named = names past old token session is found in
    let P : NodeId → Type 0 = λ t.
    Represents (Closed (session_of token) ∷ past)
    (record old { alive = without_session t old.alive }) in
    let Q : ℕ → Type 0 = λ k. Represents (Closed k ∷ past)
    (record old { alive = without_session (token_of (session_of token)) old.alive }) in
    subst P (sym named.is_token) (subst Q (half (session_of token))
    (represents-closed past old (2 * session_of token + 1) session is named.there))

goes-activate : (past : List Deed) (old : SessionsState) (token : NodeId) (user : List ℕ)
    (o : Option Session) (j : Result (List ℕ) SessionFault) → Represents past old
    → find (is_named token) old.alive ≡ o
    → IsOrStarved OutOfMemory (ok_or o IdInvalid >>= λ _. j) (Ok user)
    → Represents (Activated (session_of token) user ∷ past)
    (record old { alive = with_user token user old.alive })
goes-activate past old token user None j is found answer = absurd cc
goes-activate past old token user (Some session) j is found answer =
    leaves-activated past old token user session is found

goes-close : (past : List Deed) (old : SessionsState) (token : NodeId) (done : Unit {0})
    (o : Option Session) → Represents past old → find (is_named token) old.alive ≡ o
    → (let r : Result (Unit {0}) SessionFault = Ok done in r ≡ (ok_or o IdInvalid >>= λ _. Ok tt))
    → Represents (Closed (session_of token) ∷ past)
    (record old { alive = without_session token old.alive })
goes-close past old token done None is found answer = absurd cc
goes-close past old token done (Some session) is found answer =
    leaves-closed past old token session is found

represents-along : (past : List Deed) (state new : SessionsState) → new ≡ state
    → Represents past state → Represents past new
represents-along past state new same is = let P : SessionsState → Type 0 = Represents past in
    subst P (sym same) is

pub answering : (past : List Deed) (old new : SessionsState) (event : SessionCall)
    → Represents past old → DoesSessionCall old event new → IsAnswered past event
answering past old new (Create result) is does =
    creating past old (is_full old) result is refl does.answer
answering past old new (Activate token allowed claim result) is does =
    activating past old token allowed claim (find (is_named token) old.alive)
    (judgement allowed claim) result is refl refl does.answer
answering past old new (Close token result) is does =
    closing past old token (find (is_named token) old.alive) result is refl does.answer
answering past old new (Ask token result) is does =
    asking past old token (find (is_named token) old.alive) result is refl does.0

pub leaving : (past : List Deed) (old new : SessionsState) (event : SessionCall)
    → Represents past old → DoesSessionCall old event new → Represents (deeds_after past event) new
leaving past old new (Create (Ok given)) is does =
    represents-along _ _ new does.leaves (represents-made past old is)
leaving past old new (Create (Err fault)) is does = represents-along past old new does.leaves is
leaving past old new (Activate token allowed claim (Ok user)) is does =
    represents-along _ _ new does.leaves (goes-activate past old token user
    (find (is_named token) old.alive) (judgement allowed claim) is refl does.answer)
leaving past old new (Activate token allowed claim (Err fault)) is does =
    represents-along past old new does.leaves is
leaving past old new (Close token (Ok done)) is does =
    represents-along _ _ new does.leaves (goes-close past old token done
    (find (is_named token) old.alive) is refl does.answer)
leaving past old new (Close token (Err fault)) is does =
    represents-along past old new does.leaves is
leaving past old new (Ask token result) is does = represents-along past old new does.1 is

-- ---- whole runs

runs-answered : (past : List Deed) (events : List SessionCall) (old new : SessionsState)
    → Represents past old → RunsSessions old events new → AreAnswered past events
runs-answered past [] old new is run = tt
runs-answered past (event ∷ events) old new is run = (
  answering past old run.0 event is run.1,
  runs-answered (deeds_after past event) events run.0 new
      (leaving past old run.0 event is run.1) run.2,
)

pub calls-answered : (events : List SessionCall) (state : SessionsState)
    → RunsSessions no_sessions events state → AreAnswered [] events
calls-answered events state run = runs-answered [] events no_sessions state represents-fresh run

pub ruleset answered = (calls-answered)
