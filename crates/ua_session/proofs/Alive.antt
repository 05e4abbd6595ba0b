-- What is found of a token's number after a session was added, changed or taken out.
use Rattle.std.proofs.Common.{◌≡◌, inl, inr, ℕ, suc, ◌≤◌, Bool, true, false, List, [], ◌∷◌, ◌++◌, length, Option, None, Some, refl, sym, ap, ◌∙◌, subst, cond, eqb, arith, find, IsSome, option_map}
use Rattle.std.specs.Option.{option_or}
use Rattle.std.proofs.lemmas.Bool.{eqb-true, eqb-false, ne_eqb, cases_eq}
use Rattle.std.proofs.lemmas.List.Folds.{find-append}
use Rattle.ua_binary.specs.declared.values.NodeId.{NodeId}
use Rattle.ua_binary.specs.declared.values.NodeId.TheVariants.{Numeric}
use Rattle.ua_session.specs.declared.session.Session.{Session}
use Rattle.ua_session.specs.Sessions.{is_named, with_user, without_session}

abbrev pub named : ℕ → Session → Bool
named n session = eqb n session.token

abbrev pub at : ℕ → List Session → Option Session
at n alive = find (named n) alive

abbrev pub changed : List ℕ → Session → Session
changed user session = record session { user = Some user }

-- no two have one token
abbrev pub Apart : List Session → Type 0
Apart [] = Unit {0}
Apart (session ∷ alive) = (at session.token alive ≡ None) × Apart alive

-- ---- a session has another user

pub at_same-with_user : (n : ℕ) (user : List ℕ) (alive : List Session)
    → at n (with_user (Numeric 1 n) user alive) ≡ option_map (changed user) (at n alive)
at_same-with_user n user [] = refl
at_same-with_user n user (session ∷ alive) =
    by (at_same-with_user n user alive) (eqb n session.token) refl
  where
    by : at n (with_user (Numeric 1 n) user alive) ≡ option_map (changed user) (at n alive)
        → (b : Bool) → eqb n session.token ≡ b
        → at n (with_user (Numeric 1 n) user (session ∷ alive))
        ≡ option_map (changed user) (at n (session ∷ alive))
    by rest true e = rw (e, e) refl
    by rest false e = rw (e, e) rest

pub at_other-with_user : (n m : ℕ) (user : List ℕ) (alive : List Session) → (n ≡ m → ⊥)
    → at n (with_user (Numeric 1 m) user alive) ≡ at n alive
at_other-with_user n m user [] ne = refl
at_other-with_user n m user (session ∷ alive) ne =
    by (at_other-with_user n m user alive ne) (eqb m session.token) refl
  where
    by : at n (with_user (Numeric 1 m) user alive) ≡ at n alive → (b : Bool)
        → eqb m session.token ≡ b → at n (with_user (Numeric 1 m) user (session ∷ alive))
        ≡ at n (session ∷ alive)
    by rest true e =
        let is = eqb-true m session.token e in
        let no : eqb n session.token ≡ false = ne_eqb n session.token (λ f. ne (f ∙ sym is)) in
        rw (e, no) refl
    by rest false e = rw e (ap (λ found. cond (eqb n session.token) (Some session) found) rest)

-- ---- a session is gone

pub at_same-without_session : (n : ℕ) (alive : List Session) → Apart alive
    → at n (without_session (Numeric 1 n) alive) ≡ None
at_same-without_session n [] apart = refl
at_same-without_session n (session ∷ alive) apart =
    by (at_same-without_session n alive apart.1) (eqb n session.token) refl
  where
    by : at n (without_session (Numeric 1 n) alive) ≡ None → (b : Bool) → eqb n session.token ≡ b
        → at n (without_session (Numeric 1 n) (session ∷ alive)) ≡ None
    by rest true e = let P : ℕ → Type 0 = λ k. at k alive ≡ None in
        rw e (subst P (sym (eqb-true n session.token e)) apart.0)
    by rest false e = rw (e, e) rest

pub at_other-without_session : (n m : ℕ) (alive : List Session) → (n ≡ m → ⊥)
    → at n (without_session (Numeric 1 m) alive) ≡ at n alive
at_other-without_session n m [] ne = refl
at_other-without_session n m (session ∷ alive) ne =
    by (at_other-without_session n m alive ne) (eqb m session.token) refl
  where
    by : at n (without_session (Numeric 1 m) alive) ≡ at n alive → (b : Bool)
        → eqb m session.token ≡ b → at n (without_session (Numeric 1 m) (session ∷ alive))
        ≡ at n (session ∷ alive)
    by rest true e =
        let is = eqb-true m session.token e in
        let no : eqb n session.token ≡ false = ne_eqb n session.token (λ f. ne (f ∙ sym is)) in
        rw (e, no) refl
    by rest false e = rw e (ap (λ found. cond (eqb n session.token) (Some session) found) rest)

pub length-without_session : (n : ℕ) (alive : List Session) → IsSome (at n alive)
    → suc (length (without_session (Numeric 1 n) alive)) ≡ length alive
length-without_session n [] some = cc
length-without_session n (session ∷ alive) some =
    by (length-without_session n alive) (eqb n session.token) refl
  where
    by : (IsSome (at n alive) → suc (length (without_session (Numeric 1 n) alive)) ≡ length alive)
        → (b : Bool) → eqb n session.token ≡ b
        → suc (length (without_session (Numeric 1 n) (session ∷ alive))) ≡ suc (length alive)
    by rest true e = rw e refl
    by rest false e =
        let P : Bool → Type 0 = λ b. IsSome (cond b (Some session) (at n alive)) in
        rw e (ap suc (rest (subst P e some)))

pub length-with_user : (token : NodeId) (user : List ℕ) (alive : List Session)
    → length (with_user token user alive) ≡ length alive
length-with_user token user [] = refl
length-with_user token user (session ∷ alive) =
    elim (is_named token session) as (λ b.
    length (cond b (changed user session ∷ alive) (session ∷ with_user token user alive))
    ≡ suc (length alive))
    [ true ↦ refl | false ↦ ap suc (length-with_user token user alive) ]

pub length-le-without_session : (token : NodeId) (alive : List Session)
    → length (without_session token alive) ≤ length alive
length-le-without_session token [] = omega arith
length-le-without_session token (session ∷ alive) =
    elim (is_named token session) as (λ b.
    length (cond b alive (session ∷ without_session token alive)) ≤ suc (length alive))
    [ true ↦ omega arith | false ↦ omega (arith, length-le-without_session token alive) ]

-- ---- no two have one token, still

gone-with_user : (n m : ℕ) (user : List ℕ) (alive : List Session) → at n alive ≡ None
    → at n (with_user (Numeric 1 m) user alive) ≡ None
gone-with_user n m user alive gone =
    elim (cases_eq n m) [
      | inl is ↦ (let P : ℕ → Type 0 = λ k. at n (with_user (Numeric 1 k) user alive) ≡ None in
          subst P is (at_same-with_user n user alive ∙ ap (option_map (changed user)) gone))
      | inr ne ↦ at_other-with_user n m user alive ne ∙ gone
    ]

gone-without_session : (n m : ℕ) (alive : List Session) → Apart alive → at n alive ≡ None
    → at n (without_session (Numeric 1 m) alive) ≡ None
gone-without_session n m alive apart gone =
    elim (cases_eq n m) [
      | inl is ↦ (let P : ℕ → Type 0 = λ k. at n (without_session (Numeric 1 k) alive) ≡ None in
          subst P is (at_same-without_session n alive apart))
      | inr ne ↦ at_other-without_session n m alive ne ∙ gone
    ]

pub apart-with_user : (m : ℕ) (user : List ℕ) (alive : List Session) → Apart alive
    → Apart (with_user (Numeric 1 m) user alive)
apart-with_user m user [] apart = tt
apart-with_user m user (session ∷ alive) apart =
    elim (eqb m session.token) as (λ b.
    Apart (cond b (changed user session ∷ alive)
    (session ∷ with_user (Numeric 1 m) user alive))) [
      | true ↦ apart
      | false ↦ (
        gone-with_user session.token m user alive apart.0,
        apart-with_user m user alive apart.1,
      )
    ]

pub apart-without_session : (m : ℕ) (alive : List Session) → Apart alive
    → Apart (without_session (Numeric 1 m) alive)
apart-without_session m [] apart = tt
apart-without_session m (session ∷ alive) apart =
    elim (eqb m session.token) as (λ b.
    Apart (cond b alive (session ∷ without_session (Numeric 1 m) alive))) [
      | true ↦ apart.1
      | false ↦ (
        gone-without_session session.token m alive apart.1 apart.0,
        apart-without_session m alive apart.1,
      )
    ]

-- ---- a session is new

pub at-append : (n : ℕ) (alive : List Session) (session : Session)
    → at n (alive ++ session ∷ [])
    ≡ option_or (at n alive) (cond (eqb n session.token) (Some session) None)
at-append n alive session = find-append (named n) alive (session ∷ [])

-- the first is another one than a new one
first_other : (n : ℕ) (first : Session) (alive : List Session) → at n (first ∷ alive) ≡ None
    → (n ≡ first.token → ⊥) × (at n alive ≡ None)
first_other n first alive gone = by (eqb n first.token) refl
  where
    by : (b : Bool) → eqb n first.token ≡ b → (n ≡ first.token → ⊥) × (at n alive ≡ None)
    by true e = let f : cond true (Some first) (at n alive) ≡ None =
        ap (λ b. cond b (Some first) (at n alive)) (sym e) ∙ gone in absurd cc
    by false e = (
      eqb-false n first.token e,
      ap (λ b. cond b (Some first) (at n alive)) (sym e)
          ∙ gone,
    )

pub apart-append : (alive : List Session) (session : Session) → Apart alive
    → at session.token alive ≡ None → Apart (alive ++ session ∷ [])
apart-append [] session apart gone = (refl, tt)
apart-append (first ∷ alive) session apart gone =
    let other = first_other session.token first alive gone in
    let no : eqb first.token session.token ≡ false =
    ne_eqb first.token session.token (λ f. other.0 (sym f)) in (
      rw (at-append first.token alive session, apart.0, no) refl,
      apart-append alive session apart.1 other.1,
    )
