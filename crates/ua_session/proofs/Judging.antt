-- Who is let in, in terms of the first user of a name.
use Rattle.std.proofs.Common.{◌≡◌, ◌≢◌, ◌↔◌, ℕ, Bool, true, false, List, [], ◌∷◌, ◌++◌, Option, None, Some, Result, Ok, Err, refl, sym, ap, ◌∙◌, subst, cond, find, unwrap_or, nat_eq}
use Rattle.std.specs.List.{AllByRecursion}
use Rattle.std.specs.Cmp.Lexicographic.{pointwise, bytes_decides}
use Rattle.std.proofs.lemmas.Bool.{true≢false, false_from_ne_true}
use Rattle.ua_session.specs.declared.fault.SessionFault.{SessionFault}
use Rattle.ua_session.specs.declared.fault.SessionFault.TheVariants.{IdentityRejected}
use Rattle.ua_session.specs.declared.identity.User.{User}
use Rattle.ua_session.specs.Users.{Allowed, Anonymous, Named, judgement_of_name, judgement, IsFirst}
use Rattle.ua_session.proofs.UsersParts.{has_name, nobody, unless_encrypted, judgement_of_user}

same : (a b : List ℕ) → pointwise nat_eq a b ≡ true → a ≡ b
same a b = (bytes_decides a b).0

test : (a b : List ℕ) → a ≡ b → pointwise nat_eq a b ≡ true
test a b = (bytes_decides a b).1

-- ---- a user without a name

anonymous_in : (b : Bool) (user : List ℕ) → (let r : Result (List ℕ) SessionFault =
    cond b (Ok nobody) (Err IdentityRejected) in r ≡ Ok user) → (b ≡ true) × (user ≡ nobody)
anonymous_in true user is = (refl, sym (let e : nobody ≡ user = cc in e))
anonymous_in false user is = absurd cc

pub judged-Anonymous : (allowed : Allowed) (user : List ℕ)
    → (judgement allowed Anonymous ≡ Ok user) ↔ ((allowed.anonymous ≡ true) × (user ≡ nobody))
judged-Anonymous allowed user = (anonymous_in allowed.anonymous user, λ h. rw (h.0, h.1) refl)

-- ---- a user with a name

plain-Ok : (algorithm : List ℕ) (answer : Result (List ℕ) SessionFault) (user : List ℕ)
    → unless_encrypted algorithm answer ≡ Ok user → (algorithm ≡ []) × (answer ≡ Ok user)
plain-Ok [] answer user is = (refl, is)
plain-Ok (byte ∷ algorithm) answer user is = absurd cc

admitted-Ok : (one : User) (password user : List ℕ) (b : Bool)
    → pointwise nat_eq one.password password ≡ b
    → (let r : Result (List ℕ) SessionFault = cond b (Ok one.name) (Err IdentityRejected) in
    r ≡ Ok user)
    → (one.name ≡ user) × (one.password ≡ password)
admitted-Ok one password user true e is = (
  let f : one.name ≡ user = cc in
      f,
  same one.password password e,
)
admitted-Ok one password user false e is = absurd cc

first_behind : (other : User) (users : List User) (name password : List ℕ) → other.name ≢ name
    → IsFirst users name password → IsFirst (other ∷ users) name password
first_behind other users name password ne is = record {
  before = other ∷ is.before;
  user = is.user;
  more = is.more;
  among = ap (λ l. other ∷ l) is.among;
  others = (ne, is.others);
  same_name = is.same_name;
  same_password = is.same_password;
}

first-in : (users : List User) (name password user : List ℕ)
    → judgement_of_user (find (has_name name) users) password ≡ Ok user
    → (name ≡ user) × IsFirst users user password
first-in [] name password user is = absurd cc
first-in (one ∷ users) name password user is =
    by (pointwise nat_eq one.name name) refl is (first-in users name password user)
  where
    by : (b : Bool) → pointwise nat_eq one.name name ≡ b
        → judgement_of_user (cond b (Some one) (find (has_name name) users)) password ≡ Ok user
        → (judgement_of_user (find (has_name name) users) password ≡ Ok user
        → (name ≡ user) × IsFirst users user password)
        → (name ≡ user) × IsFirst (one ∷ users) user password
    by true e found later =
        let named = same one.name name e in
        let has = admitted-Ok one password user
        (pointwise nat_eq one.password password) refl found in (
          sym named ∙ has.0,
          record {
            before = [];
            user = one;
            more = users;
            among = refl;
            others =
                tt;
            same_name = has.0;
            same_password = has.1;
          },
        )
    by false e found later =
        let rest = later found in
        let ne : one.name ≢ user =
        λ f. true≢false (sym (test one.name name (f ∙ sym rest.0)) ∙ e) in
        (rest.0, first_behind one users user password ne rest.1)

first-out : (before : List User) (one : User) (more : List User) (password : List ℕ)
    → AllByRecursion (λ other. other.name ≢ one.name) before → one.password ≡ password
    → judgement_of_user (find (has_name one.name) (before ++ one ∷ more)) password ≡ Ok one.name
first-out [] one more password others is =
    let named = test one.name one.name refl in
    let has = test one.password password is in
    rw (named, has) refl
first-out (other ∷ before) one more password others is =
    let apart = false_from_ne_true (pointwise nat_eq other.name one.name)
    (λ e. others.0 (same other.name one.name e)) in
    rw apart (first-out before one more password others.1 is)

first-told : (users : List User) (user password : List ℕ) → IsFirst users user password
    → judgement_of_user (find (has_name user) users) password ≡ Ok user
first-told users user password is =
    let P : List ℕ → Type 0 = λ name. judgement_of_user (find (has_name name) users) password
    ≡ Ok name in
    let Q : List User → Type 0 = λ l. judgement_of_user (find (has_name is.user.name) l) password
    ≡ Ok is.user.name in
    let N : List ℕ → Type 0 = λ name. AllByRecursion (λ other. other.name ≢ name) is.before in
    subst P is.same_name (subst Q (sym is.among)
    (first-out is.before is.user is.more password
    (subst N (sym is.same_name) is.others) is.same_password))

named_in : (users : List User) (name : Option (List ℕ)) (password user : List ℕ)
    → judgement_of_name users name password ≡ Ok user
    → (name ≡ Some user) × IsFirst users user password
named_in users None password user is = absurd cc
named_in users (Some name) password user is = let both = first-in users name password user is in
    (ap Some both.0, both.1)

pub judged-Named : (allowed : Allowed) (name password algorithm : Option (List ℕ)) (user : List ℕ)
    → (judgement allowed (Named name password algorithm) ≡ Ok user) ↔
    ((unwrap_or algorithm [] ≡ []) × (name ≡ Some user)
    × IsFirst allowed.named user (unwrap_or password []))
judged-Named allowed name password algorithm user = (
  λ is.
      let both = plain-Ok (unwrap_or algorithm [])
      (judgement_of_name allowed.named name (unwrap_or password [])) user is in
      let one = named_in allowed.named name (unwrap_or password []) user both.1 in
      (both.0, one.0, one.1),
  λ h.
      subst (λ l. unless_encrypted l (judgement_of_name allowed.named name (unwrap_or password []))
      ≡ Ok user) (sym h.0)
      (subst (λ n. judgement_of_name allowed.named n (unwrap_or password []) ≡ Ok user) (sym h.1)
      (first-told allowed.named user (unwrap_or password []) h.2)),
)

pub ruleset letting_in = (judged-Anonymous, judged-Named)
