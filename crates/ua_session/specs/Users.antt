-- Which users there are, and as whom an identity is allowed (Part 4, 5.7.3).
use Rattle.std.specs.Prelude.{◌≡◌, ◌≢◌, ◌≤◌, ℕ, Bool, true, List, [], ◌∷◌, ◌++◌, length, codes, nat_eq, Option, option_and_then, option_map, None, Some, Result, Ok, Err, find, unwrap_or, if◌then◌else◌}
use Rattle.std.specs.List.{AllByRecursion}
use Rattle.std.specs.Borrow.{Bor}
use Rattle.std.specs.Option.{option_copied}
use Rattle.std.specs.Cmp.Lexicographic.{pointwise}
use Rattle.std.specs.Str.{is_utf8}
use Rattle.ua_session.specs.declared.fault.SessionFault.{SessionFault}
use Rattle.ua_session.specs.declared.fault.SessionFault.TheVariants.{IdentityInvalid, IdentityRejected}
use Rattle.ua_session.specs.declared.identity.User.{User}
use Rattle.ua_session.specs.declared.identity.Access.{Access}
use Rattle.ua_session.specs.declared.identity.Access.TheVariants.{Read}
use Rattle.ua_session.specs.declared.identity.Identity.{Identity}
use Rattle.ua_session.specs.declared.identity.Identity.TheVariants as lent

-- whether a user without a name is allowed, and what such a one may do, and the users with a name,
-- in the order in which they were added
pub record Allowed : Type 0 where
  pub anonymous : Bool
  pub anonymous_access : Access
  pub named : List User

-- with one user more, the last
abbrev pub with_added : Allowed → List ℕ → List ℕ → Access → Allowed
with_added allowed name password access =
    record allowed {
      named =
          allowed.named ++ record { name = name; password = password; access = access } ∷ [];
    }

-- what the user may do who was let in by this name: of equal names the first one counts, and a name
-- that nobody has reads alone
abbrev pub access_of : Allowed → List ℕ → Access
access_of allowed name =
    if pointwise nat_eq name (codes "anonymous") then allowed.anonymous_access
    else elim (find (λ user. pointwise nat_eq user.name name) allowed.named) [
      | None ↦ Read
      | Some user ↦ user.access
    ]

-- the password of the first user of a name
abbrev pub password_of : Allowed → List ℕ → Option (List ℕ)
password_of allowed name =
    option_map (λ user. user.password)
    (find (λ user. pointwise nat_eq user.name name) allowed.named)

-- An identity without where it lies in memory: no name, or a name with a password and the algorithm
-- that encrypted it, or something else.
pub data Claim : Type 0 where
  Anonymous Other : Claim
  Named : Option (List ℕ) → Option (List ℕ) → Option (List ℕ) → Claim

abbrev pub claim_of : Identity → Claim
claim_of lent.Anonymous = Anonymous
claim_of (lent.Named name password algorithm) =
    Named (option_copied name) (option_copied password) (option_copied algorithm)
claim_of lent.Other = Other

-- an answer without where its name lies in memory
abbrev pub user_name_of : Result (Bor (List ℕ)) SessionFault → Result (List ℕ) SessionFault
user_name_of (Ok name) = Ok name.now
user_name_of (Err fault) = Err fault

-- the user's name where the password is the user's, every byte of it; of equal names the first one
-- counts, and a null name is nobody's
abbrev pub judgement_of_name : List User → Option (List ℕ) → List ℕ → Result (List ℕ) SessionFault
judgement_of_name users given password =
    elim (option_and_then (λ name. find (λ user. pointwise nat_eq user.name name) users) given) [
      | None ↦ Err IdentityRejected
      | Some user ↦ if pointwise nat_eq user.password password then Ok user.name
          else Err IdentityRejected
    ]

-- as whom an identity is allowed, or why it isn't; one that is encrypted is invalid; a null
-- password and a null algorithm count as empty ones
abbrev pub judgement : Allowed → Claim → Result (List ℕ) SessionFault
judgement allowed Anonymous =
    if allowed.anonymous then Ok (codes "anonymous") else Err IdentityRejected
judgement allowed (Named name password algorithm) =
    elim (unwrap_or algorithm []) [
      | [] ↦ judgement_of_name allowed.named name (unwrap_or password [])
      | byte ∷ algorithm ↦ Err IdentityInvalid
    ]
judgement allowed Other = Err IdentityInvalid

abbrev pub HasShortName : User → Type 0
HasShortName user = length user.name ≤ 256

-- what is handed out as a user's name: UTF-8 of at most 256 bytes
pub record IsUserName (name : List ℕ) : Type 0 where
  pub short : length name ≤ 256
  pub utf8 : is_utf8 name ≡ true

-- the first user of a name has this password
pub record IsFirst (users : List User) (name password : List ℕ) : Type 0 where
  pub before : List User
  pub user : User
  pub more : List User
  pub among : users ≡ before ++ user ∷ more
  pub others : AllByRecursion (λ other. other.name ≢ name) before
  pub same_name : user.name ≡ name
  pub same_password : user.password ≡ password
