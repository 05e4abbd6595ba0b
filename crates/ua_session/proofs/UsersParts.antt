-- Names for parts of the definitions in specs/Users, for the lemmas on these parts.
use Rattle.std.specs.Prelude.{ℕ, Bool, List, [], ◌∷◌, codes, nat_eq, Option, None, Some, Result, Ok, Err, if◌then◌else◌}
use Rattle.std.specs.Cmp.Lexicographic.{pointwise}
use Rattle.ua_session.specs.declared.fault.SessionFault.{SessionFault}
use Rattle.ua_session.specs.declared.fault.SessionFault.TheVariants.{IdentityInvalid, IdentityRejected}
use Rattle.ua_session.specs.declared.identity.User.{User}

-- the user's name where the password is the user's, every byte of it
abbrev pub judgement_of_user : Option User → List ℕ → Result (List ℕ) SessionFault
judgement_of_user given password = elim given [
  | None ↦ Err IdentityRejected
  | Some user ↦
      if pointwise nat_eq user.password password then Ok user.name else Err IdentityRejected
]

-- the answer where nothing was encrypted: the algorithm is empty
abbrev pub unless_encrypted : List ℕ → Result (List ℕ) SessionFault → Result (List ℕ) SessionFault
unless_encrypted list answer = elim list [ [] ↦ answer | byte ∷ algorithm ↦ Err IdentityInvalid ]

-- what the user is called who has no name
abbrev pub nobody : List ℕ
nobody = codes "anonymous"

abbrev pub has_name : List ℕ → User → Bool
has_name name user = pointwise nat_eq user.name name
