-- Names for parts of the definitions in specs/Sessions, for the lemmas on these parts.
use Rattle.std.specs.Prelude.{ℕ, List, Option, None}
use Rattle.ua_binary.specs.declared.fault.BinaryFault.{BinaryFault}
use Rattle.ua_binary.specs.declared.values.NodeId.{NodeId}
use Rattle.ua_binary.specs.declared.values.NodeId.TheVariants.{Numeric}
use Rattle.ua_binary.specs.Format.{Format, ◌▸◌, chosen, standing_for}
use Rattle.ua_binary.specs.Binary.{text, byte_string}
use Rattle.ua_services.specs.Structure.{is_standard_type, structure}
use Rattle.ua_session.specs.Users.{Claim, Anonymous, Named, Other}
use Rattle.ua_services.specs.Unkept.{unkept, ◌▹◌}
use Rattle.ua_services.specs.Sessions.{unknown_form, user_name_form}

abbrev pub anonymous_identity_token : Format BinaryFault (Unit {0})
anonymous_identity_token = unkept None text

abbrev pub no_signature : Option (List ℕ) × Option (List ℕ)
no_signature = (None, None)

abbrev pub user_name_identity_token :
    Format BinaryFault (Option (List ℕ) × (Option (List ℕ) × Option (List ℕ)))
user_name_identity_token = unkept None text ▹ text ▸ byte_string ▸ text

-- the type that is written: the null one of nobody, and that of a certificate for what is something
-- else
abbrev pub identity_type : Claim → NodeId
identity_type claim = elim claim [
  | Anonymous ↦ Numeric 0 0
  | Named _ _ _ ↦ Numeric 0 324
  | Other ↦
      Numeric 0 327
]

abbrev pub anonymous_form : Format BinaryFault Claim
anonymous_form = standing_for (λ _. Anonymous) (λ _. tt) (structure anonymous_identity_token)

-- what the type calls for: 321 an AnonymousIdentityToken, 324 a UserNameIdentityToken; each fills
-- its body
abbrev pub identity_form : NodeId → Format BinaryFault Claim
identity_form id = chosen (is_standard_type 321 id) anonymous_form
    (chosen (is_standard_type 324 id) user_name_form (unknown_form id))
