-- What is written of a user and of an update.
use Rattle.std.proofs.Common.{◌≡◌, ℕ, ◌+◌, ℤ, pos, List, [], ◌∷◌, ◌++◌, length, Some, None, refl, ap, arith, ◌∙◌}
use Rattle.std.proofs.lemmas.List.{length-append, append-nil}
use Rattle.std.specs.Int.{w32}
use Rattle.ua_binary.specs.Binary.{signed, text, byte_string, node_id, array}
use Rattle.ua_binary.specs.declared.values.NodeId.{NodeId}
use Rattle.ua_binary.specs.declared.values.NodeId.TheVariants.{Numeric}
use Rattle.ua_binary.proofs.Sizes.{byte_string_length, text_length, no_text_length}
use Rattle.ua_variant.specs.declared.data.DataValue.{DataValue}
use Rattle.ua_session.specs.Users.{Anonymous, Named}
use Rattle.ua_services.specs.Attributes.{data_values}
use Rattle.ua_services.specs.Sessions.{user_identity}
use Rattle.ua_services.specs.Structure.{binary_body}
use Rattle.ua_services.specs.Unkept.{first_items_of}
use Rattle.ua_services.specs.Updates.{UpdateData, update_data_details, history_update_details, history_update_request}
use Rattle.ua_services.proofs.Fits.{number_length}

pub canon_nobody : user_identity.canon Anonymous ≡ node_id.canon (Numeric 0 0) ++ (0 ∷ [])
unfolding user_identity
canon_nobody = refl

pub ruleset nobody = (canon_nobody)

-- the fields of a token with a name
abbrev pub token_bytes : List ℕ → List ℕ → List ℕ
token_bytes name password =
    text.canon None ++ (text.canon (Some name) ++ (byte_string.canon (Some password)
    ++ text.canon None))

token_length : (name password : List ℕ)
    → length (token_bytes name password) ≡ 16 + length name + length password
token_length name password = omega (
  arith,
  no_text_length,
  text_length name,
  byte_string_length password,
  length-append (byte_string.canon (Some password)) (text.canon None),
  length-append (text.canon (Some name)) (byte_string.canon (Some password) ++ text.canon None),
  length-append (text.canon None) (text.canon (Some name) ++ (byte_string.canon (Some password)
      ++ text.canon None)),
)

token_canon : (name password : List ℕ)
    → user_identity.canon (Named (Some name) (Some password) None)
    ≡ node_id.canon (Numeric 0 324) ++ (1 ∷ ((signed w32).canon (pos (length (token_bytes name
    password))) ++ token_bytes name password))
unfolding user_identity binary_body byte_string
token_canon name password = refl

pub canon_named : (name password : List ℕ)
    → user_identity.canon (Named (Some name) (Some password) None)
    ≡ node_id.canon (Numeric 0 324) ++ (1 ∷ ((signed w32).canon (pos (16 + length name
    + length password)) ++ token_bytes name password))
canon_named name password = token_canon name password ∙ ap (λ n. node_id.canon (Numeric 0 324)
    ++ (1 ∷ ((signed w32).canon (pos n) ++ token_bytes name password)))
    (token_length name password)

pub ruleset named = (canon_named)

details_canon : (node : NodeId) (perform : ℤ) (values : List DataValue)
    → update_data_details.canon (node, (perform, values))
    ≡ node_id.canon node ++ ((signed w32).canon perform ++ data_values.canon values)
unfolding update_data_details first_items_of
details_canon node perform values = refl

pub details_length : (node : NodeId) (perform : ℤ) (values : List DataValue)
    → length (update_data_details.canon (node, (perform, values)))
    ≡ length (node_id.canon node) + 4 + length (data_values.canon values)
details_length node perform values = omega (
  arith,
  ap length (details_canon node perform values),
  number_length perform,
  length-append ((signed w32).canon perform) (data_values.canon values),
  length-append (node_id.canon node) ((signed w32).canon perform ++ data_values.canon values),
)

pub ruleset lengths = (details_length)

update_canon : (node : NodeId) (perform : ℤ) (values : List DataValue)
    → history_update_request.canon (UpdateData (node, (perform, values)) ∷ [])
    ≡ (signed w32).canon (pos 1) ++ ((node_id.canon (Numeric 0 682) ++ (1 ∷ ((signed w32).canon
    (pos (length (update_data_details.canon (node, (perform, values)))))
    ++ update_data_details.canon (node, (perform, values))))) ++ [])
unfolding history_update_request history_update_details first_items_of binary_body byte_string array signed
update_canon node perform values = refl

pub canon_update : (node : NodeId) (perform : ℤ) (values : List DataValue)
    → history_update_request.canon (UpdateData (node, (perform, values)) ∷ [])
    ≡ (signed w32).canon (pos 1) ++ (node_id.canon (Numeric 0 682) ++ (1 ∷ ((signed w32).canon
    (pos (length (update_data_details.canon (node, (perform, values)))))
    ++ (node_id.canon node ++ ((signed w32).canon perform ++ data_values.canon values)))))
canon_update node perform values = update_canon node perform values
    ∙ ap (λ b. (signed w32).canon (pos 1) ++ b) (append-nil _)
    ∙ ap (λ b. (signed w32).canon (pos 1) ++ (node_id.canon (Numeric 0 682) ++ (1
    ∷ ((signed w32).canon (pos (length (update_data_details.canon (node, (perform, values))))) ++ b))))
    (details_canon node perform values)

pub ruleset updating = (canon_update)
