-- What is written of a node's history.
use Rattle.std.proofs.Common.{◌≡◌, pos, List, [], ◌∷◌, ◌++◌, length, refl}
use Rattle.std.specs.Int.{w32}
use Rattle.ua_binary.specs.Binary.{signed, byte_string, node_id}
use Rattle.ua_binary.specs.declared.values.NodeId.TheVariants.{Numeric}
use Rattle.ua_variant.specs.declared.data.DataValue.{DataValue}
use Rattle.ua_services.specs.Structure.{binary_body}
use Rattle.ua_services.specs.Attributes.{data_values}
use Rattle.ua_services.specs.Unkept.{many}
use Rattle.ua_services.specs.History.{InfoFields, modification_info, Nothing, Raw, Modified, history_bytes, history_data}

pub canon_nothing : history_data.canon Nothing ≡ node_id.canon (Numeric 0 0) ++ (0 ∷ [])
unfolding history_data
canon_nothing = refl

pub canon_raw : (values : List DataValue)
    → history_data.canon (Raw values)
    ≡ node_id.canon (Numeric 0 658) ++ (1
    ∷ ((signed w32).canon (pos (length (history_bytes (Raw values)))) ++ data_values.canon values))
unfolding history_data binary_body byte_string
canon_raw values = refl

pub canon_modified : (values : List DataValue) (infos : List InfoFields)
    → history_data.canon (Modified (values, infos))
    ≡ node_id.canon (Numeric 0 11227) ++ (1
    ∷ ((signed w32).canon (pos (length (history_bytes (Modified (values, infos)))))
    ++ (data_values.canon values ++ (many modification_info).canon infos)))
unfolding history_data binary_body byte_string
canon_modified values infos = refl

pub ruleset canons = (canon_nothing, canon_raw, canon_modified)
