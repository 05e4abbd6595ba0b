-- A delete is never too long.
use Rattle.std.proofs.Common.{◌≡◌, ℕ, ◌≤◌, ◌==◌, nat_lt, ℤ, pos, Bool, true, false, ◌&&◌, ◌∷◌, length, arith}
use Rattle.std.specs.Prelude.{if◌then◌else◌}
use Rattle.std.proofs.lemmas.Bool.{le-ltb}
use Rattle.ua_binary.specs.Binary.{unsigned, node_id, node_form, IsNodeId}
use Rattle.ua_binary.specs.declared.values.NodeId.{NodeId}
use Rattle.ua_binary.specs.declared.values.NodeId.TheVariants.{Numeric, Named, Global, Opaque}
use Rattle.ua_binary.proofs.Sizes.{text_length, byte_string_length, guid_length}
use Rattle.ua_variant.specs.DataValue.{data_value}
use Rattle.records.specs.Spelling.{empty}
use Rattle.records.proofs.Sizes.{fields_length}
use Rattle.hist_update.specs.declared.request.Request.{Request}
use Rattle.hist_update.specs.Outcome.{IsRequest, record_by}
use Rattle.hist_update.proofs.OutcomeParts.{deletion, is_too_long}
use Rattle.archive.specs.Growth.{id_length}

form_0 : (ns id : ℕ) → length ((node_form 0).canon (Numeric ns id)) ≡ 1
unfolding unsigned
form_0 ns id = omega arith

form_1 : (ns id : ℕ) → length ((node_form 1).canon (Numeric ns id)) ≡ 3
unfolding unsigned
form_1 ns id = omega arith

form_2 : (ns id : ℕ) → length ((node_form 2).canon (Numeric ns id)) ≡ 6
unfolding unsigned
form_2 ns id = omega arith

node_few : (v : NodeId) → IsNodeId v → id_length v ≤ 256 → length (node_id.canon v) ≤ 300
unfolding node_id unsigned
node_few (Numeric ns id) i h = go (ns == 0 && nat_lt id 256) (nat_lt ns 256 && nat_lt id 65536)
  where
    go : (x y : Bool) → length ((if x then 0 else if y then 1 else 2)
        ∷ (node_form (if x then 0 else if y then 1 else 2)).canon (Numeric ns id)) ≤ 300
    go true y = omega (arith, form_0 ns id)
    go false true = omega (arith, form_1 ns id)
    go false false = omega (arith, form_2 ns id)
node_few (Named ns name) i h = omega (arith, h, text_length name)
node_few (Global ns id) i h = omega (arith, guid_length id, i.1.3)
node_few (Opaque ns id) i h = omega (arith, h, byte_string_length id)

empty_length : length (data_value.canon empty) ≤ 10
unfolding data_value
empty_length = omega arith

pub deletion_short : (request : Request) (own : ℕ) (time : ℤ) → IsNodeId request.node
    → IsRequest request → is_too_long request own (deletion time) ≡ false
deletion_short request own time spelled lawful =
    le-ltb _ _ (omega (
      arith,
      fields_length (record_by request own 1 (pos 1) (deletion time)),
      node_few request.node spelled lawful.node,
      lawful.user,
      empty_length,
    ))
