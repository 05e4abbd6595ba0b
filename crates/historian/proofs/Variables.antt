-- The ids of archived variables.
use Rattle.std.proofs.Common.{◌≡◌, ◌∙◌, ◌≤◌, ℕ, false, cond, List, [], ◌∷◌, Some, None, refl, sym, ap, arith}
use Rattle.std.specs.Option.{option_map}
use Rattle.std.proofs.lemmas.Option.{none-some}
use Rattle.ua_binary.specs.declared.values.NodeId.{NodeId}
use Rattle.ua_binary.specs.declared.values.NodeId.TheVariants.{Numeric, Named, Global, Opaque}
use Rattle.ua_binary.specs.Binary.{IsShortNode}
use Rattle.ua_space.specs.declared.layout.Layout.{Layout}
use Rattle.ua_space.specs.declared.space.VariableInfo.{VariableInfo}
use Rattle.ua_space.specs.Space.{Node, Root, Objects, NamespaceArray, State, OfFolder, OfVariable, FolderType, BaseDataVariableType, is_same_id, value_type_at, IsShortId}
use Rattle.ua_space.specs.Nodes.{id_of}
use Rattle.ua_space.specs.Index.{node_in}
use Rattle.ua_space.proofs.SpaceParts.{type_of_node, nodes}
use Rattle.archive.specs.Growth.{id_length}

other_id : (m : ℕ) (n : List ℕ) (node : Node) → is_same_id (id_of node) (Opaque m n) ≡ false
other_id m n Root = refl
other_id m n Objects = refl
other_id m n NamespaceArray = refl
other_id m n State = refl
other_id m n (OfFolder folder) = refl
other_id m n (OfVariable variable) = refl
other_id m n FolderType = refl
other_id m n BaseDataVariableType = refl

none_found : (m : ℕ) (n : List ℕ) (some : List Node) → node_in some (Opaque m n) ≡ None
none_found m n [] = refl
none_found m n (node ∷ some) = ap (λ b. cond b (Some node) (node_in some (Opaque m n)))
    (other_id m n node) ∙ none_found m n some

-- the id of a variable that is there has at most 256 bytes
pub archived_length : (space : Layout) (id : NodeId) (info : VariableInfo)
    → option_map (λ info. info.value_type) (Some info) ≡ value_type_at space id → IsShortId id
    → id_length id ≤ 256
archived_length space (Numeric m n) info is short = omega arith
archived_length space (Named m n) info is short = short
archived_length space (Global m n) info is short = omega arith
archived_length space (Opaque m n) info is short =
    absurd (none-some info.value_type (sym (ap type_of_node (none_found m n (nodes space)))
    ∙ sym is))

short_by_length : (id : NodeId) → id_length id ≤ 256 → IsShortNode id
short_by_length (Numeric m n) few = tt
short_by_length (Named m n) few = omega arith
short_by_length (Global m n) few = tt
short_by_length (Opaque m n) few = omega arith

-- and so it can be written
pub archived_short : (space : Layout) (id : NodeId) (info : VariableInfo)
    → option_map (λ info. info.value_type) (Some info) ≡ value_type_at space id → IsShortId id
    → IsShortNode id
archived_short space id info is short = short_by_length id (archived_length space id info is short)
