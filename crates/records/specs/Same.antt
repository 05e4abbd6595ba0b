-- Whether two values are one.
use Rattle.std.specs.Prelude.{Bool, true, false, ◌&&◌, ◌==◌}
use base.Stored.{Coded, Gv, gnil, gnum, gcons}
use Rattle.ua_binary.specs.declared.values.NodeId.{NodeId}
use Rattle.ua_binary.specs.contracts.values.NodeId as node
use Rattle.records.specs.declared.record.Record.{Record}
use Rattle.records.specs.contracts.record.Record as whole

-- two trees of numbers have the same shape and the same numbers
abbrev pub same_tree : Gv → Gv → Bool
same_tree gnil gnil = true
same_tree (gnum m) (gnum n) = m == n
same_tree (gcons a b) (gcons c d) = same_tree a c && same_tree b d
same_tree _ _ = false

-- two values are one where they are stored alike: no two values have one code
abbrev pub is_same : {A : Type 0} → Coded A → A → A → Bool
is_same c x y = same_tree (c.code x) (c.code y)

-- two nodes are the same
abbrev pub same_node : NodeId → NodeId → Bool
same_node = is_same node.the_row.coded

-- two records are the same in every field
abbrev pub same_record : Record → Record → Bool
same_record = is_same whole.the_row.coded
