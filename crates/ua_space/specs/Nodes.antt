-- Words for what is common to all nodes, in which the code's clauses speak.
use Rattle.std.specs.Prelude.{ℕ, List}
use Rattle.ua_binary.specs.declared.values.NodeId.{NodeId}
use Rattle.ua_services.specs.declared.browsing.NodeClass.{NodeClass}
use Rattle.ua_space.specs.Space.{Node, facts}

abbrev pub id_of : Node → NodeId
id_of node = (facts node).id

abbrev pub class_of : Node → NodeClass
class_of node = (facts node).node_class

abbrev pub name_of : Node → List ℕ
name_of node = (facts node).name
