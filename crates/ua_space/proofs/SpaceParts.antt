-- Names for parts of the definitions in specs/Space, for the lemmas on these parts.
use Rattle.std.specs.Prelude.{List, ◌++◌, Option, None, Some, [], ◌∷◌}
use Rattle.ua_variant.specs.declared.value.ValueType.{ValueType}
use Rattle.ua_space.specs.declared.layout.Layout.{Layout}
use Rattle.ua_space.specs.Space.{NamespaceArray, Node, Objects, OfVariable, Root, State}
use Rattle.ua_space.specs.Index.{planned_nodes}

-- those of namespace 0
abbrev pub standard_nodes : List Node
standard_nodes = Root ∷ Objects ∷ NamespaceArray ∷ State ∷ []

-- all nodes of a space
abbrev pub nodes : Layout → List Node
nodes space = standard_nodes ++ planned_nodes space

-- the type of the variable of the plan that has this id
abbrev pub type_of_node : Option Node → Option ValueType
type_of_node given = elim given [ Some (OfVariable variable) ↦ Some variable.value_type | _ ↦ None ]
