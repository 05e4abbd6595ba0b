use Rattle.std.proofs.Common.{◌≡◌, ◌++◌, take, map, filter, true}
use Rattle.ua_space.specs.Space.{node_of, OfVariable}
use Rattle.ua_space.specs.References.{link_of, holds}
use Rattle.ua_space.proofs.ReferencesParts.{organizes, objects_below}
use Rattle.ua_space.proofs.layout.Layout.children.Given as goal

abbrev pub invariant-loop-variable : goal.invariant-loop-variable
invariant-loop-variable l = map link_of l.links.items
    ≡ map (organizes true) (objects_below l.self (node_of l.node)
    ++ map OfVariable (filter (holds (node_of l.node)) (take l.variable-index l.self.variables)))
