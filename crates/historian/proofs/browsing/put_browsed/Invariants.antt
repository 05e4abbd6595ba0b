use Rattle.std.proofs.Common.{map, take}
use Rattle.ua_services.specs.Browsing.{browse_fields, browsed_fields, browse_result}
use Rattle.historian.specs.Browsing.{browse_node}
use Rattle.historian.specs.Telling.{Appends}
use Rattle.historian.proofs.browsing.put_browsed.Given as goal

abbrev pub invariant-loop-description : goal.invariant-loop-description
invariant-loop-description l = Appends browse_result
    (map browsed_fields (map (browse_node l.space)
    (map browse_fields (take l.description-index l.nodes)))) l.fn.out.items l.out.items
