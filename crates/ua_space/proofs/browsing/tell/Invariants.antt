use Rattle.std.proofs.Common.{◌≡◌, take, map, filter}
use Rattle.ua_services.specs.Browsing.{browse_fields}
use Rattle.ua_space.specs.References.{link_of, shown_reference, is_followed}
use Rattle.ua_space.proofs.browsing.tell.Given as goal

abbrev pub invariant-loop-link : goal.invariant-loop-link
invariant-loop-link l = l.references.items
    ≡ map (shown_reference l.description.result_mask)
    (filter (is_followed l.direction (browse_fields l.description))
    (map link_of (take l.link-index l.links)))
