-- Browse (Part 4, 5.9.2).
use Rattle.std.specs.Prelude.{List, [], map, length, Ok, Err}
use Rattle.std.specs.Option.{option_map_or}
use Rattle.ua_binary.specs.declared.codes.TheConstants.Status.{GOOD}
use Rattle.hist_update.specs.Codes.{list_refusal}
use Rattle.ua_services.specs.Browsing.{BrowseFields}
use Rattle.ua_services.specs.declared.browsing.BrowseResult.{BrowseResult}
use Rattle.ua_space.specs.declared.layout.Layout.{Layout}
use Rattle.ua_space.specs.References.{browse_at}
use Rattle.historian.specs.Answers.{Response, Browsed}

-- a node is browsed by its own description
abbrev pub browse_node : Layout → BrowseFields → BrowseResult
browse_node space d =
    elim (browse_at space d) [
      | Ok references ↦ record { status = GOOD; references = references }
      | Err status ↦ record { status = status; references = [] }
    ]

-- 1,000 nodes at most
abbrev pub browse : Layout → List BrowseFields → Response
browse space nodes =
    option_map_or (λ status. Err status) (list_refusal 1000 (length nodes))
    (Ok (Browsed (map (browse_node space) nodes)))
