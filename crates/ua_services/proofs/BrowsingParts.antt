-- Names for parts of the definitions in specs/Browsing, for the lemmas on these parts.
use Rattle.std.specs.Prelude.{ℤ, pos, Option, Some, None}
use Rattle.ua_services.specs.declared.browsing.BrowseDirection.{BrowseDirection}
use Rattle.ua_services.specs.declared.browsing.BrowseDirection.TheVariants.{Forward, Inverse, Both}

abbrev pub direction_number : Option BrowseDirection → ℤ
direction_number given = elim given [
  | Some Forward ↦ pos 0
  | Some Inverse ↦ pos 1
  | Some Both ↦
      pos 2
  | None ↦ pos 3
]
