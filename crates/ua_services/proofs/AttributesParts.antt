-- Names for parts of the definitions in specs/Attributes, for the lemmas on these parts.
use Rattle.std.specs.Prelude.{ℤ, pos, Option, Some, None}
use Rattle.ua_services.specs.declared.attributes.TimestampsToReturn.{TimestampsToReturn}
use Rattle.ua_services.specs.declared.attributes.TimestampsToReturn.TheVariants.{Source, Server, Both, Neither}

abbrev pub timestamps_number : Option TimestampsToReturn → ℤ
timestamps_number given = elim given [
  | Some Source ↦ pos 0
  | Some Server ↦ pos 1
  | Some Both ↦
      pos 2
  | Some Neither ↦ pos 3
  | None ↦ pos 4
]
