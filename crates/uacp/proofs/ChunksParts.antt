-- Names for parts of the definitions in specs/Chunks, for the lemmas on these parts.
use Rattle.std.specs.Prelude.{ℕ, List, Option, None, Some, Result, Err}
use Rattle.uacp.specs.declared.types.Kind.{Kind}
use Rattle.uacp.specs.declared.types.Letter.{Letter}
use Rattle.uacp.specs.declared.types.Header.{Header}
use Rattle.uacp.specs.declared.types.UacpFault.{UacpFault}
use Rattle.uacp.specs.declared.types.UacpFault.TheVariants.{TypeInvalid}
use Rattle.uacp.specs.Chunks.{sized_header}

abbrev pub titled : ℕ → ℕ → List ℕ → Option (Kind × Letter) → Result (Option Header) UacpFault
titled limit n head given = elim given [
  | None ↦ Err TypeInvalid
  | Some title ↦
      sized_header limit n head title.0 title.1
]
