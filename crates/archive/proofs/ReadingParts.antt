-- Names for parts of the definitions in specs/Reading, for the lemmas on these parts.
use Rattle.archive.specs.declared.reading.Direction.{Direction}
use Rattle.archive.specs.declared.reading.Direction.TheVariants.{Forward, Backward}

abbrev pub opposite : Direction → Direction
opposite d = elim d [ Forward ↦ Backward | Backward ↦ Forward ]
