-- Names for parts of the definitions in specs/Program, for the lemmas on these parts.
use Rattle.command_line.specs.declared.line.LineFault.{LineFault}
use Rattle.command_line.specs.declared.line.LineFault.TheVariants.{Words, OutOfMemory as NoMemory}

-- memory for the server was wanting, and nothing was done
abbrev pub IsUnbegun : LineFault → Type 0
IsUnbegun fault = elim fault [ Words ↦ ⊥ | NoMemory ↦ Unit {0} ]
