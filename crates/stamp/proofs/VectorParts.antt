-- Names for parts of the definitions in specs/Vector, for the lemmas on these parts.
use Rattle.std.specs.Prelude.{ℕ, nat_le}
use Rattle.ua_binary.specs.Format.{Format, byte, passing, raised}
use Rattle.stamp.specs.declared.fault.VectorFault.{VectorFault}
use Rattle.stamp.specs.declared.fault.VectorFault.TheVariants.{BadNumber}
use Rattle.stamp.specs.Fault.{vector_fault}

-- how many entries there are: at most one for each replica
abbrev pub entry_count : Format VectorFault ℕ
entry_count = passing (λ n. nat_le n 64) BadNumber (raised vector_fault byte)
