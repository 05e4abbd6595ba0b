-- Names for parts of the definitions in specs/Format, for the lemmas on these parts.
use Rattle.std.specs.Prelude.{ℕ, List, [], ◌∷◌, Ok, Err}
use Rattle.ua_binary.specs.declared.fault.BinaryFault.{BinaryFault}
use Rattle.ua_binary.specs.declared.fault.BinaryFault.TheVariants.{Short}
use Rattle.ua_binary.specs.Format.{Reading}

abbrev pub byte_at : List ℕ → Reading BinaryFault ℕ
byte_at list = elim list [ [] ↦ Err Short | b ∷ rest ↦ Ok (b, rest) ]
