-- Names for parts of the definitions in specs/Sending, for the lemmas on these parts.
use Rattle.std.specs.Prelude.{ℕ, List, [], ◌∷◌, if◌then◌else◌, ◌==◌}
use Rattle.uacp.specs.declared.types.Letter.{Letter}
use Rattle.uacp.specs.declared.types.Letter.TheVariants.{Final, More}

-- the lifetime that was asked for; 0 gets an hour, in milliseconds
abbrev pub lifetime_of : ℕ → ℕ
lifetime_of asked = if asked == 0 then 3600000 else asked

-- the last piece's chunk is final
abbrev pub letter_before : List (List ℕ) → Letter
letter_before list = elim list [ [] ↦ Final | piece ∷ pieces ↦ More ]
