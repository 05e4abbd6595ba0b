-- Rules in order.
use Rattle.std.specs.Prelude.{Bool, List, [], ◌∷◌, Result, Ok, Err, if◌then◌else◌}

-- each rule holds, or else what is said of the first that doesn't
abbrev pub checked : {E : Type 0} → List (Bool × E) → Result (Unit {0}) E
checked [] = Ok tt
checked (rule ∷ rules) = if rule.0 then checked rules else Err rule.1
