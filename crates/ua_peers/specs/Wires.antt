-- What goes over a connection.
use Rattle.std.specs.Prelude.{◌≡◌, ℕ, List, ◌++◌}

-- what comes at one end is a first part of what went out at the other
abbrev pub IsStartOf : List ℕ → List ℕ → Type 0
IsStartOf came out = (later : List ℕ) × (out ≡ came ++ later)
