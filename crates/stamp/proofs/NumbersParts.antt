-- Names for parts of the definitions in specs/Numbers, for the lemmas on these parts.
use Rattle.std.specs.Prelude.{ℕ, nat_lt, List, filter}
use Rattle.std.specs.List.{enumerate_from}

-- the replicas with a number above 0, each with its number, where this is the first replica's
abbrev pub entries_from : ℕ → List ℕ → List (ℕ × ℕ)
entries_from first numbers = filter (λ e. nat_lt 0 e.1) (enumerate_from first numbers)
