-- What goes out, and how failed calls are counted.
use Rattle.std.specs.Prelude.{◌≡◌, ◌+◌, ◌^◌, ◌-◌, ℕ, List, ◌++◌, Option, min}
use Rattle.std.specs.Io.KnownBytes.{Appends}

-- known contents grew by a first part of these bytes
abbrev pub AppendsPart : Option (List ℕ) → Option (List ℕ) → List ℕ → Type 0
AppendsPart old new bytes =
    (sent : List ℕ) × (unsent : List ℕ) × (bytes ≡ sent ++ unsent) × Appends old new sent

-- one failed call more; the count stops at 2^64 - 1
abbrev pub counted : ℕ → ℕ
counted faults = min (faults + 1) (2 ^ 64 - 1)

-- one call more failed just where this is so, and that was counted
pub record CountsWhere (failed : Type 0) (before after : ℕ) : Type 0 where
  pub counts : failed → after ≡ counted before
  pub keeps : (failed → ⊥) → after ≡ before
