-- What is counted of a reader or a writer.
use Rattle.std.specs.Prelude.{◌≡◌, ℕ}

-- the reader or the writer, and how many of its calls failed
pub record Tally (T : Type 0) : Type 0 where
  pub inner : T
  pub faults : ℕ

-- of one that had no failed call a call failed, just where this is so
abbrev pub HasCounted : {T : Type 0} → (failed : Type 0) → Tally T → Type 0
HasCounted failed tally = (failed → tally.faults ≡ 1) × ((failed → ⊥) → tally.faults ≡ 0)
