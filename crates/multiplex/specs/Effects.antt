-- What the calls of a source do to it.
use Rattle.std.specs.Prelude.{ℕ, Bool, Option}
use Rattle.multiplex.specs.declared.source.Arrival.{Arrival}
use Rattle.multiplex.specs.declared.source.Call.{Call}

-- what each call answers between two states of the source
pub record Effects (S R W : Type 0) : Type 1 where
  -- it was waited, not at all where it was busy, and this was the time then
  pub waited : S → (busy : Bool) → (now : ℕ) → S → Type 0
  -- this came next to a listener
  pub accepted : S → Arrival R W → S → Type 0
  -- this connection was begun, whose call was due; none where none was
  pub called : S → Option (Call R W) → S → Type 0
  -- a connection was given back
  pub closed : S → R → W → S → Type 0
