-- Failed calls of a connection are counted: for the clause of a call of a peer (sync_over in
-- program.rt).
use Rattle.std.proofs.Common.{◌≡◌, ap, ◌∙◌}
use Rattle.counted_io.specs.Bytes.{counted}
use Rattle.counted_io.specs.Tally.{Tally, HasCounted}

-- a call that failed is the one that is counted
pub has-counted : {T failed : Type 0} (first last : Tally T) (inner : T)
    → first ≡ record { inner = inner; faults = 0 } → (failed → last.faults ≡ counted first.faults)
    → ((failed → ⊥) → last.faults ≡ first.faults) → HasCounted failed last
has-counted {T} first last inner begins one none = (
  λ f. one f ∙ ap (λ (t : Tally T). counted t.faults) begins,
  λ f. none f
      ∙ ap (λ (t : Tally T). t.faults) begins,
)
