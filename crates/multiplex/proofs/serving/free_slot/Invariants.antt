use Rattle.std.proofs.Common.{◌≡◌, ◌≤◌, ◌<◌, ℕ}
use Rattle.std.specs.Prelude.{Some, None, slice_get}
use Rattle.multiplex.proofs.serving.free_slot.Given as goal

abbrev pub invariant-loop-place : goal.invariant-loop-place
invariant-loop-place g l = (k : ℕ) → l.from ≤ k → k < l.place → slice_get l.slots k ≡ Some None → ⊥
