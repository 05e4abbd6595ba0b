use Rattle.std.proofs.Common.{◌≡◌, ◌<◌, ◌≤◌, ◌*◌, ◌^◌, ℕ, take}
use Rattle.std.specs.Prelude.{sum_by, slice_get, Some}
use Rattle.multiplex.specs.Slots.{waiting_in}
use Rattle.multiplex.proofs.turns.all_waiting.Given as goal

abbrev pub invariant-loop-slot : goal.invariant-loop-slot
invariant-loop-slot g l = record {
  sum : l.sum ≡ sum_by waiting_in (take l.slot-index l.slots);
  fits : l.sum ≤ l.slot-index * 2 ^ 64;
  each : (k : ℕ) (slot : _) → k < l.slot-index → slice_get l.slots k ≡ Some slot
      → waiting_in slot < 2 ^ 64;
}
