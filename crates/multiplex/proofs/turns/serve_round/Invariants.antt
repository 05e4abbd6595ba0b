use Rattle.std.proofs.Common.{◌≡◌, ℕ, ◌<◌, false, length}
use Rattle.multiplex.specs.Slots.{AreCountable, IsAtRestAt, all_waiting, has_room}
use Rattle.multiplex.specs.Rounds.{AreTurnsOf}
use Rattle.multiplex.specs.Turns.{TakesTurns, state}
use Rattle.multiplex.proofs.turns.serve_round.Given as goal

abbrev pub invariant-loop-place : goal.invariant-loop-place
invariant-loop-place g l = record {
  turns : TakesTurns g.S.Source.effects g.S.Reader.NonBlockingRead.input
      g.S.Writer.NonBlockingWrite.output g.H.Handler.behavior l.round.limits
      (AreTurnsOf l.place l.busy)
      (state l.initial.source l.initial.slots l.initial.world l.round.now)
      (state l.source l.slots l.world l.round.now);
  places : length l.slots ≡ length l.initial.slots;
  sum : l.waiting ≡ all_waiting l.slots;
  each : AreCountable l.slots;
  rest : l.busy ≡ false → (k : ℕ) → k < l.place
      → IsAtRestAt g.H.Handler.behavior (has_room l.round.limits.waiting_bytes l.slots) l.slots k;
}
