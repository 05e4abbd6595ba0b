use Rattle.std.proofs.Common.{◌+◌, ◌≤◌, arith}
use Rattle.std.proofs.KnownBytes.{Keeps-refl}
use Rattle.multiplex.specs.declared.handler.SlotEnd.TheVariants.{IdleTimeout}
use Rattle.multiplex.proofs.Stepping.{stopped}
use Rattle.multiplex.proofs.slot.Slot+H+R+W+H+End.stop_if_idle.Goals as goal

pub returns-then-saturating_sub-ge-IDLE_LIMIT-clause-steps :
    goal.returns-then-saturating_sub-ge-IDLE_LIMIT-clause-steps
returns-then-saturating_sub-ge-IDLE_LIMIT-clause-steps g c v room =
    let i = c.self.inside in
    let long : i.active + 120000 ≤ c.args.now = omega (
      arith,
      c.if-saturating_sub-ge-IDLE_LIMIT.true,
      c.saturating_sub.ensures,
    ) in
    stopped g.R.NonBlockingRead.input g.W.NonBlockingWrite.output g.H.Handler.behavior 0 0 0 room
    c.args.now v _ _
    i.reader i.writer IdleTimeout c.self.view_is (Keeps-refl _) (Keeps-refl _) tt long
