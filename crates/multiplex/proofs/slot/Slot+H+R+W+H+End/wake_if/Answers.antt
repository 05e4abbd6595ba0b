use Rattle.multiplex.proofs.Stepping.{woke}
use Rattle.multiplex.proofs.slot.Slot+H+R+W+H+End.wake_if.Goals as goal

pub returns-then-ready-clause-steps : goal.returns-then-ready-clause-steps
returns-then-ready-clause-steps g c v room now =
    woke g.R.NonBlockingRead.input g.W.NonBlockingWrite.output g.H.Handler.behavior 0 0 0 room
    now v _ _
    c.self.view_is
