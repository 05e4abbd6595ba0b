use Rattle.multiplex.proofs.Stepping.{released}
use Rattle.multiplex.proofs.slot.Slot+H+R+W+H+End.release.Goals as goal

pub returns-then-until-now-clause-steps : goal.returns-then-until-now-clause-steps
returns-then-until-now-clause-steps g c v room =
    released g.R.NonBlockingRead.input g.W.NonBlockingWrite.output g.H.Handler.behavior room
    c.args.now v _ _ c.in-Some.until c.self.view_is c.in-Some.is c.if-until-now.true
