use Rattle.std.proofs.Common.{subst, sym}
use Rattle.multiplex.specs.Steps.{IsVisit, TakesSteps}
use Rattle.multiplex.proofs.slot.Slot+H+R+W+H+End.write_next.Goals as goal

pub returns-then-may_write-clause-steps : goal.returns-then-may_write-clause-steps
returns-then-may_write-clause-steps g c v room =
    subst (λ s. TakesSteps g.R.NonBlockingRead.input g.W.NonBlockingWrite.output
    g.H.Handler.behavior (IsVisit 0 0 1 c.write_some-wrote.result) room c.args.now v
    c.args.self.now v s)
    (sym c.forget_written.ensures) (c.write_some-wrote.ensures.steps v room)
