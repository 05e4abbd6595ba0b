use Rattle.std.proofs.Common.{true, inr, arith}
use Rattle.multiplex.proofs.Stepping.{more, weaken}
use Rattle.multiplex.proofs.slot.Slot+H+R+W+H+End.answer_or_read.Goals as goal

pub returns-else-answer_first-clause-steps : goal.returns-else-answer_first-clause-steps
returns-else-answer_first-clause-steps g c =
    more g.R.NonBlockingRead.input g.W.NonBlockingWrite.output g.H.Handler.behavior 1 0 0 0 1 0
    c.answer_first.result c.read_more.result c.read_more.result true c.args.now
    _ _ _ _ _ _ (λ done. inr done) c.answer_first.ensures.steps
    (c.read_more.ensures.steps c.answer_first.new.world
    true)

pub returns-then-answer_first-clause-steps : goal.returns-then-answer_first-clause-steps
returns-then-answer_first-clause-steps g c =
    weaken g.R.NonBlockingRead.input g.W.NonBlockingWrite.output g.H.Handler.behavior 1 0 0 1 1 0
    true true c.args.now _ _ _ _ (omega arith) (omega arith) (omega arith)
    (rw c.if-answer_first.true at c.answer_first.ensures.steps)
