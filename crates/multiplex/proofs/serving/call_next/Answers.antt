use Rattle.multiplex.proofs.Turning.{call_began}
use Rattle.multiplex.proofs.serving.call_next.Goals as goal

pub returns-in-Some-begin_call : goal.returns-in-Some-begin_call
returns-in-Some-begin_call g c =
    call_began g.S.Source.effects g.S.Reader.NonBlockingRead.input
    g.S.Writer.NonBlockingWrite.output g.H.Handler.behavior c.args.round.limits
    c.args.source.now
    c.begin_call.new.source c.args.slots.now c.args.world.now c.begin_call.new.world
    c.args.round.now c.in-Some.place
    c.begin_call.result c.in-Some-begin_call.slot c.in-Some.ensures.some.3 c.in-Some.ensures.some.0
    c.in-Some-begin_call.is c.begin_call.ensures
