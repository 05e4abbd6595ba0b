use Rattle.std.proofs.Common.{ap, ◌∙◌}
use Rattle.multiplex.specs.Slots.{first_slot}
use Rattle.multiplex.proofs.Turning.{accepted, accept_failed, nobody_came}
use Rattle.multiplex.proofs.serving.accept_at.Goals as goal

pub returns-in-Connection-clause-turns : goal.returns-in-Connection-clause-turns
returns-in-Connection-clause-turns g c before =
    accepted g.S.Source.effects g.S.Reader.NonBlockingRead.input g.S.Writer.NonBlockingWrite.output
    g.H.Handler.behavior c.args.round.limits c.args.source.now
    c.accept.new.self c.args.slots.now c.args.world.now c.begin-first.new.world
    c.args.round.now c.args.place c.in-Connection.origin
    before c.accept.result
    c.in-Connection.reader c.in-Connection.writer c.begin-first.result c.new.result.items
    c.new-slot.result
    c.requires.free c.requires.accepts c.in-Connection.is c.accept.ensures c.begin-first.ensures
    c.new.ensures.items
    (c.new-slot.ensures ∙ ap (λ stay. first_slot stay c.begin-first.result c.in-Connection.reader
    c.in-Connection.writer c.new.result.items) c.begin-stay.ensures)

pub returns-in-Failed-clause-turns : goal.returns-in-Failed-clause-turns
returns-in-Failed-clause-turns g c before =
    accept_failed g.S.Source.effects g.S.Reader.NonBlockingRead.input
    g.S.Writer.NonBlockingWrite.output g.H.Handler.behavior c.args.round.limits
    c.args.source.now
    c.accept.new.self c.args.slots.now c.args.world.now c.fail_accept.new.world c.args.round.now
    before c.accept.result c.in-Failed.is c.accept.ensures c.fail_accept.ensures

pub returns-in-Nobody-clause-turns : goal.returns-in-Nobody-clause-turns
returns-in-Nobody-clause-turns g c before =
    nobody_came g.S.Source.effects g.S.Reader.NonBlockingRead.input
    g.S.Writer.NonBlockingWrite.output g.H.Handler.behavior c.args.round.limits
    c.args.source.now
    c.accept.new.self c.args.slots.now c.args.world.now c.args.round.now before c.accept.result
    c.in-Nobody.is
    c.accept.ensures
