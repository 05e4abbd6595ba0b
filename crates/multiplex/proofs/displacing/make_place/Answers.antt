use Rattle.std.specs.Prelude.{Some}
use Rattle.multiplex.proofs.Places.{there}
use Rattle.multiplex.proofs.Turning.{displaced}
use Rattle.multiplex.proofs.displacing.make_place.Goals as goal

pub returns-in-Some-slots : goal.returns-in-Some-slots
returns-in-Some-slots g c source world =
    displaced g.S.Source.effects g.S.Reader.NonBlockingRead.input g.S.Writer.NonBlockingWrite.output
    g.H.Handler.behavior
    c.args.round.limits source c.args.slots.now world c.args.round.now c.in-Some.place
    c.in-Some-slots.slot
    c.in-Some.ensures.longest.0 c.displace.new.self
    (there c.args.slots.now c.in-Some.place c.index-slots-place.result (Some c.in-Some-slots.slot)
    c.in-Some.ensures.within
    c.in-Some-slots.is)
    c.in-Some.ensures.longest.1 c.in-Some.ensures.longest.2 c.displace.ensures
