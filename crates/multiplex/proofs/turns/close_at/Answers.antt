use Rattle.std.specs.Prelude.{None, Some}
use Rattle.std.proofs.Common.{sym, ◌∙◌}
use Rattle.std.proofs.lemmas.Option.{none-some, same_Some}
use Rattle.multiplex.proofs.Places.{there, get-set_other}
use Rattle.multiplex.proofs.Turning.{closed}
use Rattle.multiplex.proofs.turns.close_at.Goals as goal

pub returns-in-Some-take-clause-turns : goal.returns-in-Some-take-clause-turns
returns-in-Some-take-clause-turns g c =
    closed g.S.Source.effects g.S.Reader.NonBlockingRead.input g.S.Writer.NonBlockingWrite.output
    g.H.Handler.behavior c.args.round.limits c.args.source.now
    c.close.new.self c.args.slots.now c.args.world.now c.close-reader.new.world c.args.round.now
    c.args.place c.in-Some-take.slot c.in-Some.ending
    c.take.new.self c.close-reader.result
    (there c.args.slots.now c.args.place c.index-slots-place.result (Some c.in-Some-take.slot)
    c.requires
    (sym c.take.ensures.value ∙ c.in-Some-take.is))
    c.in-Some.ensures.some c.close-reader.ensures.tells c.close-reader.ensures.ends
    c.close.ensures
    c.take.ensures.after

pub returns-in-Some-take-clause-others : goal.returns-in-Some-take-clause-others
returns-in-Some-take-clause-others g c k other = get-set_other c.args.slots.now c.args.place k
    c.take.new.self other

pub returns-in_default-clause-turns : goal.returns-in_default-clause-turns
returns-in_default-clause-turns g c =
    let (slot, got, may, ended) = c.in-Some.ensures.some in
    absurd (none-some slot (same_Some None (Some slot) (sym (there c.args.slots.now c.args.place
    c.index-slots-place.result None c.requires (sym c.take.ensures.value ∙ c.in_default.is)) ∙
    got)))
