use Rattle.std.proofs.Common.{arith, [], refl, inl}
use Rattle.multiplex.specs.Turns.{state}
use Rattle.multiplex.proofs.Counts.{none_more}
use Rattle.multiplex.proofs.Rounding.{coming_none}
use Rattle.multiplex.proofs.Turning.{no_slot}
use Rattle.multiplex.proofs.serving.accept_next.Goals as goal

pub returns-then-is_coming-clause-most : goal.returns-then-is_coming-clause-most
returns-then-is_coming-clause-most g c = none_more c.args.round.limits.connections c.args.accepted

pub returns-else-is_coming-clause-most : goal.returns-else-is_coming-clause-most
returns-else-is_coming-clause-most g c = none_more c.args.round.limits.connections c.args.accepted

pub returns-in-Some-clause-turns : goal.returns-in-Some-clause-turns
returns-in-Some-clause-turns g c = c.accept_at.ensures.turns c.args.accepted

pub returns-then-is_coming-clause-turns : goal.returns-then-is_coming-clause-turns
returns-then-is_coming-clause-turns g c =
    let world = c.args.world.now in
    let now = c.args.round.now in
    no_slot g.S.Source.effects g.S.Reader.NonBlockingRead.input g.S.Writer.NonBlockingWrite.output
    g.H.Handler.behavior c.args.round.limits c.args.accepted
    (state c.args.source.now c.args.slots.now world now) (state c.args.source.now
    c.make_place.new.slots world now)
    (λ k below free. c.in-None.ensures.none k (omega arith) below free)
    (c.make_place.ensures c.args.source.now world)

pub returns-else-is_coming-clause-turns : goal.returns-else-is_coming-clause-turns
returns-else-is_coming-clause-turns g c =
    let here = state c.args.source.now c.args.slots.now c.args.world.now c.args.round.now in
    no_slot g.S.Source.effects g.S.Reader.NonBlockingRead.input g.S.Writer.NonBlockingWrite.output
    g.H.Handler.behavior c.args.round.limits c.args.accepted here here
    (λ k below free. c.in-None.ensures.none k (omega arith) below free)
    ([], refl, coming_none)

pub returns-then-is_all-clause-turns : goal.returns-then-is_all-clause-turns
returns-then-is_all-clause-turns g c =
    ([], refl, coming_none, inl (c.is_all.ensures.0 c.if-is_all.true))

pub returns-then-is_all-clause-most : goal.returns-then-is_all-clause-most
returns-then-is_all-clause-most g c = none_more c.args.round.limits.connections c.args.accepted

pub make_place-requires : goal.make_place-requires
make_place-requires g c = λ k below free. c.in-None.ensures.none k (omega arith) below free
