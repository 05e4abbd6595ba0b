use Rattle.std.specs.Prelude.{Some, slice_set}
use Rattle.std.proofs.Common.{get_or, sym, subst, ◌≡◌, Bool, nat_lt}
use Rattle.std.proofs.lemmas.Option.{slice_get-get_or}
use Rattle.multiplex.specs.Slots.{IsQuiet, has_room}
use Rattle.multiplex.proofs.Places.{there, get-set_other, rests-set, rests-free, all-kept}
use Rattle.multiplex.proofs.Turning.{unchanged, visited}
use Rattle.multiplex.proofs.turns.visit_at.Goals as goal

pub returns-in-Some-clause-turns : goal.returns-in-Some-clause-turns
returns-in-Some-clause-turns g c source =
    let found = there c.args.slots.now c.args.place c.index-slots-place.result (Some c.in-Some.slot)
    c.requires.within c.in-Some.is in
    visited g.S.Source.effects g.S.Reader.NonBlockingRead.input g.S.Writer.NonBlockingWrite.output
    g.H.Handler.behavior c.args.round.limits source c.args.slots.now
    c.args.world.now c.visit.new.world c.args.round.now c.args.place c.args.room c.visit.result
    c.in-Some.slot c.visit.new.self found c.requires.judged c.visit.ensures.steps

pub returns-in-Some-clause-others : goal.returns-in-Some-clause-others
returns-in-Some-clause-others g c k other = get-set_other c.args.slots.now c.args.place k
    (Some c.visit.new.self) other

pub returns-in-Some-clause-same : goal.returns-in-Some-clause-same
returns-in-Some-clause-same g c none =
    let found = there c.args.slots.now c.args.place c.index-slots-place.result (Some c.in-Some.slot)
    c.requires.within c.in-Some.is in
    all-kept c.args.slots.now c.args.place c.in-Some.slot c.visit.new.self found
    (c.visit.ensures.same none)

pub returns-in-Some-clause-rest : goal.returns-in-Some-clause-rest
returns-in-Some-clause-rest g c none =
    let found = there c.args.slots.now c.args.place c.index-slots-place.result (Some c.in-Some.slot)
    c.requires.within c.in-Some.is in
    let same = all-kept c.args.slots.now c.args.place c.in-Some.slot c.visit.new.self found
    (c.visit.ensures.same none) in
    let judged : c.args.room ≡ has_room c.args.round.limits.waiting_bytes
    (slice_set c.args.slots.now c.args.place (Some c.visit.new.self)) =
    subst (λ n. c.args.room ≡ nat_lt n c.args.round.limits.waiting_bytes) (sym same)
    c.requires.judged in
    rests-set g.H.Handler.behavior _ c.args.slots.now c.args.place c.in-Some.slot c.visit.new.self
    found
    (subst (λ (b : Bool). IsQuiet g.H.Handler.behavior b c.visit.new.self) judged
    (c.visit.ensures.rest none))

pub returns-in-None-clause-turns : goal.returns-in-None-clause-turns
returns-in-None-clause-turns g c source =
    unchanged g.S.Source.effects g.S.Reader.NonBlockingRead.input g.S.Writer.NonBlockingWrite.output
    g.H.Handler.behavior c.args.round.limits source c.args.slots.now
    c.args.world.now c.args.round.now c.args.place (get_or c.args.slots.now c.args.place
    c.index-slots-place.result)
    (slice_get-get_or c.args.slots.now c.args.place c.index-slots-place.result c.requires.within)

pub returns-in-None-clause-rest : goal.returns-in-None-clause-rest
returns-in-None-clause-rest g c none =
    rests-free g.H.Handler.behavior _ c.args.slots.now c.args.place
    (get_or c.args.slots.now c.args.place c.index-slots-place.result) _
    (slice_get-get_or c.args.slots.now c.args.place c.index-slots-place.result c.requires.within)
    c.in-None.is
