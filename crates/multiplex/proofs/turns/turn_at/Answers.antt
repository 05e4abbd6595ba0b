use Rattle.std.proofs.Common.{◌∙◌, sym, ap, subst}
use Rattle.multiplex.specs.Slots.{all_waiting, has_room, IsAtRestAt}
use Rattle.multiplex.specs.Turns.{state}
use Rattle.multiplex.proofs.Places.{rests-open}
use Rattle.multiplex.proofs.Turning.{turned}
use Rattle.multiplex.proofs.turns.turn_at.Goals as goal

pub returns-clause-others : goal.returns-clause-others
returns-clause-others g c k other = c.close_at-closed.ensures.others k other
    ∙ c.visit_at-busy.ensures.others k other

pub returns-clause-same : goal.returns-clause-same
returns-clause-same g c none =
    let both = c.either.ensures.none none in
    ap all_waiting (c.close_at-closed.ensures.same both.1) ∙ c.visit_at-busy.ensures.same both.0

pub returns-clause-rest : goal.returns-clause-rest
returns-clause-rest g c none =
    let both = c.either.ensures.none none in
    let most = c.args.round.limits.waiting_bytes in
    subst (λ slots. IsAtRestAt g.H.Handler.behavior (has_room most slots) slots c.args.place)
    (sym (c.close_at-closed.ensures.same both.1))
    (rests-open g.H.Handler.behavior (has_room most c.visit_at-busy.new.slots)
    c.visit_at-busy.new.slots c.args.place
    (c.visit_at-busy.ensures.rest both.0) (c.close_at-closed.ensures.other both.1))

pub returns-clause-turns : goal.returns-clause-turns
returns-clause-turns g c =
    let now = c.args.round.now in
    turned g.S.Source.effects g.S.Reader.NonBlockingRead.input g.S.Writer.NonBlockingWrite.output
    g.H.Handler.behavior c.args.round.limits c.args.place c.visit_at-busy.result
    c.close_at-closed.result c.either.result
    (state c.args.source.now c.args.slots.now c.args.world.now now)
    (state c.args.source.now c.visit_at-busy.new.slots c.visit_at-busy.new.world now)
    (state c.close_at-closed.new.source c.close_at-closed.new.slots c.close_at-closed.new.world now)
    c.either.ensures.some (λ none. returns-clause-rest g c none)
    (c.visit_at-busy.ensures.turns c.args.source.now) c.close_at-closed.ensures.turns
