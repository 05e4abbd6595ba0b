use Rattle.std.proofs.Common.{refl, true, ap, ◌∙◌}
use Rattle.multiplex.specs.Slots.{held_until}
use Rattle.std.specs.Prelude.{None, Some}
use Rattle.multiplex.specs.declared.handler.SlotEnd.TheVariants.{Finished}
use Rattle.multiplex.proofs.Stepping.{answered, lacked}
use Rattle.multiplex.proofs.slot.Slot+H+R+W+H+End.answer_first.Goals as goal

pub returns-in-NeedsMore-clause-steps : goal.returns-in-NeedsMore-clause-steps
returns-in-NeedsMore-clause-steps g c =
    let did = rw c.in-NeedsMore.is at c.answer.ensures.answers in
    let lacks = c.answer.ensures.needs_more c.in-NeedsMore.is in
    lacked g.R.NonBlockingRead.input g.W.NonBlockingWrite.output g.H.Handler.behavior true
    c.args.now
    c.args.world.now c.answer.new.world _ _ c.answer.new.self did.0 c.self.inside.sent
    c.self.inside.out.items
    c.answer.new.out.items c.self.view_is did.2 lacks.1 refl did.1 lacks.0

pub returns-in-Answered-clause-steps : goal.returns-in-Answered-clause-steps
returns-in-Answered-clause-steps g c =
    let did = rw c.in-Answered.is at c.answer.ensures.answers in
    answered g.R.NonBlockingRead.input g.W.NonBlockingWrite.output g.H.Handler.behavior c.args.now
    c.args.world.now c.answer.new.world _ _ c.answer.new.self did.0 None c.self.inside.ending
    c.held_until-self-inside.result c.answered_once_more-self-inside.result c.self.inside.sent
    c.self.inside.out.items c.answer.new.out.items c.self.view_is c.requires did.2
    (c.held_until-self-inside.ensures ∙ ap (held_until c.args.now) c.delay.ensures)
    c.answered_once_more-self-inside.ensures (λ none. none) refl c.self.invariant
    did.1

pub returns-in-Ended-clause-steps : goal.returns-in-Ended-clause-steps
returns-in-Ended-clause-steps g c =
    let did = rw c.in-Ended.is at c.answer.ensures.answers in
    answered g.R.NonBlockingRead.input g.W.NonBlockingWrite.output g.H.Handler.behavior c.args.now
    c.args.world.now c.answer.new.world _ _ c.answer.new.self did.0 (Some c.in-Ended.end)
    (Some (Finished c.in-Ended.end)) c.held_until-self-inside-in-Ended.result
    c.answered_once_more-self-inside-in-Ended.result c.self.inside.sent c.self.inside.out.items
    c.answer.new.out.items c.self.view_is c.requires
    did.2 (c.held_until-self-inside-in-Ended.ensures
    ∙ ap (held_until c.args.now) c.delay-in-Ended.ensures)
    c.answered_once_more-self-inside-in-Ended.ensures (λ none. refl) refl
    c.self.invariant did.1
