use Rattle.std.specs.Prelude.{None, Some}
use Rattle.std.proofs.Common.{sym, ◌∙◌}
use Rattle.std.proofs.lemmas.Option.{none-some, same_Some}
use Rattle.multiplex.proofs.Places.{there, end-some, end-none}
use Rattle.multiplex.proofs.turns.end_at.Goals as goal

pub returns-in-Some-clause-some : goal.returns-in-Some-clause-some
returns-in-Some-clause-some g c =
    end-some c.args.slots.now c.args.place c.in-Some.slot c.end.result
    (there c.args.slots.now c.args.place c.index-slots-place.result (Some c.in-Some.slot) c.requires
    (sym c.index-slots-place.is ∙ c.in-Some.is)) c.end.ensures.some

pub returns-in-Some-clause-none : goal.returns-in-Some-clause-none
returns-in-Some-clause-none g c =
    end-none c.args.slots.now c.args.place c.in-Some.slot c.end.result
    (there c.args.slots.now c.args.place c.index-slots-place.result (Some c.in-Some.slot) c.requires
    (sym c.index-slots-place.is ∙ c.in-Some.is)) c.end.ensures.none

pub returns-in-None-clause-none : goal.returns-in-None-clause-none
returns-in-None-clause-none g c slot got may =
    none-some slot (same_Some None (Some slot) (sym (there c.args.slots.now c.args.place
    c.index-slots-place.result None
    c.requires (sym c.index-slots-place.is ∙ c.in-None.is)) ∙ got))
