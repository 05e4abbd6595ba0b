use Rattle.std.specs.Prelude.{Some, None}
use Rattle.std.proofs.Common.{sym, ◌∙◌, subst}
use Rattle.std.proofs.lemmas.Bool.{true≢false}
use Rattle.std.proofs.lemmas.Option.{none-some, same_Some}
use Rattle.multiplex.specs.Slots.{IsUnheard}
use Rattle.multiplex.proofs.Places.{there}
use Rattle.multiplex.proofs.displacing.unheard_since.Goals as goal

pub returns-then-is_unheard-clause-some : goal.returns-then-is_unheard-clause-some
returns-then-is_unheard-clause-some g c = (
  c.in-Some.slot,
  there c.args.slots.now c.args.place c.index-slots-place.result (Some c.in-Some.slot) c.requires
      (sym c.index-slots-place.is ∙ c.in-Some.is),
  c.is_unheard.ensures.0 c.if-is_unheard.true,
  sym c.heard.ensures,
)

pub returns-else-is_unheard-clause-none : goal.returns-else-is_unheard-clause-none
returns-else-is_unheard-clause-none g c slot got unheard =
    let found = there c.args.slots.now c.args.place c.index-slots-place.result (Some c.in-Some.slot)
    c.requires
    (sym c.index-slots-place.is ∙ c.in-Some.is) in
    let same = same_Some slot c.in-Some.slot (same_Some (Some slot) (Some c.in-Some.slot)
    (sym got ∙ found)) in
    true≢false (sym (c.is_unheard.ensures.1 (subst (λ s. IsUnheard g.H.Handler.behavior c.args.now
    s) same unheard))
    ∙ c.if-is_unheard.false)

pub returns-in-None-clause-none : goal.returns-in-None-clause-none
returns-in-None-clause-none g c slot got unheard =
    none-some slot (same_Some None (Some slot) (sym (there c.args.slots.now c.args.place
    c.index-slots-place.result None
    c.requires (sym c.index-slots-place.is ∙ c.in-None.is)) ∙ got))
