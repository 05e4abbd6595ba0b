use Rattle.std.proofs.Common.{◌≡◌, ℤ, ◌≤ℤ◌, Bool, ◌&&◌, IfSome, refl, sym, ap, subst, ◌∙◌}
use Rattle.archive.specs.Reading.{is_past}
use Rattle.archive.specs.declared.reading.Direction.{Direction}
use Rattle.hist_read.specs.Asking.{first_time, direction}
use Rattle.hist_read.specs.Reads.{in_body, is_past_any}
use Rattle.hist_read.proofs.asked.span_beyond.Goals as goal

narrow_step : (a b r : Bool) (d d' : Direction) (u v t : ℤ) → r ≡ (b && is_past d u t) → b ≡ a
    → d ≡ d' → u ≡ v → r ≡ (a && is_past d' v t)
narrow_step a b r d d' u v t p q s w =
    p ∙ (ap (λ x. x && is_past d u t) q ∙ (ap (λ x. a && is_past x u t) s
    ∙ ap (λ x. a && is_past d' x t) w))

pub returns-in-Some : goal.returns-in-Some
returns-in-Some c =
    λ late t low high.
    let here = subst (λ o. IfSome o (λ t. first_time ≤ℤ t)) c.in-Some.is late in
    let step = narrow_step _ _ _ _ _ _ _ t (c.beyond.ensures here t high)
    (c.body-span.ensures t low high) c.direction.ensures refl in
    step ∙ ap (λ o. in_body c.args.details.now t && is_past_any (direction c.args.details.now) o t)
    (sym c.in-Some.is)
