use Rattle.std.proofs.Common.{refl, ◌≡◌, List, map, subst}
use Rattle.std.proofs.lemmas.List.{take_all}
use Rattle.ua_binary.specs.Format.{saturated}
use Rattle.records.specs.declared.shown.Held.{Held}
use Rattle.hist_read.specs.Carrying.{values_length}
use Rattle.hist_read.proofs.Gathering.{size_one}
use Rattle.hist_read.proofs.raw.size_of.Goals as goal

pub loop-held-init : goal.loop-held-init
loop-held-init c = refl

pub loop-held-preserved : goal.loop-held-preserved
loop-held-preserved c =
    size_one (λ h. h.value) c.args.values.now c.loop-held.held-index c.loop-held.size
    c.value_size.result c.saturating_add-size.result c.held-item.result c.held-item.result
    c.loop-held-test.true c.held-item.is c.loop-held.invariant c.value_size.ensures
    c.saturating_add-size.ensures

pub returns : goal.returns
returns c =
    subst (λ (hs : List Held). c.loop-held.size ≡ saturated (values_length (map (λ h. h.value) hs)))
    (take_all _ _ c.loop-held-test.false) c.loop-held.invariant
