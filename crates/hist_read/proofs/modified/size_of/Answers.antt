use Rattle.std.proofs.Common.{refl, ◌≡◌, List, map, subst}
use Rattle.std.proofs.lemmas.List.{take_all}
use Rattle.ua_binary.specs.Format.{saturated}
use Rattle.records.specs.declared.shown.Entry.{Entry}
use Rattle.hist_read.specs.Carrying.{values_length}
use Rattle.hist_read.specs.Gathering.{value_in}
use Rattle.hist_read.proofs.Gathering.{size_one}
use Rattle.hist_read.proofs.modified.size_of.Goals as goal

pub loop-entry-init : goal.loop-entry-init
loop-entry-init c = refl

pub loop-entry-preserved : goal.loop-entry-preserved
loop-entry-preserved c =
    size_one value_in c.args.entries.now c.loop-entry.entry-index c.loop-entry.size
    c.entry_size.result c.saturating_add-size.result c.entry-item.result c.entry-item.result
    c.loop-entry-test.true c.entry-item.is c.loop-entry.invariant c.entry_size.ensures
    c.saturating_add-size.ensures

pub returns : goal.returns
returns c =
    subst (λ (es : List Entry). c.loop-entry.size ≡ saturated (values_length (map value_in es)))
    (take_all _ _ c.loop-entry-test.false) c.loop-entry.invariant
