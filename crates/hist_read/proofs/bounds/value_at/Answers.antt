use Rattle.std.proofs.Common.{◌∙◌, ap, slice_get}
use Rattle.stamp.specs.Numbers.{number_of}
use Rattle.records.specs.Contents.{cut}
use Rattle.archive.specs.declared.reading.Direction.TheVariants.{Forward}
use Rattle.hist_read.proofs.Lives.{value_at_is}
use Rattle.hist_read.proofs.Askings.{asked_as}
use Rattle.hist_read.proofs.bounds.value_at.Goals as goal

pub returns-clause-asks : goal.returns-clause-asks
returns-clause-asks g c =
    asked_as _ _ _ c.first_of.result _ _ c.in_ok-found.ensures.asks (λ lawful is.
    c.first_of.ensures
    ∙ (ap (λ items. slice_get items 0) is
    ∙ value_at_is (cut (g.A.Archive.state c.args.archive.now).content (number_of c.args.within.now))
    c.args.node.now Forward c.args.time))
