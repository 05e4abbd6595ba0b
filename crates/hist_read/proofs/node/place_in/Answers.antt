use Rattle.std.proofs.Common.{rules, ◌∙◌, ap, sym}
use Rattle.std.specs.Option.{option_copied}
use Rattle.hist_read.specs.Point.{point_of}
use Rattle.hist_read.specs.Node.{resume_place}
use Rattle.hist_read.proofs.Agreeing.{place_told, told_agreed, told_other}
use Rattle.hist_read.proofs.node.place_in.Goals as goal

pub returns-then-not-agrees-clause-told : goal.returns-then-not-agrees-clause-told
returns-then-not-agrees-clause-told c =
    let place = c.in-Some-read_continuation.place in
    sym (ap (λ o. resume_place c.args.id c.args.node.now c.args.details.now (option_copied o))
    c.in-Some.is
    ∙ (ap (place_told c.args.id c.args.node.now c.args.details.now)
    (sym c.in-Some-read_continuation.ensures.told)
    ∙ told_other c.args.id c.args.node.now c.args.details.now (point_of place) (λ h. search rules)))

pub returns-clause-told : goal.returns-clause-told
returns-clause-told c =
    let place = c.in-Some-read_continuation.place in
    sym (ap (λ o. resume_place c.args.id c.args.node.now c.args.details.now (option_copied o))
    c.in-Some.is
    ∙ (ap (place_told c.args.id c.args.node.now c.args.details.now)
    (sym c.in-Some-read_continuation.ensures.told)
    ∙ told_agreed c.args.id c.args.node.now c.args.details.now (point_of place) (search rules)))
