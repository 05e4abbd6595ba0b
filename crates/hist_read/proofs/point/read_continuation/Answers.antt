use Rattle.std.proofs.Common.{rules, ◌∙◌}
use Rattle.hist_read.specs.Point.{point_of}
use Rattle.hist_read.proofs.Tight.{from_small, none_told, some_told}
use Rattle.hist_read.proofs.point.read_continuation.Goals as goal

pub returns-in_default-clause-told : goal.returns-in_default-clause-told
returns-in_default-clause-told c =
    none_told c.args.bytes.now c.in_default.field-0
    (from_small c.args.bytes.now (λ i. (c.type_inv.bytes i).fits)) (search rules)

pub returns-then-not-is_empty-clause-told : goal.returns-then-not-is_empty-clause-told
returns-then-not-is_empty-clause-told c =
    (search rules) ∙ some_told c.args.bytes.now (point_of c.in-Ok.place) c.rest.result.now
    (from_small c.args.bytes.now (λ i. (c.type_inv.bytes i).fits)) (search rules)

pub returns-clause-told : goal.returns-clause-told
returns-clause-told c = (search rules)
    ∙ some_told c.args.bytes.now (point_of c.in-Ok.place) c.rest.result.now
    (from_small c.args.bytes.now (λ i. (c.type_inv.bytes i).fits)) (search rules)
