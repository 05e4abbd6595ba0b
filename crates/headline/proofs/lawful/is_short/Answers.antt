use Rattle.std.proofs.Common.{rules}
use Rattle.ua_variant.specs.DataValue.{IsShortData}
use Rattle.headline.proofs.lawful.is_short.Goals as goal

pub returns-then-is_none-clause-spelled : goal.returns-then-is_none-clause-spelled
returns-then-is_none-clause-spelled c = λ t.
    let short : IsShortData c.args.value.now = search rules in
    c.size.ensures.spelled short
