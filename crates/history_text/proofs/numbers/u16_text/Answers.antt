use Rattle.std.proofs.Common.{ap, ◌∙◌, arith}
use Rattle.history_text.specs.Numbers.{unsigned_in}
use Rattle.history_text.proofs.NumbersLemmas.{read_unsigned}
use Rattle.history_text.proofs.numbers.u16_text.Goals as goal

pub returns-clause-read : goal.returns-clause-read
returns-clause-read c =
    ap (unsigned_in 16) c.in_ok-text.ensures
    ∙ read_unsigned 16 c.args.value (omega arith) (omega (arith, c.ranges.value.fits))
