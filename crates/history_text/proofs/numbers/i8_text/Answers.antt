use Rattle.std.proofs.Common.{rules, ◌^◌, ap, ◌∙◌}
use Rattle.history_text.specs.Numbers.{signed_in}
use Rattle.history_text.proofs.NumbersLemmas.{read_w8}
use Rattle.history_text.proofs.numbers.i8_text.Goals as goal

pub returns-clause-written : goal.returns-clause-written
returns-clause-written c = search rules

pub returns-clause-read : goal.returns-clause-read
returns-clause-read c =
    ap (signed_in (2 ^ 7)) (returns-clause-written c) ∙ read_w8 c.args.value c.ranges.value
