use Rattle.std.proofs.Common.{rules, ap, ◌∙◌, arith}
use Rattle.history_text.specs.Values.{bytes_in}
use Rattle.history_text.proofs.ValuesLemmas.{bytes_again}
use Rattle.history_text.proofs.values.bytes_string.Goals as goal

pub returns-clause-written : goal.returns-clause-written
returns-clause-written c = search rules

pub returns-clause-read : goal.returns-clause-read
returns-clause-read c =
    ap bytes_in (returns-clause-written c)
    ∙ bytes_again c.args.bytes.now (λ i. omega (arith, (c.type_inv.bytes i).fits))
