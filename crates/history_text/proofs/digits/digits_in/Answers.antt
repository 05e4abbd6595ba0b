use Rattle.std.proofs.Common.{rules, ◌<◌, ◌^◌, length, IfSome, subst, sym}
use Rattle.history_text.proofs.DigitsLemmas.{parsed, read_below}
use Rattle.history_text.proofs.digits.digits_in.Goals as goal

pub returns-clause-value : goal.returns-clause-value
returns-clause-value c = search (rules, parsed)

pub returns-clause-below : goal.returns-clause-below
returns-clause-below c =
    subst (λ o. IfSome o (λ n. n < 10 ^ length c.args.text.now)) (sym (returns-clause-value c))
    (read_below c.args.text.now)
