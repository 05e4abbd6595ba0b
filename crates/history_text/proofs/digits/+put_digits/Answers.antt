use Rattle.std.proofs.Common.{◌+◌, ◌%◌, [], ◌∷◌, ◌++◌, ap, ◌∙◌, arith}
use Rattle.history_text.proofs.DigitsLemmas.{last_digits_put}
use Rattle.history_text.proofs.digits.+put_digits.Goals as goal

pub returns : goal.returns
returns t c =
    c.in_ok-push.ensures.items
    ∙ ap (λ l. l ++ (48 + c.args.value % 10) ∷ []) c.in_ok-put_digits.ensures
    ∙ last_digits_put c.args.count c.args.value c.args.out.now.items (omega arith)
