use Rattle.std.proofs.Common.{IfSome, FitsSigned, w64, subst, sym, ◌∙◌}
use Rattle.history_text.proofs.NumbersLemmas.{parsed_w64, read_fits_w64}
use Rattle.history_text.proofs.times.signed_in.Goals as goal

pub returns-clause-number : goal.returns-clause-number
returns-clause-number c =
    c.ok.ensures.value ∙ parsed_w64 c.args.text.now _ c.parse_i64.ensures

pub returns-clause-fits : goal.returns-clause-fits
returns-clause-fits c =
    subst (λ o. IfSome o (λ z. FitsSigned w64 z)) (sym (returns-clause-number c))
    (read_fits_w64 c.args.text.now)
