use Rattle.std.proofs.Common.{rules, ◌<◌, ◌^◌, ap, subst, ◌∙◌}
use Rattle.std.proofs.lemmas.Result.{IfOk-weaker}
use Rattle.history_text.specs.Statuses.{status_in}
use Rattle.history_text.proofs.StatusLemmas.{status_again}
use Rattle.history_text.proofs.status.status_string.Goals as goal

pub returns-clause-written : goal.returns-clause-written
returns-clause-written c = search rules

pub returns-clause-read : goal.returns-clause-read
returns-clause-read c = IfOk-weaker c.encode_upper.result _ _
    (λ text written. ap status_in written ∙ status_again c.args.status
    (subst (λ k. k.0 < 2 ^ 32) c.kept_status-kept.ensures.kept c.kept_status-kept.ensures.fits))
    (returns-clause-written c)
