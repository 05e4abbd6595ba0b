use Rattle.std.proofs.Common.{◌≡◌, ◌∙◌, inl, inr, Some, Ok, refl, sym, ap, subst}
use Rattle.std.specs.Prelude.{Option, Result}
use Rattle.std.proofs.lemmas.Result.{err_from_is_err_and}
use Rattle.ua_binary.specs.Fault.{binary_fault_status}
use Rattle.ua_binary.specs.declared.codes.Status.{Status}
use Rattle.ua_services.specs.History.{IsHistoryRead, history_fields, history_read_result}
use Rattle.ua_services.specs.declared.history.HistoryReadResult.{HistoryReadResult}
use Rattle.hist_read.specs.Carrying.{TellsWithin}
use Rattle.historian.specs.Answers.{longest_response}
use Rattle.historian.specs.Telling.{AppendsOne}
use Rattle.historian.proofs.histories.put_history.Goals as goal

-- a result that may be written has a spelling
spelled : (read : HistoryReadResult) → IsHistoryRead (history_fields read)
    → history_read_result.Fits (history_fields read)
unfolding history_read_result
spelled read is = is

pub returns-in_default : goal.returns-in_default
returns-in_default g c =
    let (used, value, acts, within) = c.read_history_of.ensures.acts in
    let large = subst (λ (o : Option HistoryReadResult). TellsWithin (Some longest_response) o value)
    c.in_default.is within in
    (used, value, acts, (refl, inr (refl, large.0)))

pub returns-in_err-put_history_read_result : goal.returns-in_err-put_history_read_result
returns-in_err-put_history_read_result g c =
    let (used, value, acts, within) = c.read_history_of.ensures.acts in
    let puts = c.in_err-put_history_read_result.ensures.puts in
    let p = err_from_is_err_and c.from_residual.result c.from_residual.ensures.1 in (
      used,
      value,
      acts,
      subst (λ (r : Result (Unit {0}) Status). AppendsOne history_read_result
          (history_fields value) r c.args.out.now.items c.put_history_read_result.new.out.items)
          (sym p.1) (puts.1, inl (p.2 ∙ ap binary_fault_status puts.0)),
    )

pub returns : goal.returns
returns g c =
    let (used, value, acts, within) = c.read_history_of.ensures.acts in
    let is : c.in-Some.read ≡ value =
    (subst (λ (o : Option HistoryReadResult). TellsWithin (Some longest_response) o value) c.in-Some.is
    within).0 in (
      used,
      value,
      acts,
      subst (λ (v : HistoryReadResult). AppendsOne history_read_result (history_fields v)
          (Ok tt) c.args.out.now.items c.put_history_read_result.new.out.items) is (
            c.in_ok-put_history_read_result.ensures.puts,
            spelled c.in-Some.read c.in_ok-put_history_read_result.ensures.spelled,
          ),
    )
