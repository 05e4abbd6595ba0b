use Rattle.std.proofs.Common.{◌≡◌, Some, None, sym, ap, ◌∙◌}
use Rattle.history_text.specs.Times.{◌>>=◌, time_in}
use Rattle.history_text.specs.declared.fault.TextFault.TheVariants as Why
use Rattle.history_csv.specs.Rows.{moment_by_parts}
use Rattle.history_csv.proofs.RowsLemmas.{given, lacking}
use Rattle.history_csv.proofs.fields.read_moment.Goals as goal

pub returns-in-Ok : goal.returns-in-Ok
returns-in-Ok c =
    let there : time_in c.args.text.now ≡ Some c.in-Ok.time =
    given (time_in c.args.text.now) Why.NoTime c.in-Ok.time (sym c.in-Ok.ensures) in
    c.moment_by_parts.ensures ∙ sym (ap (λ o. o >>= moment_by_parts) there)

pub returns-in-Err : goal.returns-in-Err
returns-in-Err c =
    let none : time_in c.args.text.now ≡ None =
    lacking (time_in c.args.text.now) Why.NoTime c.in-Err.field-0 (sym c.in-Err.ensures) in
    sym (ap (λ o. o >>= moment_by_parts) none)
