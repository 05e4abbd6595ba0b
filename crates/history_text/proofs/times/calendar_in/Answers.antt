use Rattle.std.proofs.Common.{rules, ◌≡◌, Some, None, drop, ap, sym, ◌∙◌, arith}
use Rattle.history_text.specs.Times.{◌>>=◌, days_at, clock_at, ending_in, moment_of}
use Rattle.history_text.proofs.TimesLemmas.{calendar_is}
use Rattle.history_text.proofs.times.calendar_in.Goals as goal

pub returns-in-Some : goal.returns-in-Some
returns-in-Some c =
    let days : days_at c.args.text.now ≡ Some c.in_ok-days.days =
    sym c.days_at.ensures.days ∙ c.in_ok-days.was in
    let ticks : clock_at c.args.text.now ≡ Some c.in_ok-ticks.ticks =
    sym c.clock_at.ensures.ticks ∙ c.in_ok-ticks.was in
    let tens : ending_in (drop 19 c.args.text.now) ≡ Some c.in-Some.tens = search rules in
    let whole = calendar_is c.args.text.now _ _ (omega arith) (search rules) days ticks in
    ap Some c.moment_of.ensures ∙ sym (whole
    ∙ ap (λ o. o >>= λ tens. Some (moment_of c.in_ok-days.days c.in_ok-ticks.ticks tens)) tens)

pub returns-in-None : goal.returns-in-None
returns-in-None c =
    let days : days_at c.args.text.now ≡ Some c.in_ok-days.days =
    sym c.days_at.ensures.days ∙ c.in_ok-days.was in
    let ticks : clock_at c.args.text.now ≡ Some c.in_ok-ticks.ticks =
    sym c.clock_at.ensures.ticks ∙ c.in_ok-ticks.was in
    let tens : ending_in (drop 19 c.args.text.now) ≡ None = search rules in
    let whole = calendar_is c.args.text.now _ _ (omega arith) (search rules) days ticks in
    sym (whole
    ∙ ap (λ o. o >>= λ tens. Some (moment_of c.in_ok-days.days c.in_ok-ticks.ticks tens)) tens)
