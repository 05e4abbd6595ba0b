use Rattle.std.proofs.Common.{inl, inr, refl}
use Rattle.std.proofs.lemmas.Result.{on_ok_weaker}
use Rattle.history_text.proofs.times.put_time.Goals as goal

pub returns-in-Some-clause-written : goal.returns-in-Some-clause-written
returns-in-Some-clause-written c = on_ok_weaker c.put_calendar.result
    (λ w. (
      w.0,
      w.1,
      inl (
        c.in-Some.ticks,
        c.in-Some.ensures.cases.0,
        c.in-Some.ensures.cases.1,
        w.2,
      ),
    ))
    c.put_calendar.ensures

pub returns-in-None-clause-written : goal.returns-in-None-clause-written
returns-in-None-clause-written c = on_ok_weaker c.put_steps.result
    (λ w. (_, w, inr (c.in-None.ensures.cases, refl)))
    c.put_steps.ensures
