use Rattle.std.proofs.Common.{sym, ◌∙◌}
use Rattle.exchange.specs.Admissions.{Admission, admission_of}
use Rattle.exchange.proofs.Admitting.{open_takes}
use Rattle.exchange.proofs.replica.Replica.judge_first.Goals as goal

pub returns-then-is_open-clause-judged : goal.returns-then-is_open-clause-judged
returns-then-is_open-clause-judged g c =
    let a : Admission = admission_of c.args.admission.now in
    open_takes a.replicas a.bound a.ahead a.time _ c.args.frames.now.waiting
    (sym c.is_open.ensures ∙ c.if-is_open.true)
