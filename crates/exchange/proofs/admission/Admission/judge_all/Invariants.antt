use Rattle.std.proofs.Common.{◌≡◌, drop}
use Rattle.exchange.specs.Admissions.{admission_of, all_admitted}
use Rattle.exchange.proofs.admission.Admission.judge_all.Given as goal

abbrev pub invariant-loop-record : goal.invariant-loop-record
invariant-loop-record l = all_admitted (admission_of l.self) l.records
    ≡ all_admitted (admission_of l.self) (drop l.record-index l.records)
