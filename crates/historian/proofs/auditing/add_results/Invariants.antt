use Rattle.std.proofs.Common.{◌≡◌, take}
use Rattle.historian.specs.Auditing.{answered_audits}
use Rattle.historian.proofs.auditing.add_results.Given as goal

abbrev pub invariant-loop-place : goal.invariant-loop-place
invariant-loop-place l = l.audits ≡ answered_audits l.fn.audits (take l.place l.results)
