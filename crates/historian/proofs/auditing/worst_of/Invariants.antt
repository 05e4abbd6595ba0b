use Rattle.std.proofs.Common.{◌≡◌, drop}
use Rattle.historian.specs.Auditing.{worst_of}
use Rattle.historian.proofs.auditing.worst_of.Given as goal

abbrev pub invariant-loop-code : goal.invariant-loop-code
invariant-loop-code l = worst_of l.worst (drop l.code-index l.codes) ≡ worst_of l.fn.status l.codes
