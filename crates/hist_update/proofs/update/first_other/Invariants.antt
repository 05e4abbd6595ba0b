use Rattle.std.proofs.Common.{◌≡◌, drop}
use Rattle.hist_update.specs.Codes.{first_other}
use Rattle.hist_update.proofs.update.first_other.Given as goal

abbrev pub invariant-loop-code : goal.invariant-loop-code
invariant-loop-code l = first_other l.codes ≡ first_other (drop l.code-index l.codes)
