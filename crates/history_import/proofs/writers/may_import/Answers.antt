use Rattle.std.proofs.Common.{arith}
use Rattle.std.proofs.lemmas.Str.{is_utf8-from_IsUtf8}
use Rattle.history_import.proofs.writers.may_import.Goals as goal

pub returns-in-Write-clause-named : goal.returns-in-Write-clause-named
returns-in-Write-clause-named c = λ allowed.
    record { short = omega arith; utf8 = is_utf8-from_IsUtf8 c.args.user.now c.utf8.user }
