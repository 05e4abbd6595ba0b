use Rattle.std.proofs.Common.{◌≡◌, replicate, None}
use Rattle.conversation.proofs.logins.Logins.new.Given as goal

abbrev pub invariant-loop : goal.invariant-loop
invariant-loop l = l.refusals.items ≡ replicate l.counter None
