use Rattle.std.proofs.Common.{◌≡◌}
use Rattle.stamp.specs.Numbers.{number_of}
use Rattle.ua_server.specs.Starting.{records_of}
use Rattle.ua_server.proofs.starting.records_of.Given as goal

abbrev pub invariant-loop-replicas : goal.invariant-loop-replicas
invariant-loop-replicas l = l.count ≡ records_of l.replicas (number_of l.numbers)
