use Rattle.std.proofs.Common.{◌≡◌, ℕ, take}
use Rattle.stamp.specs.Numbers.{number_of}
use Rattle.peer_check.specs.Comparing.{numbers_behind}
use Rattle.peer_check.proofs.calling.go_behind.Given as goal

abbrev pub invariant-loop-record : goal.invariant-loop-record
invariant-loop-record l = (replica : ℕ) → number_of l.numbers replica
    ≡ numbers_behind l.extent (number_of l.ours) (number_of l.fn.numbers)
    (take l.record-index l.brought) replica
