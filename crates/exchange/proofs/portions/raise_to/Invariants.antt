use Rattle.std.proofs.Common.{◌≡◌, ℕ, take}
use Rattle.stamp.specs.Numbers.{number_of}
use Rattle.exchange.specs.Batches.{numbers_with}
use Rattle.exchange.proofs.portions.raise_to.Given as goal

abbrev pub invariant-loop-record : goal.invariant-loop-record
invariant-loop-record l = (replica : ℕ) → number_of l.known replica
    ≡ numbers_with (number_of l.fn.known) (take l.record-index l.records) replica
