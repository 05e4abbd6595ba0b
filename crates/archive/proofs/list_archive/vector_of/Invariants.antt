use Rattle.std.proofs.Common.{◌≡◌, ℕ, take}
use Rattle.stamp.specs.Numbers.{number_of}
use Rattle.records.specs.Contents.{vec}
use Rattle.archive.proofs.list_archive.vector_of.Given as goal

abbrev pub invariant-loop-r : goal.invariant-loop-r
invariant-loop-r l = (replica : ℕ)
    → number_of l.vector replica ≡ vec (take l.r-index l.records) replica
