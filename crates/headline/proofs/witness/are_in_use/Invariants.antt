use Rattle.std.proofs.Common.{take}
use Rattle.std.specs.List.{AllByRecursion}
use Rattle.archive.specs.Listed.{store_of}
use Rattle.headline.specs.Answers.{IsInUse}
use Rattle.headline.proofs.witness.are_in_use.Given as goal

abbrev pub invariant-loop-machine : goal.invariant-loop-machine
invariant-loop-machine l = AllByRecursion (λ machine. IsInUse (store_of machine))
    (take l.machine-index l.machines)
