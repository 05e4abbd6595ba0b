use Rattle.std.proofs.Common.{◌≡◌, take, reverse}
use Rattle.std.specs.List.{flat_map}
use Rattle.records.specs.Records.{modifications_at}
use Rattle.archive.proofs.list_archive.log_at.Given as goal

abbrev pub invariant-loop-time : goal.invariant-loop-time
invariant-loop-time l = l.log.items
    ≡ flat_map (λ t. reverse (modifications_at l.records l.node t)) (take l.time-index l.times)
