use Rattle.std.proofs.Common.{◌≡◌, take}
use Rattle.std.specs.List.{filter_map}
use Rattle.records.specs.Records.{live_value}
use Rattle.archive.proofs.list_archive.lives_at.Given as goal

abbrev pub invariant-loop-time : goal.invariant-loop-time
invariant-loop-time l = l.found.items
    ≡ filter_map (live_value l.records l.node) (take l.time-index l.times)
