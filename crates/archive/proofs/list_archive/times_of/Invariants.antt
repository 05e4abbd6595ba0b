use Rattle.std.proofs.Common.{◌≡◌, take, filter, map}
use Rattle.archive.specs.Reading.{is_of}
use Rattle.archive.proofs.list_archive.times_of.Given as goal

abbrev pub invariant-loop-r : goal.invariant-loop-r
invariant-loop-r l = l.found.items
    ≡ map (λ r. r.time) (filter (is_of l.node) (take l.r-index l.records))
