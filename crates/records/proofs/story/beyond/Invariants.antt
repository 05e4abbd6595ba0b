use Rattle.std.proofs.Common.{◌≡◌, take, filter}
use Rattle.stamp.specs.Numbers.{number_of}
use Rattle.records.specs.Records.{is_beyond}
use Rattle.records.proofs.story.beyond.Given as goal

abbrev pub invariant-loop-r : goal.invariant-loop-r
invariant-loop-r l = l.found.items
    ≡ filter (is_beyond (number_of l.vector)) (take l.r-index l.records)
