use Rattle.std.proofs.Common.{◌≡◌, take, filter}
use Rattle.records.specs.Records.{is_at}
use Rattle.records.proofs.story.found_at.Given as goal

abbrev pub invariant-loop-r : goal.invariant-loop-r
invariant-loop-r l = l.found.items ≡ filter (is_at l.node l.time) (take l.r-index l.records)
