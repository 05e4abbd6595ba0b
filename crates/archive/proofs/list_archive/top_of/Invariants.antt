use Rattle.std.proofs.Common.{◌≡◌, take}
use Rattle.records.specs.Contents.{top}
use Rattle.archive.proofs.list_archive.top_of.Given as goal

abbrev pub invariant-loop-r : goal.invariant-loop-r
invariant-loop-r l = l.top ≡ top (take l.r-index l.records)
