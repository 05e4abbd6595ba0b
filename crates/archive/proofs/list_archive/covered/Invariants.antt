use Rattle.std.proofs.Common.{◌≡◌, take, filter}
use Rattle.stamp.specs.Numbers.{number_of}
use Rattle.records.specs.Contents.{cut}
use Rattle.archive.specs.Reading.{is_of}
use Rattle.archive.proofs.list_archive.covered.Given as goal

abbrev pub invariant-loop-r : goal.invariant-loop-r
invariant-loop-r l = l.found.items
    ≡ filter (is_of l.node) (cut (take l.r-index l.records) (number_of l.within))
