use Rattle.std.proofs.Common.{◌≡◌, take}
use Rattle.records.specs.Contents.{last_tick}
use Rattle.archive.proofs.list_archive.last_tick_of.Given as goal

abbrev pub invariant-loop-r : goal.invariant-loop-r
invariant-loop-r l = l.last ≡ last_tick (take l.r-index l.records) l.origin
