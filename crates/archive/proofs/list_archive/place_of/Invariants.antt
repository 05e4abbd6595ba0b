use Rattle.std.proofs.Common.{◌≡◌, ◌++◌, take, drop}
use Rattle.records.specs.Contents.{put}
use Rattle.archive.proofs.list_archive.place_of.Given as goal

abbrev pub invariant-loop-i : goal.invariant-loop-i
invariant-loop-i l = put l.candidate l.records
    ≡ take l.i l.records ++ put l.candidate (drop l.i l.records)
