use Rattle.std.proofs.Common.{◌≡◌, take, false}
use Rattle.std.specs.List.{list_any}
use Rattle.records.specs.Same.{same_record}
use Rattle.archive.proofs.list_archive.holds.Given as goal

abbrev pub invariant-loop-held : goal.invariant-loop-held
invariant-loop-held l = list_any (same_record l.candidate) (take l.held-index l.records) ≡ false
