use Rattle.std.proofs.Common.{◌≡◌, map, take}
use Rattle.ua_binary.specs.Format.{saturated}
use Rattle.hist_read.specs.Carrying.{values_length}
use Rattle.hist_read.specs.Gathering.{value_in}
use Rattle.hist_read.proofs.modified.size_of.Given as goal

abbrev pub invariant-loop-entry : goal.invariant-loop-entry
invariant-loop-entry l =
    l.size ≡ saturated (values_length (map value_in (take l.entry-index l.entries)))
