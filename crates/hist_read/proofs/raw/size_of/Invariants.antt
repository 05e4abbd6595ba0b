use Rattle.std.proofs.Common.{◌≡◌, map, take}
use Rattle.ua_binary.specs.Format.{saturated}
use Rattle.hist_read.specs.Carrying.{values_length}
use Rattle.hist_read.proofs.raw.size_of.Given as goal

abbrev pub invariant-loop-held : goal.invariant-loop-held
invariant-loop-held l =
    l.size ≡ saturated (values_length (map (λ h. h.value) (take l.held-index l.values)))
