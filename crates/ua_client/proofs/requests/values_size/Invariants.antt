use Rattle.std.proofs.Common.{◌≡◌, ◌+◌, take, length}
use Rattle.std.specs.List.{flat_map}
use Rattle.ua_binary.specs.Format.{saturated}
use Rattle.ua_variant.specs.DataValue.{data_value}
use Rattle.ua_client.proofs.requests.values_size.Given as goal

abbrev pub invariant-loop-value : goal.invariant-loop-value
invariant-loop-value l = l.size ≡ saturated (4
    + length (flat_map data_value.canon (take l.value-index l.values)))
