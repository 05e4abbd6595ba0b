use Rattle.std.proofs.Common.{◌≡◌, ◌++◌, take, length, pos}
use Rattle.std.specs.List.{flat_map}
use Rattle.std.specs.Int.{w32}
use Rattle.ua_binary.specs.Binary.{signed}
use Rattle.ua_variant.specs.DataValue.{data_value}
use Rattle.ua_client.proofs.requests.put_values_parts.Given as goal

abbrev pub invariant-loop-value : goal.invariant-loop-value
invariant-loop-value l = l.out.items ≡ l.fn.out.items ++ ((signed w32).canon (pos (length l.values))
    ++ flat_map data_value.canon (take l.value-index l.values))
