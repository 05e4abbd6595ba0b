use Rattle.std.proofs.Common.{take}
use Rattle.std.specs.List.{All}
use Rattle.ua_variant.specs.DataValue.{IsShortData}
use Rattle.ua_client.proofs.requests.are_short_values.Given as goal

abbrev pub invariant-loop-value : goal.invariant-loop-value
invariant-loop-value l = All IsShortData (take l.value-index l.values)
