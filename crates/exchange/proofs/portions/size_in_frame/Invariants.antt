use Rattle.std.proofs.Common.{◌≡◌, take}
use Rattle.ua_binary.specs.Format.{saturated}
use Rattle.exchange.specs.Batches.{records_length}
use Rattle.exchange.proofs.portions.size_in_frame.Given as goal

abbrev pub invariant-loop-record : goal.invariant-loop-record
invariant-loop-record l = l.size ≡ saturated (records_length (take l.record-index l.records))
