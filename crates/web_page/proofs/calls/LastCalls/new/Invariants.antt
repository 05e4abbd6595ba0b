use Rattle.std.proofs.Common.{◌≡◌, map, take}
use Rattle.web_page.specs.Calls.{uncalled}
use Rattle.web_page.proofs.calls.LastCalls.new.Given as goal

abbrev pub invariant-loop-peer : goal.invariant-loop-peer
invariant-loop-peer l = record { made : l.calls.items ≡ map uncalled (take l.peer-index l.peers) }
