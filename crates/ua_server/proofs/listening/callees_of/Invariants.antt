use Rattle.std.proofs.Common.{take}
use Rattle.ua_server.specs.Listening.{AreCallees}
use Rattle.ua_server.proofs.listening.callees_of.Given as goal

abbrev pub invariant-loop-i : goal.invariant-loop-i
invariant-loop-i l = AreCallees (take l.i l.peers) l.callees.items
