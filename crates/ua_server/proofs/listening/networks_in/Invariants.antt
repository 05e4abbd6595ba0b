use Rattle.std.proofs.Common.{take}
use Rattle.ua_server.specs.Listening.{AreNetworks}
use Rattle.ua_server.proofs.listening.networks_in.Given as goal

abbrev pub invariant-loop-i : goal.invariant-loop-i
invariant-loop-i l = AreNetworks (take l.i l.texts) l.networks.items
