use Rattle.std.proofs.Common.{refl}
use Rattle.ua_peers.proofs.Talking.{end-four}
use Rattle.conversation.proofs.receiving.tell_starved_peer.Goals as goal

pub returns-in-Ok : goal.returns-in-Ok
returns-in-Ok c peer = (_, c.in-Ok.ensures.items, (end-four, refl))
