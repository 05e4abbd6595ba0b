use Rattle.std.proofs.Common.{sym, subst}
use Rattle.conversation.specs.Receiving.{TellsStarved}
use Rattle.conversation.specs.declared.other_end.OtherEnd.{OtherEnd}
use Rattle.conversation.proofs.receiving.tell_starved.Goals as goal

pub returns-in-Peer : goal.returns-in-Peer
returns-in-Peer c =
    let told = c.tell_starved_peer.ensures c.in-Peer.field-0 in (
      told.0,
      told.1,
      subst (λ (o : OtherEnd). TellsStarved o told.0 c.tell_starved_peer.result)
          (sym c.in-Peer.is) told.2,
    )
