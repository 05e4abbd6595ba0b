use Rattle.ua_peers.proofs.Exchanged.{exchanged}
use Rattle.ua_peers.proofs.laws.calls_are_exchanges.Goals as goal

pub returns : goal.returns
returns g c a b w i j s t R S =
    exchanged (g.A.Archive.state c.args.caller.now) (g.A.Archive.state a)
    (g.B.Archive.state c.args.peer.now) (g.B.Archive.state b) w i j s t R S
    (record { id = c.is_party.ensures.id; own = c.is_party.ensures.own })
    (record { id = c.is_party-2.ensures.id; own = c.is_party-2.ensures.own })
