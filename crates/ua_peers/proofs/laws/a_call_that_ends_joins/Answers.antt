use Rattle.ua_peers.proofs.Joined.{both_hold}
use Rattle.ua_peers.proofs.laws.a_call_that_ends_joins.Goals as goal

pub returns : goal.returns
returns g c a b came out rest came' out' rest' last last' ending =
    both_hold (g.A.Archive.state c.args.caller.now) (g.A.Archive.state a)
    (g.B.Archive.state c.args.peer.now)
    (g.B.Archive.state b) came out rest came' out' rest' last last' ending
    (record { id = c.is_party.ensures.id; own = c.is_party.ensures.own })
    (record { id = c.is_party-2.ensures.id; own = c.is_party-2.ensures.own })
