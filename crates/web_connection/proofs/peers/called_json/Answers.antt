use Rattle.web_connection.proofs.PeerLemmas.{peer-told}
use Rattle.web_connection.proofs.peers.called_json.Goals as goal

pub returns : goal.returns
returns c =
    peer-told (λ text. text.items) c.peer_json.result c.args.call.now c.as_bytes.result.now
    c.in_ok-last.last.items c.as_slice.result.now (search) c.as_slice.ensures.value
    c.in_ok-last.ensures c.peer_json.ensures
