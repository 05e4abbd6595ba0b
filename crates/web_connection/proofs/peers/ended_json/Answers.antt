use Rattle.web_connection.proofs.PeerLemmas.{end-told}
use Rattle.web_connection.proofs.peers.ended_json.Goals as goal

pub returns : goal.returns
returns c =
    end-told (λ text. text.items) c.end_json.result c.args.end c.in_ok-time.time.items
    c.as_slice.result.now c.as_slice.ensures.value c.in_ok-time.ensures c.end_json.ensures
