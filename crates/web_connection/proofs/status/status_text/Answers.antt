use Rattle.stamp.specs.Numbers.{number_of}
use Rattle.web_page.specs.Calls.{overview_of}
use Rattle.web_connection.proofs.PeerLemmas.{status-told}
use Rattle.web_connection.proofs.status.status_text.Goals as goal

pub returns : goal.returns
returns c =
    status-told (λ text. text.items) c.whole_text.result (overview_of c.args.overview)
    (number_of c.args.vector.now) c.as_slice.result.now c.in_ok-members.members.items
    c.as_slice-2.result.now c.in_ok-peers.peers.items c.as_slice-3.result.now c.as_slice.ensures
    c.as_slice-2.ensures.value c.in_ok-members.ensures c.as_slice-3.ensures.value
    c.in_ok-peers.ensures c.whole_text.ensures
