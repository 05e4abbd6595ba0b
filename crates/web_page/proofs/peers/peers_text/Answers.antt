use Rattle.web_page.proofs.CallLemmas.{peers-told}
use Rattle.web_page.proofs.peers.peers_text.Goals as goal

pub returns : goal.returns
returns c =
    peers-told (λ text. text.items) c.below_columns.result c.args.calls.now
    c.as_slice.result.now c.in_ok-rows.rows.items c.as_slice-2.result.now c.as_slice.ensures
    c.as_slice-2.ensures.value c.in_ok-rows.ensures c.below_columns.ensures
