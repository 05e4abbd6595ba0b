use Rattle.web_page.proofs.CallLemmas.{row-told}
use Rattle.web_page.proofs.peers.call_row.Goals as goal

pub returns : goal.returns
returns c =
    row-told (λ row. row.items) c.call_line.result c.args.call.now c.as_bytes.result.now
    c.in_ok-cells.cells.items c.as_slice.result.now (search) c.as_slice.ensures.value
    c.in_ok-cells.ensures c.call_line.ensures
