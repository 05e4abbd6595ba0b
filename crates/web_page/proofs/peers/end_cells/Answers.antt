use Rattle.web_page.proofs.CallLemmas.{end-told}
use Rattle.web_page.proofs.peers.end_cells.Goals as goal

pub returns : goal.returns
returns c =
    end-told (λ cells. cells.items) c.cells_of.result c.args.end c.in_ok-time.time.items
    c.as_slice.result.now c.as_slice.ensures.value c.in_ok-time.ensures c.cells_of.ensures
