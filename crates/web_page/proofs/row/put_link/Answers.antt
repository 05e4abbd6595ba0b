use Rattle.std.proofs.Common.{◌≡◌, ◌++◌, List, ℕ, OnOk, ap, ◌∙◌, subst}
use Rattle.history_csv.specs.Nodes.{node_text}
use Rattle.web_page.specs.Front.{history_link, anchor_cell}
use Rattle.web_page.proofs.row.put_link.Goals as goal

pub returns : goal.returns
returns c =
    let result = c.put_anchor.result in
    let old = c.args.out.now.items in
    let new = c.put_anchor.new.out.items in
    let text = node_text c.args.node.now in
    subst (λ (t : List ℕ). OnOk result (new ≡ old ++ anchor_cell (history_link text) t))
    (c.as_slice-3.ensures.value ∙ c.in_ok-id.ensures)
    (subst (λ (l : List ℕ). OnOk result (new ≡ old ++ anchor_cell l c.as_slice-3.result.now))
    (c.as_slice-2.ensures.value ∙ (c.in_ok-link.ensures
    ∙ ap history_link (c.as_slice.ensures.value ∙ c.in_ok-id.ensures))) c.put_anchor.ensures)
