use Rattle.std.proofs.Common.{◌++◌, List, ℕ, ap, ◌∙◌}
use Rattle.web_page.specs.Calls.{overview_of}
use Rattle.web_page.specs.Front.{front_begin, front_end}
use Rattle.web_page.proofs.RowLemmas.{four-parts}
use Rattle.web_page.proofs.front.page_around.Goals as goal

pub returns : goal.returns
returns c =
    let peers = c.in_ok-peers.peers.items in (
      peers,
      c.in_ok-peers.ensures,
      four-parts (front_begin (overview_of c.args.overview)) c.args.rows.now peers front_end
          c.new-page.result.items c.put_begin.new.out.items c.extend_from_slice.new.self.items
          c.extend_from_slice-2.new.self.items c.extend_from_slice-3.new.self.items
          c.new-page.ensures.items c.in_ok-put_begin.ensures
          c.in_ok-extend_from_slice.ensures.items
          (c.in_ok-extend_from_slice-2.ensures.items
          ∙ ap (λ (l : List ℕ). c.extend_from_slice.new.self.items ++ l) c.as_slice.ensures.value)
          c.in_ok-extend_from_slice-3.ensures.items,
    )
