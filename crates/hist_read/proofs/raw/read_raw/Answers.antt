use Rattle.std.proofs.Common.{◌∙◌, ap}
use Rattle.stamp.specs.Numbers.{number_of}
use Rattle.records.specs.Contents.{cut}
use Rattle.hist_read.specs.Reads.{page, next_place, raw_position}
use Rattle.hist_read.proofs.Askings.{page_made}
use Rattle.hist_read.proofs.Paging.{row_page, row_next}
use Rattle.hist_read.proofs.raw.read_raw.Goals as goal

pub returns-clause-finds : goal.returns-clause-finds
returns-clause-finds g c =
    let R = cut (g.A.Archive.state c.args.archive.now).content (number_of c.args.scope.now.within) in
    let node = c.args.node.now in
    let q = c.args.details.now in
    let p = c.args.position.now in
    page_made _ _ _ c.in_ok-found.found c.page.result _ _ _ _ c.in_ok-found.ensures.finds
    (λ lawful is. record {
      items = c.page.ensures.items ∙ (ap (page q p) c.in_ok-items.ensures
          ∙ row_page R node q p c.in_ok-found.found is);
      next = c.page.ensures.next ∙ (ap (next_place (raw_position q p) q p) c.in_ok-items.ensures
          ∙ row_next R node q p c.in_ok-found.found is);
    })
