use Rattle.std.proofs.Common.{◌∙◌, refl}
use Rattle.stamp.specs.Numbers.{number_of}
use Rattle.records.specs.Contents.{cut}
use Rattle.hist_read.proofs.Askings.{page_made}
use Rattle.hist_read.proofs.Paging.{modified_page, modified_next}
use Rattle.hist_read.proofs.modified.read_modified.Goals as goal

pub returns-clause-finds : goal.returns-clause-finds
returns-clause-finds g c =
    let R = cut (g.A.Archive.state c.args.archive.now).content
    (number_of c.args.scope.now.within) in
    let node = c.args.node.now in
    let q = c.args.details.now in
    let p = c.args.position.now in
    let entries = c.in_ok-entries.entries.items in
    page_made _ _ _ c.in_ok-entries.entries c.page.result _ _ _ _ c.in_ok-entries.ensures.finds
    (λ lawful is.
    record {
      items = c.page.ensures.items ∙ modified_page R node q p _ entries is refl;
      next = c.page.ensures.next ∙ modified_next R node q p _ entries is refl;
    })
