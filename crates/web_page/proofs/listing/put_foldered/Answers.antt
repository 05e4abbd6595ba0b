use Rattle.std.proofs.Common.{◌++◌, ◌+◌, List, map, arith, ap, sym, ◌∙◌, append_assoc}
use Rattle.ua_services.specs.declared.browsing.ReferenceDescription.{ReferenceDescription}
use Rattle.ua_space.specs.Space.{node_at}
use Rattle.web_page.specs.declared.listing.Listed.{Listed}
use Rattle.web_page.specs.Listing.{listed_below, told_in}
use Rattle.web_page.proofs.ListingLemmas.{in_folders, next_folder}
use Rattle.web_page.proofs.listing.put_foldered.Goals as goal

pub loop-folder-preserved : goal.loop-folder-preserved
loop-folder-preserved c =
    let space = c.args.space.now in
    let i = c.loop-folder.folder-index in
    let out = c.loop-folder.out.items in
    let item = c.folder-item.result in
    let ids = map (told_in item.display_name.text) c.in_ok-found.found in
    let rest = in_folders space (i + 1) in
    record {
      appends = ap (λ (l : List Listed). l ++ rest) c.in_ok-put_listed.ensures
          ∙ (append_assoc out ids rest ∙ (ap (λ (l : List Listed). out ++ l)
          (sym (next_folder space c.args.folders.now i item ids (omega arith) c.requires
          (λ n is. c.in_ok-found.ensures n item.display_name.text
          (ap (node_at space) (c.as_ref.ensures.same
          ∙ ap (λ (r : ReferenceDescription). r.node_id) c.folder-item.is) ∙ is)
          ∙ ap (λ (r : ReferenceDescription). listed_below space r.display_name.text n)
          c.folder-item.is)))
          ∙ c.loop-folder.invariant.appends));
    }
