use Rattle.std.proofs.Common.{Ok, subst}
use Rattle.ua_binary.specs.Format.{IsOrStarved}
use Rattle.ua_binary.specs.declared.codes.TheConstants.Status.{BAD_OUT_OF_MEMORY}
use Rattle.ua_space.specs.References.{browse_at}
use Rattle.web_page.proofs.ListingLemmas.{folders_answered}
use Rattle.web_page.proofs.listing.folders_of.Goals as goal

pub returns-in-Ok : goal.returns-in-Ok
returns-in-Ok c =
    folders_answered c.args.space.now c.in-Ok.found
    (subst (λ d. IsOrStarved BAD_OUT_OF_MEMORY (browse_at c.args.space.now d) (Ok c.in-Ok.found))
    c.asked.ensures c.in-Ok.ensures.told)
