use Rattle.std.proofs.Common.{Ok}
use Rattle.std.specs.Prelude.{⊤}
use Rattle.archive.proofs.Listing.{asked}
use Rattle.archive.proofs.list_archive.ListArchiveArchive.reload.Goals as goal

pub returns-clause-asks : goal.returns-clause-asks
returns-clause-asks c = asked _ _ (Ok tt) _ c.told.ensures.lawful tt c.told.ensures.same
    c.told.ensures.left (λ _. ⊤) tt
