use Rattle.sql_archive.proofs.StoreLemmas.{rests}
use Rattle.sql_archive.proofs.store.SqlArchiveArchive.number.Goals as goal

pub returns-clause-rests : goal.returns-clause-rests
returns-clause-rests g c = rests g.S.Store
    (record {
      settled = g.met.S.Store.settled;
      stays = g.met.S.Store.stays;
      survives =
          g.met.S.Store.survives;
    }) c.args.self.now c.tables_stand.ensures.stand
