use Rattle.std.proofs.Common.{false}
use Rattle.sqlite.specs.Held.{state}
use Rattle.sql_archive.specs.Kept.{Kept}
use Rattle.sql_archive.proofs.StoreLemmas.{Laws, serves-begun}
use Rattle.sql_archive.proofs.store.SqlArchive.over.Goals as goal

pub invariant_of-result : goal.invariant_of-result
invariant_of-result g c =
    let laws : Laws g.S.Store = record {
      settled = g.met.S.Store.settled;
      stays =
          g.met.S.Store.stays;
      survives = g.met.S.Store.survives;
    } in
    let a : Kept _ = record {
      conn = c.open_all.new.conn;
      id = c.args.id;
      number =
          c.args.number;
      numbers = c.in-Ok.latest.numbers;
      tick = c.in-Ok.latest.tick;
      faults =
          0;
      broken = false;
    } in
    serves-begun g.S.Store laws a (state g.S.Store c.args.conn) c.in-Ok.ensures.opened
    c.schema-schema.ensures.live
