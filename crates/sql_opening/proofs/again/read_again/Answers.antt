use Rattle.sqlite.specs.Held.{state}
use Rattle.sql_schema.proofs.StandingLemmas.{archive_has_meta}
use Rattle.sql_opening.proofs.again.read_again.Goals as goal

pub judge-requires-clause-known : goal.judge-requires-clause-known
judge-requires-clause-known g c clean =
    archive_has_meta (state g.S.Store c.args.conn.now).now.schema (c.requires clean).tables
