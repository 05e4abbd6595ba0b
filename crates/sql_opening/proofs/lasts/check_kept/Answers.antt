use Rattle.sqlite.specs.Held.{state}
use Rattle.sql_tables.proofs.AgreedLemmas.{checked_both}
use Rattle.sql_opening.proofs.lasts.check_kept.Goals as goal

pub returns : goal.returns
returns g c = checked_both (state g.S.Store c.args.conn.now)
    (state g.S.Store c.check_currents.new.conn)
    (state g.S.Store c.check_vectors.new.conn) c.check_vectors.result c.in_ok-check_currents.ensures
    c.check_vectors.ensures
