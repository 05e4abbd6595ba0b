use Rattle.sqlite.specs.Held.{state}
use Rattle.sql_tables.proofs.LearnLemmas.{stored_as}
use Rattle.sql_tables.proofs.writes.store_record.Goals as goal

pub returns : goal.returns
returns g c =
    let e = c.store_cells.ensures in
    stored_as (state g.S.Store c.args.conn.now)
    (state g.S.Store c.store_cells.new.conn) c.args.r.now _ c.store_cells.result
    c.in_ok-row.ensures.row e.added e.refused e.met e.crash
