use Rattle.sqlite.specs.Held.{state}
use Rattle.sql_tables.proofs.AgreedLemmas.{checked_vectors}
use Rattle.sql_opening.proofs.lasts.check_vectors.Goals as goal

pub returns : goal.returns
returns g c =
    checked_vectors (state g.S.Store c.args.conn.now) (state g.S.Store c.vectors_stand.new.conn)
    (state g.S.Store c.vectors_reach.new.conn)
    (state g.S.Store c.vectors_held.new.conn) c.in_ok-stand.stand c.in_ok-reach.reach
    c.in_ok-_held._held
    c.requires.filled c.in_ok-stand.ensures c.in_ok-reach.ensures c.in_ok-_held.ensures
    c.both_hold.result
    c.both_hold.ensures.same c.both_hold.ensures.met c.both_hold.ensures.refused
