use Rattle.sqlite.specs.Held.{state}
use Rattle.sql_opening.specs.Opening.{IsRenewedIn}
use Rattle.sql_archive.proofs.BeginLemmas.{opened_behind, left_behind}
use Rattle.sql_archive.proofs.renewing.take_over_first.Goals as goal

pub returns-in-Ok-clause-opened : goal.returns-in-Ok-clause-opened
returns-in-Ok-clause-opened g c = opened_behind g.S.Store (state g.S.Store c.args.conn)
    (state g.S.Store c.open_rows.new.conn) (IsRenewedIn c.args.id c.args.number)
    (λ clean. (c.in-Ok.ensures.opened clean).0.same) c.begin.result c.in-Ok.ensures.crash
    c.begin.ensures.opened

pub returns-in-Ok-clause-left : goal.returns-in-Ok-clause-left
returns-in-Ok-clause-left g c = left_behind g.S.Store (state g.S.Store c.args.conn)
    (state g.S.Store c.open_rows.new.conn) (IsRenewedIn c.args.id c.args.number)
    (λ clean. (c.in-Ok.ensures.opened clean).0.same) c.begin.result c.in-Ok.ensures.crash
    c.begin.ensures.left
