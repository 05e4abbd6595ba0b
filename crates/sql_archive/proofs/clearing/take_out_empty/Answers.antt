use Rattle.sqlite.specs.Held.{state}
use Rattle.sql_tables.specs.Derived.{AreKept}
use Rattle.sql_tables.specs.Rows.{meta_cells}
use Rattle.sql_opening.specs.Opening.{checked_meta, IsClearedIn}
use Rattle.sql_archive.proofs.StartLemmas.{never_comes}
use Rattle.sql_archive.proofs.BeginLemmas.{opened_behind, left_behind, begun_behind}
use Rattle.sql_archive.proofs.ClearLemmas.{held_behind}
use Rattle.sql_archive.proofs.clearing.take_out_empty.Goals as goal

pub returns-in-Ok-clause-opened : goal.returns-in-Ok-clause-opened
returns-in-Ok-clause-opened g c = opened_behind g.S.Store (state g.S.Store c.args.conn)
    (state g.S.Store c.open_beside.new.conn) (IsClearedIn c.args.id c.args.number)
    (λ clean. (c.in-Ok.ensures.opened clean).0.same) c.begin.result c.in-Ok.ensures.crash
    c.begin.ensures.opened

pub returns-in-Ok-clause-left : goal.returns-in-Ok-clause-left
returns-in-Ok-clause-left g c = left_behind g.S.Store (state g.S.Store c.args.conn)
    (state g.S.Store c.open_beside.new.conn) (IsClearedIn c.args.id c.args.number)
    (λ clean. (c.in-Ok.ensures.opened clean).0.same) c.begin.result c.in-Ok.ensures.crash
    c.begin.ensures.left

pub returns-in-Ok-clause-cleared : goal.returns-in-Ok-clause-cleared
returns-in-Ok-clause-cleared g c =
    begun_behind g.S.Store (state g.S.Store c.args.conn) (state g.S.Store c.open_beside.new.conn)
    (IsClearedIn c.args.id c.args.number)
    (λ clean. (c.in-Ok.ensures.opened clean).0.same) c.begin.result c.begin.ensures.opened
    c.begin.ensures.cleared

pub returns-in-Ok-clause-kept : goal.returns-in-Ok-clause-kept
returns-in-Ok-clause-kept g c = held_behind g.S.Store (state g.S.Store c.args.conn)
    (state g.S.Store c.open_beside.new.conn) _ AreKept c.begin.result
    (λ clean. (c.in-Ok.ensures.opened clean).0.same) c.begin.ensures.opened c.begin.ensures.kept

pub returns-in-Ok-clause-wrong : goal.returns-in-Ok-clause-wrong
returns-in-Ok-clause-wrong g c = never_comes g.S.Store
    (checked_meta c.args.id c.args.number (meta_cells (state g.S.Store c.args.conn).now.trees))
    c.begin.result c.begin.ensures.wrong
