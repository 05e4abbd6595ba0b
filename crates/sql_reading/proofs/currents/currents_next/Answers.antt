use Rattle.std.proofs.Common.{subst, sym, map}
use Rattle.sqlite.specs.Held.{state}
use Rattle.sqlite_value.specs.declared.value.Value.TheVariants.{Int}
use Rattle.sqlite_sql.specs.Query.{as_count}
use Rattle.sql_tables.specs.Derived.{current_columns}
use Rattle.sql_tables.specs.Currents.{AreNextCurrents, ShowValues}
use Rattle.sql_tables.specs.State.{LeavesUnchanged}
use Rattle.sql_reading.proofs.currents.currents_next.Goals as goal

pub returns-in-Forward : goal.returns-in-Forward
returns-in-Forward g c =
    let a = c.args.along.now in
    subst (λ d. LeavesUnchanged (state g.S.Store c.args.conn.now)
    (state g.S.Store c.currents_after.new.conn) c.currents_after.result
    (λ rows. ShowValues (AreNextCurrents d c.args.node.now a.near.ticks a.near.pico a.far.ticks
    a.far.pico (as_count (Int a.count)) (map current_columns
    ((state g.S.Store c.args.conn.now).now.trees 4))) rows.items))
    (sym c.in-Forward.is) c.currents_after.ensures

pub returns-in-Backward : goal.returns-in-Backward
returns-in-Backward g c =
    let a = c.args.along.now in
    subst (λ d. LeavesUnchanged (state g.S.Store c.args.conn.now)
    (state g.S.Store c.currents_before.new.conn) c.currents_before.result
    (λ rows. ShowValues (AreNextCurrents d c.args.node.now a.near.ticks a.near.pico a.far.ticks
    a.far.pico (as_count (Int a.count)) (map current_columns
    ((state g.S.Store c.args.conn.now).now.trees 4))) rows.items))
    (sym c.in-Backward.is) c.currents_before.ensures
