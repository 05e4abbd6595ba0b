use Rattle.std.proofs.Common.{subst, sym}
use Rattle.sqlite.specs.Held.{state}
use Rattle.sqlite_value.specs.declared.value.Value.TheVariants.{Int}
use Rattle.sqlite_sql.specs.Query.{as_count}
use Rattle.sql_tables.specs.Words.{cells, AreNextRows}
use Rattle.sql_tables.specs.State.{LeavesUnchanged}
use Rattle.sql_tables.proofs.queries.rows_next.Goals as goal

pub returns-in-Forward : goal.returns-in-Forward
returns-in-Forward g c =
    subst (λ d. LeavesUnchanged (state g.S.Store c.args.conn.now)
    (state g.S.Store c.rows_after.new.conn) c.rows_after.result
    (λ rows. AreNextRows d c.args.node.now c.args.next.now.place.ticks
    c.args.next.now.place.pico (as_count (Int c.args.next.now.count))
    (cells ((state g.S.Store c.args.conn.now).now.trees 1)) rows.items))
    (sym c.in-Forward.is) c.rows_after.ensures

pub returns-in-Backward : goal.returns-in-Backward
returns-in-Backward g c =
    subst (λ d. LeavesUnchanged (state g.S.Store c.args.conn.now)
    (state g.S.Store c.rows_before.new.conn) c.rows_before.result
    (λ rows. AreNextRows d c.args.node.now c.args.next.now.place.ticks
    c.args.next.now.place.pico (as_count (Int c.args.next.now.count))
    (cells ((state g.S.Store c.args.conn.now).now.trees 1)) rows.items))
    (sym c.in-Backward.is) c.rows_before.ensures
