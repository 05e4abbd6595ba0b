use Rattle.std.proofs.Common.{◌≤◌}
use Rattle.sqlite.specs.Held.{state}
use Rattle.stamp.specs.Numbers.{number_of}
use Rattle.sql_reading.proofs.SinceLemmas.{Gathered}
use Rattle.sql_reading.proofs.since.records_since.Given as goal

abbrev pub invariant-loop-number : goal.invariant-loop-number
invariant-loop-number g l = Gathered (state g.S.Store l.fn.conn) (state g.S.Store l.conn)
    (number_of l.vector) l.limit l.number l.found.items × (1 ≤ l.number)
