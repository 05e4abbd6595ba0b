use Rattle.sqlite.specs.Held.{state}
use Rattle.sqlite.specs.State.{HasCleanDisk}
use Rattle.archive.specs.Reading.{times}
use Rattle.sql_tables.specs.Rows.{content_in}
use Rattle.stamp.specs.Numbers.{number_of}
use Rattle.std.proofs.Common.{◌+◌, ◌≤◌, [], length}
use Rattle.std.specs.List.{cons_option}
use Rattle.records.specs.Records.{held}
use Rattle.sql_reading.specs.Walking.{moment_at, IsStartPlace, stretch}
use Rattle.sql_reading.proofs.LoopLemmas.{Walked}
use Rattle.sql_reading.proofs.walking.values.Given as goal

abbrev pub invariant-times : goal.invariant-times
invariant-times g l =
    Walked (λ rs. cons_option (held rs) []) l.reading.node.now (number_of l.reading.within.now)
    l.reading.direction
    (moment_at l.fn.span.start.ticks l.fn.span.start.pico) l.fn.span.far (state g.S.Store l.fn.conn)
    (state g.S.Store l.conn) (moment_at l.place.ticks l.place.pico) l.found.items
    l.ahead.records.items l.ahead.ends
    × IsStartPlace l.reading.direction l.place.pico
    × (HasCleanDisk (state g.S.Store l.conn)
    → l.gone + length (stretch l.reading.direction (moment_at l.place.ticks l.place.pico)
    l.fn.span.far (times (content_in (state g.S.Store l.fn.conn).now.trees) l.reading.node.now))
    ≤ length ((state g.S.Store l.fn.conn).now.trees 1))
