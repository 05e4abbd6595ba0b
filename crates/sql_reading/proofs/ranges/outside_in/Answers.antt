use Rattle.std.proofs.Common.{sym, None}
use Rattle.sqlite.specs.Held.{state}
use Rattle.stamp.specs.Numbers.{number_of}
use Rattle.sql_tables.specs.Rows.{content_in}
use Rattle.sql_tables.proofs.AskLemmas.{asked_nothing}
use Rattle.sql_reading.proofs.RangeLemmas.{no_outside, no_times}
use Rattle.sql_reading.proofs.ranges.outside_in.Goals as goal

pub returns-in-None : goal.returns-in-None
returns-in-None g c =
    let a = state g.S.Store c.args.conn.now in
    asked_nothing a None _ c.requires.idles (λ clean.
    sym (no_outside (content_in a.now.trees) c.args.reading.now.node.now
    (number_of c.args.reading.now.within.now) c.args.reading.now.direction c.args.time
    (no_times a.now.trees c.args.reading.now.node.now (c.requires.filled clean)
    (c.in_ok-bytes.ensures.long c.in-None.is))))
