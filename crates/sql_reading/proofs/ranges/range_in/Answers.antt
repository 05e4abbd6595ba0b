use Rattle.std.proofs.Common.{◌∙◌, ap, sym, take}
use Rattle.sqlite.specs.Held.{state}
use Rattle.stamp.specs.Numbers.{number_of}
use Rattle.sql_tables.specs.Rows.{content_in}
use Rattle.sql_reading.specs.Walking.{moment_at}
use Rattle.sql_tables.proofs.AskLemmas.{asked_as, asked_nothing}
use Rattle.sql_reading.proofs.RangeLemmas.{range_found, no_range, no_times, take_nothing}
use Rattle.sql_reading.proofs.ranges.range_in.Goals as goal

pub returns-in-Some : goal.returns-in-Some
returns-in-Some g c =
    let a = state g.S.Store c.args.conn.now in
    let b = state g.S.Store c.live_values.new.conn in
    let s = c.span_of-span.result in
    asked_as a b c.live_values.result _ _
    (λ clean v is. is ∙ ap (take c.args.limit) (sym
    (range_found (content_in a.now.trees) c.args.reading.now.node.now
    (number_of c.args.reading.now.within.now) c.args.reading.now.direction c.args.between.from
    c.args.between.to
    (moment_at s.start.ticks s.start.pico) s.far c.span_of-span.ensures.span)))
    c.live_values.ensures

pub returns-in-None : goal.returns-in-None
returns-in-None g c =
    let a = state g.S.Store c.args.conn.now in
    asked_nothing a _ _ c.requires.idles
    (λ clean. c.new.ensures.items ∙ (take_nothing c.args.limit
    ∙ ap (take c.args.limit) (sym
    (no_range (content_in a.now.trees) c.args.reading.now.node.now
    (number_of c.args.reading.now.within.now) c.args.reading.now.direction c.args.between.from
    c.args.between.to
    (no_times a.now.trees c.args.reading.now.node.now (c.requires.filled clean)
    (c.in_ok-bytes.ensures.long c.in-None.is))))))
