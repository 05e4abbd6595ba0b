use Rattle.std.proofs.Common.{◌∙◌, ap, sym, take}
use Rattle.sqlite.specs.Held.{state}
use Rattle.stamp.specs.Numbers.{number_of}
use Rattle.records.specs.Contents.{cut}
use Rattle.sql_tables.specs.Rows.{content_in}
use Rattle.sql_reading.specs.Walking.{moment_at}
use Rattle.sql_tables.proofs.AskLemmas.{asked_as, asked_nothing}
use Rattle.sql_reading.proofs.RangeLemmas.{log_found, log_as, no_log, no_times, take_nothing}
use Rattle.sql_reading.proofs.ranges.log_in.Goals as goal

pub returns-in-Some : goal.returns-in-Some
returns-in-Some g c =
    let a = state g.S.Store c.args.conn.now in
    let b = state g.S.Store c.entries.new.conn in
    let s = c.span_of-span.result in
    let ends = c.ends_behind-ends.result in
    let cut_off = cut (content_in a.now.trees) (number_of c.args.reading.now.within.now) in
    asked_as a b c.entries.result _ _
    (λ clean v is. is ∙ ap (take c.args.limit) (sym
    (log_as cut_off c.args.reading.now.node.now c.args.reading.now.direction c.args.after.now
    c.args.between.from c.args.between.to
    ends.from ends.to c.ends_behind-ends.ensures
    ∙ log_found (content_in a.now.trees) c.args.reading.now.node.now
    (number_of c.args.reading.now.within.now) c.args.reading.now.direction ends.from ends.to
    (moment_at s.start.ticks s.start.pico) s.far c.args.after.now c.span_of-span.ensures.span)))
    c.entries.ensures

pub returns-in-None : goal.returns-in-None
returns-in-None g c =
    let a = state g.S.Store c.args.conn.now in
    asked_nothing a _ _ c.requires.idles
    (λ clean. c.new.ensures.items ∙ (take_nothing c.args.limit
    ∙ ap (take c.args.limit) (sym
    (no_log (content_in a.now.trees) c.args.reading.now.node.now
    (number_of c.args.reading.now.within.now) c.args.reading.now.direction c.args.between.from
    c.args.between.to c.args.after.now
    (no_times a.now.trees c.args.reading.now.node.now (c.requires.filled clean)
    (c.in_ok-bytes.ensures.long c.in-None.is))))))
