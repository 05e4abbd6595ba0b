use Rattle.std.proofs.Common.{◌∙◌, ap, sym}
use Rattle.sqlite.specs.Held.{state}
use Rattle.records.specs.Records.{versions}
use Rattle.archive.specs.Reading.{in_direction}
use Rattle.sql_tables.specs.Rows.{content_in}
use Rattle.sql_reading.specs.Walking.{records_beyond}
use Rattle.sql_tables.proofs.AskLemmas.{asked_as, asked_nothing}
use Rattle.sql_reading.proofs.AheadLemmas.{stamps_apart, nothing_held, story_taken, turned_back}
use Rattle.sql_reading.proofs.lookahead.take_story.Goals as goal

pub returns-then-is_used_up : goal.returns-then-is_used_up
returns-then-is_used_up g c =
    let a = state g.S.Store c.args.conn.now in
    let left = c.take_time.new.records.items in
    let ends = c.args.ahead.now.ends in
    asked_as a (state g.S.Store c.story_at.new.conn) c.story_at.result _ _
    (λ clean v is. (
      is,
      nothing_held (records_beyond
          (content_in a.now.trees) c.args.reading.now.node.now c.args.reading.now.direction
          c.args.time) left ends
          (sym c.is_used_up.ensures ∙ c.if-is_used_up.true),
    )) c.story_at.ensures

pub returns : goal.returns
returns g c =
    let a = state g.S.Store c.args.conn.now in
    let R = content_in a.now.trees in
    let d = c.args.reading.now.direction in
    let held = c.args.ahead.now in
    asked_nothing a c.turn.new.records _ c.requires.idles
    (λ clean.
    let told = story_taken R c.args.reading.now.node.now d c.args.time held.records.items
    c.in_ok-taken.taken.items c.take_time.new.records.items held.ends
    (stamps_apart a.now.trees (c.requires.filled clean))
    (c.requires.first clean) c.in_ok-taken.ensures.value
    (sym c.is_used_up.ensures ∙ c.if-is_used_up.false) in (
      c.turn.ensures ∙ (ap (in_direction d) told.0
          ∙ turned_back d (versions R c.args.reading.now.node.now c.args.time)),
      told.1,
    ))
