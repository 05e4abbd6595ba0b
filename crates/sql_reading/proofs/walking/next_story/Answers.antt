use Rattle.std.proofs.Common.{rules, Err, ◌≡◌, ◌∙◌, sym, subst, Some, None, IfSome}
use Rattle.sqlite.specs.Held.{state}
use Rattle.stamp.specs.Numbers.{number_of}
use Rattle.records.specs.Contents.{cut}
use Rattle.records.specs.Records.{versions}
use Rattle.archive.specs.Reading.{times}
use Rattle.sql_tables.specs.Rows.{content_in}
use Rattle.sql_reading.specs.Walking.{moment_at, IsNextTime, IsAhead, StandsFirst}
use Rattle.sql_tables.proofs.AskLemmas.{passed_err, passed_ok, passed_then, passed_told, early, same_trees}
use Rattle.sql_reading.proofs.WalkLemmas.{no_story, stretch_stops, next_story_is}
use Rattle.sql_reading.proofs.walking.next_story.Goals as goal

pub returns-in_default : goal.returns-in_default
returns-in_default g c =
    let a = state g.S.Store c.args.conn.now in
    let b = state g.S.Store c.next_time.new.conn in
    let e = c.in_ok-next.ensures in
    let R = content_in a.now.trees in
    let place = moment_at c.args.span.start.ticks c.args.span.start.pico in
    passed_told a b None _ (passed_ok a b c.in_ok-next.next _ e)
    (λ clean. (
      no_story R c.args.reading.now.node.now
          (number_of c.args.reading.now.within.now) c.args.reading.now.direction place
          c.args.span.far
          (subst (IsNextTime c.args.reading.now.direction place
          (times R c.args.reading.now.node.now)) c.in_default.is
          (e.answer clean).0),
      tt,
    ))

pub returns-then-is_past : goal.returns-then-is_past
returns-then-is_past g c =
    let a = state g.S.Store c.args.conn.now in
    let b = state g.S.Store c.next_time.new.conn in
    let e = c.in_ok-next.ensures in
    let R = content_in a.now.trees in
    let place = moment_at c.args.span.start.ticks c.args.span.start.pico in
    passed_told a b None _ (passed_ok a b c.in_ok-next.next _ e)
    (λ clean. (
      stretch_stops c.args.reading.now.direction place c.args.span.far c.in-Some.time
          (times R c.args.reading.now.node.now) (subst
          (IsNextTime c.args.reading.now.direction place (times R c.args.reading.now.node.now))
          c.in-Some.is
          (e.answer clean).0) (sym c.is_past.ensures ∙ c.if-is_past.true),
      tt,
    ))

pub covered_story-requires-clause-first : goal.covered_story-requires-clause-first
covered_story-requires-clause-first g c clean =
    let a = state g.S.Store c.args.conn.now in
    let b = state g.S.Store c.next_time.new.conn in
    let e = c.in_ok-next.ensures in
    let held = c.next_time.new.ahead in
    let d = c.args.reading.now.direction in
    let node = c.args.reading.now.node.now in
    subst (λ t. StandsFirst (content_in t) node d c.in-Some.time held.records.items held.ends)
    (sym (same_trees a b (passed_ok a b c.in_ok-next.next _ e) clean))
    (subst (λ o. IfSome o (λ time.
    StandsFirst (content_in a.now.trees) node d time held.records.items held.ends)) c.in-Some.is
    (e.answer clean).1)

pub returns : goal.returns
returns g c =
    let a = state g.S.Store c.args.conn.now in
    let b = state g.S.Store c.next_time.new.conn in
    let d = state g.S.Store c.covered_story.new.conn in
    let e = c.in_ok-next.ensures in
    let f = c.in_ok-records.ensures in
    let R = content_in a.now.trees in
    let place = moment_at c.args.span.start.ticks c.args.span.start.pico in
    let v = number_of c.args.reading.now.within.now in
    let first = passed_ok a b c.in_ok-next.next _ e in
    let second = passed_ok b d c.in_ok-records.records _ f in
    passed_told a d (Some _) _ (passed_then a b d first second)
    (λ clean.
    let before = early b d second clean in
    let same = same_trees a b first before in
    let told = f.answer clean in (
      next_story_is R c.args.reading.now.node.now v c.args.reading.now.direction place
          c.args.span.far c.in-Some.time
          c.in_ok-records.records.items (subst
          (IsNextTime c.args.reading.now.direction place (times R c.args.reading.now.node.now))
          c.in-Some.is
          (e.answer before).0) (sym c.is_past.ensures ∙ c.if-is_past.false)
          (subst (λ t. c.in_ok-records.records.items
          ≡ versions (cut (content_in t) v) c.args.reading.now.node.now c.in-Some.time) same
          told.0),
      subst (λ t. IsAhead (content_in t) c.args.reading.now.node.now c.args.reading.now.direction
          c.in-Some.time
          c.covered_story.new.ahead.records.items c.covered_story.new.ahead.ends) same told.1,
    ))

pub returns-in_err-records : goal.returns-in_err-records
returns-in_err-records g c =
    let a = state g.S.Store c.args.conn.now in
    let b = state g.S.Store c.next_time.new.conn in
    let told : c.from_residual-in_err-records.result ≡ Err c.in_err-records.field-0.0 =
    search rules in
    rw told (passed_err a b (state g.S.Store c.covered_story.new.conn) c.in_err-records.field-0.0 _
    _
    (passed_ok a b c.in_ok-next.next _ c.in_ok-next.ensures) c.in_err-records.ensures)
