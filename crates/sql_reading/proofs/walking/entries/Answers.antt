use Rattle.std.proofs.Common.{rules, take, ◌≡◌, ◌≤◌, arith, refl, sym, subst, Some, None, Ok, Err, Vec, List, length}
use Rattle.std.specs.declared.alloc.Global.{Global}
use Rattle.sqlite.specs.Held.{state}
use Rattle.stamp.specs.Numbers.{number_of}
use Rattle.archive.specs.declared.fault.StoreFault.TheVariants.{Refused}
use Rattle.records.specs.declared.shown.Entry.{Entry}
use Rattle.std.proofs.Common.{filter, reverse}
use Rattle.records.specs.Records.{entries_after}
use Rattle.archive.specs.Reading.{in_direction, follows}
use Rattle.sql_tables.specs.State.{LeavesUnchanged}
use Rattle.sql_reading.specs.Walking.{moment_at}
use Rattle.sql_tables.proofs.AskLemmas.{passed_ok, passed_then, passed_err, passed_fault, early, same_trees}
use Rattle.sql_reading.proofs.FewLemmas.{few_beyond}
use Rattle.sql_reading.proofs.LoopLemmas.{beyond, memory_own, memory_unlike, refused_own, moment_of_place, is_place, story_first, stretch_shorter, Told, ahead_still, walked_start, walked_on, walked_enough, walked_ends, still_filled}
use Rattle.sql_reading.proofs.walking.entries.Goals as goal

abbrev items_of : Vec Entry Global → List Entry
items_of v = v.items

pub times-init : goal.times-init
times-init g c = (
  walked_start (λ rs.
      filter (follows c.args.reading.now.direction c.args.after.now)
      (in_direction c.args.reading.now.direction (reverse (entries_after None rs))))
      c.args.reading.now.node.now
      (number_of c.args.reading.now.within.now) c.args.reading.now.direction
      (moment_at c.args.span.start.ticks c.args.span.start.pico) c.args.span.far
      (state g.S.Store c.args.conn.now)
      (moment_at c.args.span.start.ticks c.args.span.start.pico) c.new-found.result.items
      c.nothing_ahead-ahead.result.records.items c.nothing_ahead-ahead.result.ends c.requires.idles
      refl c.new-found.ensures.items c.nothing_ahead-ahead.ensures.records
      c.nothing_ahead-ahead.ensures.ends,
  c.requires.place,
  λ clean. omega (
    arith,
    few_beyond (state g.S.Store c.args.conn.now).now.trees c.args.reading.now.node.now
        c.args.reading.now.direction
        (moment_at c.args.span.start.ticks c.args.span.start.pico) c.args.span.far,
  ),
)

pub returns-then-len-limit : goal.returns-then-len-limit
returns-then-len-limit g c =
    let a = state g.S.Store c.args.conn.now in
    let b = state g.S.Store c.times.conn in
    let reached : c.args.limit ≤ length c.times.found.items = omega (arith, c.times.found.ok.0) in
    walked_enough (λ rs. filter (follows c.args.reading.now.direction c.args.after.now)
    (in_direction c.args.reading.now.direction (reverse (entries_after None rs))))
    c.args.reading.now.node.now
    (number_of c.args.reading.now.within.now) c.args.reading.now.direction
    (moment_at c.args.span.start.ticks c.args.span.start.pico) c.args.span.far items_of a b
    (moment_at c.times.place.ticks c.times.place.pico) c.times.found.items
    c.times.ahead.records.items c.times.ahead.ends c.args.limit c.truncate.new.self
    c.times.invariant.0 reached c.truncate.ensures.items

pub next_story-requires-clause-idles : goal.next_story-requires-clause-idles
next_story-requires-clause-idles g c clean = (c.times.invariant.0.passed.kept clean).idles

pub next_story-requires-clause-filled : goal.next_story-requires-clause-filled
next_story-requires-clause-filled g c clean =
    still_filled (state g.S.Store c.args.conn.now)
    (state g.S.Store c.times.conn) c.times.invariant.0.passed c.requires.filled clean

pub next_story-requires-clause-place : goal.next_story-requires-clause-place
next_story-requires-clause-place g c = c.times.invariant.1

pub next_story-requires-clause-ahead : goal.next_story-requires-clause-ahead
next_story-requires-clause-ahead g c clean =
    ahead_still (λ rs. filter (follows c.args.reading.now.direction c.args.after.now)
    (in_direction c.args.reading.now.direction (reverse (entries_after None rs))))
    c.args.reading.now.node.now
    (number_of c.args.reading.now.within.now) c.args.reading.now.direction
    (moment_at c.args.span.start.ticks c.args.span.start.pico) c.args.span.far
    (state g.S.Store c.args.conn.now)
    (state g.S.Store c.times.conn) (moment_at c.times.place.ticks c.times.place.pico)
    c.times.found.items c.times.ahead.records.items c.times.ahead.ends c.times.invariant.0 clean

pub returns-in_err-next : goal.returns-in_err-next
returns-in_err-next g c =
    let a = state g.S.Store c.args.conn.now in
    let b = state g.S.Store c.times.conn in
    let d = state g.S.Store c.next_story.new.conn in
    let P : Vec Entry Global → Type 0 =
    λ x. x.items ≡ take c.args.limit (beyond
    (λ rs. filter (follows c.args.reading.now.direction c.args.after.now)
    (in_direction c.args.reading.now.direction (reverse (entries_after None rs))))
    c.args.reading.now.node.now
    (number_of c.args.reading.now.within.now) c.args.reading.now.direction
    (moment_at c.args.span.start.ticks c.args.span.start.pico) c.args.span.far a.now.trees
    (moment_at c.args.span.start.ticks c.args.span.start.pico)) in
    let told : c.from_residual.result ≡ Err c.in_err-next.field-0.0 = search rules in
    subst (λ r. LeavesUnchanged a d r P) (sym told)
    (passed_err a b d c.in_err-next.field-0.0 (Told
    (λ rs. filter (follows c.args.reading.now.direction c.args.after.now)
    (in_direction c.args.reading.now.direction (reverse (entries_after None rs))))
    c.args.reading.now.node.now
    (number_of c.args.reading.now.within.now) c.args.reading.now.direction
    (moment_at c.args.span.start.ticks c.args.span.start.pico) c.args.span.far b
    (moment_at c.times.place.ticks c.times.place.pico) c.next_story.new.ahead.records.items
    c.next_story.new.ahead.ends) P c.times.invariant.0.passed
    (subst (λ r. LeavesUnchanged b d r (Told
    (λ rs. filter (follows c.args.reading.now.direction c.args.after.now)
    (in_direction c.args.reading.now.direction (reverse (entries_after None rs))))
    c.args.reading.now.node.now
    (number_of c.args.reading.now.within.now) c.args.reading.now.direction
    (moment_at c.args.span.start.ticks c.args.span.start.pico) c.args.span.far b
    (moment_at c.times.place.ticks c.times.place.pico) c.next_story.new.ahead.records.items
    c.next_story.new.ahead.ends)) c.in_err-next.was c.next_story.ensures))

pub returns-in_default : goal.returns-in_default
returns-in_default g c =
    let a = state g.S.Store c.args.conn.now in
    let b = state g.S.Store c.times.conn in
    let d = state g.S.Store c.next_story.new.conn in
    let e = subst (λ o. LeavesUnchanged b d (Ok o)
    (Told (λ rs. filter (follows c.args.reading.now.direction c.args.after.now)
    (in_direction c.args.reading.now.direction (reverse (entries_after None rs))))
    c.args.reading.now.node.now
    (number_of c.args.reading.now.within.now) c.args.reading.now.direction
    (moment_at c.args.span.start.ticks c.args.span.start.pico) c.args.span.far b
    (moment_at c.times.place.ticks c.times.place.pico) c.next_story.new.ahead.records.items
    c.next_story.new.ahead.ends)) c.in_default.is c.in_ok-next.ensures in
    walked_ends (λ rs. filter (follows c.args.reading.now.direction c.args.after.now)
    (in_direction c.args.reading.now.direction (reverse (entries_after None rs))))
    c.args.reading.now.node.now
    (number_of c.args.reading.now.within.now) c.args.reading.now.direction
    (moment_at c.args.span.start.ticks c.args.span.start.pico) c.args.span.far items_of a b d
    (moment_at c.times.place.ticks c.times.place.pico) c.times.found.items
    c.times.ahead.records.items c.next_story.new.ahead.records.items c.times.ahead.ends
    c.next_story.new.ahead.ends c.args.limit c.truncate-in_default.new.self c.times.invariant.0 e
    c.truncate-in_default.ensures.items

pub returns-in_err-push_entries : goal.returns-in_err-push_entries
returns-in_err-push_entries g c =
    let a = state g.S.Store c.args.conn.now in
    let b = state g.S.Store c.times.conn in
    let d = state g.S.Store c.next_story.new.conn in
    let P : Vec Entry Global → Type 0 =
    λ x. x.items ≡ take c.args.limit (beyond
    (λ rs. filter (follows c.args.reading.now.direction c.args.after.now)
    (in_direction c.args.reading.now.direction (reverse (entries_after None rs))))
    c.args.reading.now.node.now
    (number_of c.args.reading.now.within.now) c.args.reading.now.direction
    (moment_at c.args.span.start.ticks c.args.span.start.pico) c.args.span.far a.now.trees
    (moment_at c.args.span.start.ticks c.args.span.start.pico)) in
    let told : c.from_residual-in_err-push_entries.result ≡ Err c.in_err-push_entries.field-0.0 =
    search rules in
    let passed = passed_ok b d (Some c.in-Some.story)
    (Told (λ rs. filter (follows c.args.reading.now.direction c.args.after.now)
    (in_direction c.args.reading.now.direction (reverse (entries_after None rs))))
    c.args.reading.now.node.now
    (number_of c.args.reading.now.within.now) c.args.reading.now.direction
    (moment_at c.args.span.start.ticks c.args.span.start.pico) c.args.span.far b
    (moment_at c.times.place.ticks c.times.place.pico) c.next_story.new.ahead.records.items
    c.next_story.new.ahead.ends) (subst
    (λ o. LeavesUnchanged b d (Ok o) (Told
    (λ rs. filter (follows c.args.reading.now.direction c.args.after.now)
    (in_direction c.args.reading.now.direction (reverse (entries_after None rs))))
    c.args.reading.now.node.now
    (number_of c.args.reading.now.within.now) c.args.reading.now.direction
    (moment_at c.args.span.start.ticks c.args.span.start.pico) c.args.span.far b
    (moment_at c.times.place.ticks c.times.place.pico) c.next_story.new.ahead.records.items
    c.next_story.new.ahead.ends)) c.in-Some.is c.in_ok-next.ensures) in
    subst (λ r. LeavesUnchanged a d r P) (sym told)
    (passed_fault a d c.in_err-push_entries.field-0.0 P
    (passed_then a b d c.times.invariant.0.passed passed)
    (memory_own c.in_err-push_entries.field-0.0 c.in_err-push_entries.ensures.memory)
    (λ clean is. absurd (memory_unlike c.in_err-push_entries.field-0.0
    c.in_err-push_entries.ensures.memory is)))

pub times-preserved : goal.times-preserved
times-preserved g c =
    let a = state g.S.Store c.args.conn.now in
    let b = state g.S.Store c.times.conn in
    let d = state g.S.Store c.next_story.new.conn in
    let e = subst (λ o. LeavesUnchanged b d (Ok o)
    (Told (λ rs. filter (follows c.args.reading.now.direction c.args.after.now)
    (in_direction c.args.reading.now.direction (reverse (entries_after None rs))))
    c.args.reading.now.node.now
    (number_of c.args.reading.now.within.now) c.args.reading.now.direction
    (moment_at c.args.span.start.ticks c.args.span.start.pico) c.args.span.far b
    (moment_at c.times.place.ticks c.times.place.pico) c.next_story.new.ahead.records.items
    c.next_story.new.ahead.ends)) c.in-Some.is c.in_ok-next.ensures in
    let p = c.place_of-place.ensures in (
      walked_on (λ rs. filter (follows c.args.reading.now.direction c.args.after.now)
          (in_direction c.args.reading.now.direction (reverse (entries_after None rs))))
          c.args.reading.now.node.now
          (number_of c.args.reading.now.within.now) c.args.reading.now.direction
          (moment_at c.args.span.start.ticks c.args.span.start.pico) c.args.span.far a b d
          (moment_at c.times.place.ticks c.times.place.pico)
          (moment_at c.place_of-place.result.ticks c.place_of-place.result.pico) c.times.found.items
          c.push_entries.new.found.items c.times.ahead.records.items
          c.next_story.new.ahead.records.items c.times.ahead.ends c.next_story.new.ahead.ends
          c.in-Some.story c.times.invariant.0 e
          (moment_of_place c.in-Some.story.time c.place_of-place.result.ticks
          c.place_of-place.result.pico p.0 p.1)
          c.in_ok-push_entries.ensures.value,
      is_place c.args.reading.now.direction c.in-Some.story.time c.place_of-place.result.pico p.1,
      λ clean.
          let passed = passed_ok b d (Some c.in-Some.story) _ e in
          let first = story_first c.args.reading.now.node.now
          (number_of c.args.reading.now.within.now) c.args.reading.now.direction c.args.span.far
          a.now.trees b.now.trees (moment_at c.times.place.ticks c.times.place.pico)
          c.in-Some.story _ _ (same_trees a b c.times.invariant.0.passed (early b d passed clean))
          (e.answer clean) in
          let step = stretch_shorter c.args.reading.now.node.now c.args.reading.now.direction
          c.args.span.far a.now.trees (moment_at c.times.place.ticks c.times.place.pico)
          c.in-Some.story.time
          (moment_at c.place_of-place.result.ticks c.place_of-place.result.pico)
          (moment_of_place c.in-Some.story.time c.place_of-place.result.ticks
          c.place_of-place.result.pico p.0 p.1) first in
          omega (arith, step, c.times.invariant.2 (early b d passed clean)),
    )

pub returns : goal.returns
returns g c =
    let a = state g.S.Store c.args.conn.now in
    let b = state g.S.Store c.times.conn in
    passed_fault a b Refused _ c.times.invariant.0.passed refused_own
    (λ clean is whole. omega
    (arith, c.times.invariant.2 clean, whole.few, c.times-test.false))
