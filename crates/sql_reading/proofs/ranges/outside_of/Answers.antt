use Rattle.std.proofs.Common.{◌∙◌, ap, sym, arith, refl, slice_get}
use Rattle.sqlite.specs.Held.{state}
use Rattle.stamp.specs.Numbers.{number_of}
use Rattle.sql_tables.specs.Rows.{content_in}
use Rattle.std.proofs.Common.{ℤ, List}
use Rattle.records.specs.declared.shown.Held.{Held}
use Rattle.archive.specs.Reading.{times}
use Rattle.std.specs.List.{flat_map}
use Rattle.records.specs.Contents.{cut}
use Rattle.sql_reading.specs.Walking.{moment_at, stretch, values_at, end_of_time}
use Rattle.sql_reading.proofs.RangeLemmas.{outside_found, none_beyond, first_taken}
use Rattle.sql_reading.proofs.LoopLemmas.{moment_of_place, is_place}
use Rattle.sql_reading.proofs.ranges.outside_of.Goals as goal

pub live_values-requires-clause-place : goal.live_values-requires-clause-place
live_values-requires-clause-place g c =
    is_place c.args.reading.now.direction c.args.time c.place_of.result.pico c.place_of.ensures.1

pub returns : goal.returns
returns g c =
    let a = state g.S.Store c.args.conn.now in
    let e = c.in_ok-found.ensures in
    let R = content_in a.now.trees in
    let v = number_of c.args.reading.now.within.now in
    let p = c.place_of in
    let all : ℤ → ℤ → List Held = λ place far.
    flat_map (values_at (cut R v) c.args.reading.now.node.now)
    (stretch c.args.reading.now.direction place far (times R c.args.reading.now.node.now)) in
    record {
      answer = λ clean.
          c.first_of.ensures
          ∙ (first_taken c.in_ok-found.found.items
          (all (moment_at p.result.ticks p.result.pico) c.end_of_time.result) (e.answer clean)
          ∙ (ap (λ far. slice_get (all (moment_at p.result.ticks p.result.pico) far) 0)
          c.end_of_time.ensures
          ∙ (ap (λ place. slice_get (all place (end_of_time c.args.reading.now.direction)) 0)
          (moment_of_place c.args.time p.result.ticks p.result.pico p.ensures.0 p.ensures.1)
          ∙ sym (outside_found R c.args.reading.now.node.now v c.args.reading.now.direction
          c.args.time
          (end_of_time c.args.reading.now.direction) (λ t h.
          none_beyond a.now.trees c.args.reading.now.node.now c.args.reading.now.direction t
          (c.requires.filled (omega (arith, e.crash.clean, clean))) h)))));
      kept = λ clean ok. e.kept clean refl;
      met = tt;
      refused = λ clean. tt;
      crash = e.crash;
    }
