use Rattle.std.proofs.Common.{arith, subst, sym, refl, IfSome}
use Rattle.sqlite.specs.Held.{state}
use Rattle.archive.specs.Reading.{times}
use Rattle.sql_tables.specs.Rows.{content_in}
use Rattle.sql_reading.specs.Walking.{moment_at, IsNextTime, StandsFirst}
use Rattle.sql_reading.proofs.AheadLemmas.{stamps_apart, next_told}
use Rattle.sql_reading.proofs.lookahead.next_time.Goals as goal

pub returns : goal.returns
returns g c =
    let e = c.in_ok-fill.ensures in
    let db = (state g.S.Store c.args.conn.now).now.trees in
    let R = content_in db in
    let node = c.args.reading.now.node.now in
    let d = c.args.reading.now.direction in
    let place = moment_at c.args.place.now.ticks c.args.place.now.pico in
    let held = c.fill.new.ahead in
    record {
      answer = λ clean.
          subst (λ t. IsNextTime d place (times R node) t
          × IfSome t (λ time. StandsFirst R node d time held.records.items held.ends))
          (sym c.first_time.ensures)
          (next_told R node d place held.records.items held.ends
          (stamps_apart db (c.requires.filled (omega (arith, e.crash.clean, clean))))
          (e.answer clean).0 (e.answer clean).1);
      kept = λ clean ok. e.kept clean refl;
      met = tt;
      refused = λ clean. tt;
      crash = e.crash;
    }
