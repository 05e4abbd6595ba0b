use Rattle.std.proofs.Common.{arith, refl}
use Rattle.sqlite.specs.Held.{state}
use Rattle.stamp.specs.Numbers.{number_of}
use Rattle.sql_reading.proofs.WalkLemmas.{covered_found}
use Rattle.sql_reading.proofs.walking.covered_story.Goals as goal

pub returns : goal.returns
returns g c =
    let e = c.in_ok-records.ensures in
    record {
      answer = λ clean.
          let told = e.answer clean in (
            covered_found (state g.S.Store c.args.conn.now).now.trees c.args.reading.now.node.now
                c.args.time
                (number_of c.args.reading.now.within.now) c.in_ok-records.records.items
                c.keep_covered.new.records.items (c.requires.filled
                (omega (arith, e.crash.clean, clean))) told.0 c.keep_covered.ensures,
            told.1,
          );
      kept = λ clean ok. e.kept clean refl;
      met = tt;
      refused = λ clean. tt;
      crash = e.crash;
    }
