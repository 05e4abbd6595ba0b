use Rattle.std.proofs.Common.{◌∙◌, refl}
use Rattle.sqlite.specs.Held.{state}
use Rattle.sql_opening.proofs.OpenLemmas.{judged_permuted, four_columns}
use Rattle.sql_opening.proofs.opening.judge.Goals as goal

pub returns : goal.returns
returns g c =
    let e = c.in_ok-rows.ensures in
    record {
      answer = λ clean.
          (rw c.deref.ensures.value at c.judge_meta.ensures)
          (four_columns ((state g.S.Store c.args.conn.now).now.trees 0) c.in_ok-rows.rows.items
          (e.answer clean))
          ∙ judged_permuted c.args.format c.args.id.now c.args.number _ c.in_ok-rows.rows.items
          (e.answer clean);
      kept = λ clean ok. e.kept clean refl;
      met = tt;
      refused = λ clean. tt;
      crash = e.crash;
    }
