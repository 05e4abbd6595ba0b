use Rattle.std.proofs.Common.{◌≡◌, IfOk, IfErr, arith, refl, subst}
use Rattle.sqlite.specs.State.{HasCleanDisk}
use Rattle.sqlite.specs.Held.{state}
use Rattle.sql_tables.specs.Learning.{end_of}
use Rattle.sql_archive.specs.Ends.{LacksEnd}
use Rattle.sql_archive.proofs.LastLemmas.{last_read}
use Rattle.sql_archive.proofs.learning.last_told.Goals as goal

pub returns : goal.returns
returns g c =
    let e = c.in_ok-rows.ensures in
    let old = state g.S.Store c.args.conn.now in
    record {
      answer = λ clean.
          let early : HasCleanDisk old = omega (arith, e.crash.clean, clean) in
          last_read old.now.trees c.args.origin c.in_ok-rows.rows.items c.end_of.result
          (c.requires.filled early) (c.requires.kept early)
          (rw c.first_of-name.ensures at (e.answer clean))
          (subst (λ rows. IfOk c.end_of.result (λ last. last ≡ end_of rows))
          c.deref.ensures.value c.end_of.ensures.last)
          (subst (λ rows. IfErr c.end_of.result (λ _. LacksEnd rows)) c.deref.ensures.value
          c.end_of.ensures.lacks);
      kept = λ clean ok. e.kept clean refl;
      met = tt;
      refused = λ clean. tt;
      crash = e.crash;
    }
