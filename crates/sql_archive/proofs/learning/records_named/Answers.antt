use Rattle.std.proofs.Common.{◌≡◌, ◌⊎◌, IfOk, IfErr, arith, refl, subst}
use Rattle.std.specs.List.{flat_map}
use Rattle.sqlite.specs.State.{HasCleanDisk}
use Rattle.sqlite.specs.Held.{state}
use Rattle.records.specs.declared.fault.RecordFault.TheVariants.{OutOfMemory}
use Rattle.sql_tables.specs.Rows.{records_in, HasNoRecords}
use Rattle.sql_archive.proofs.NamedLemmas.{named_read}
use Rattle.sql_archive.proofs.learning.records_named.Goals as goal

pub returns : goal.returns
returns g c =
    let e = c.in_ok-rows.ensures in
    let old = state g.S.Store c.args.conn.now in
    record {
      answer = λ clean.
          let early : HasCleanDisk old = omega (arith, e.crash.clean, clean) in
          named_read old.now.trees c.args.candidate.now c.in_ok-rows.rows.items
          c.decode_all.result (c.requires.filled early)
          (rw (c.name_of-name.ensures.0, c.name_of-name.ensures.1) at (e.answer clean))
          (subst (λ rows. IfOk c.decode_all.result (λ all. all.items ≡ flat_map records_in rows))
          c.deref.ensures.value c.decode_all.ensures.read)
          (subst (λ rows. IfErr c.decode_all.result (λ fault. (fault ≡ OutOfMemory)
          ⊎ HasNoRecords rows)) c.deref.ensures.value c.decode_all.ensures.unread);
      kept = λ clean ok. e.kept clean refl;
      met = tt;
      refused = λ clean. tt;
      crash = e.crash;
    }
