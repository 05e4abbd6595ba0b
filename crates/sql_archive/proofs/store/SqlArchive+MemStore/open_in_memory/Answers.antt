use Rattle.std.proofs.Common.{subst}
use Rattle.archive.specs.Store.{IsOfOpening}
use Rattle.sqlite.specs.Held.{state}
use Rattle.sqlite.specs.Steps.{over_memory}
use Rattle.sqlite.proofs.Callers.{memory_is_clean}
use Rattle.sql_opening.proofs.OpenLemmas.{nothing_in}
use Rattle.sql_archive.proofs.store.SqlArchive+MemStore.open_in_memory.Goals as goal

pub returns-in-Ok-make-clause-empty : goal.returns-in-Ok-make-clause-empty
returns-in-Ok-make-clause-empty c =
    let made = c.in-Ok-make.ensures.made (memory_is_clean c.in-Ok-make.archive.conn) in
    nothing_in (state over_memory c.in-Ok-make.archive.conn).now.trees made.records

pub returns-in-Ok-make-clause-begins : goal.returns-in-Ok-make-clause-begins
returns-in-Ok-make-clause-begins c =
    let own = c.in-Ok-make.ensures.own in
    let clean = memory_is_clean c.in-Ok-make.archive.conn in
    let made = c.in-Ok-make.ensures.made clean in
    record {
      id = own.0;
      own = own.1;
      honest = clean;
      whole = own.3;
      empty =
          nothing_in (state over_memory c.in-Ok-make.archive.conn).now.trees made.records;
    }

pub returns-clause-refused : goal.returns-clause-refused
returns-clause-refused c of = c.in-Err-make.ensures.wrong (memory_is_clean c.in-Err-make.field-0-1)
    (subst IsOfOpening (c.as_told.ensures.met of) of)
