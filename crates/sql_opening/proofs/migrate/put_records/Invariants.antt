use Rattle.std.proofs.Common.{◌≡◌, false, take, map}
use Rattle.sqlite.specs.State.{HasCleanDisk, Survives}
use Rattle.sqlite.specs.Held.{state}
use Rattle.sql_schema.specs.Tables.{archive_schema}
use Rattle.sql_tables.specs.State.{Making, shown_of}
use Rattle.sql_opening.specs.Renewing.{PutsRecords}
use Rattle.sql_opening.proofs.migrate.put_records.Given as goal

abbrev pub invariant-loop-row : goal.invariant-loop-row
invariant-loop-row g l =
    let old = state g.S.Store l.fn.tx.conn.now in
    let now = state g.S.Store l.tx.conn.now in
    (l.tx.conn.ghost_name ≡ l.fn.tx.conn.ghost_name) × Survives old now (λ _. ⊥)
    × (HasCleanDisk now → Making (archive_schema false) now × (now.committed ≡ old.committed)
    × PutsRecords (map shown_of (take l.row-index l.rows)) old.now.trees now.now.trees)
