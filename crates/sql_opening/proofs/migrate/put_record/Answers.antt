use Rattle.std.proofs.Common.{◌≡◌, OnOk, Ok, Err, Result, ℕ, false, ◌∙◌, sym, subst, arith}
use Rattle.sqlite_value.specs.Order.{Row}
use Rattle.sqlite.specs.declared.error.Error.{Error}
use Rattle.sqlite.specs.State.{State, HasCleanDisk}
use Rattle.sqlite.specs.Held.{state}
use Rattle.sql_schema.specs.Tables.{archive_schema}
use Rattle.sql_tables.specs.Keeping.{AddsRecord}
use Rattle.sql_tables.specs.State.{Making, MakingArchive}
use Rattle.sql_opening.proofs.migrate.put_record.Goals as goal

-- the tables are without the index, so they still are
added : (old new : State) (row : Row) (r : Result ℕ Error)
    → old.now.schema ≡ archive_schema false
    → OnOk r (MakingArchive new × (new.now.schema ≡ old.now.schema)
    × (new.committed ≡ old.committed) × AddsRecord row old.now.trees new.now.trees)
    → OnOk r (Making (archive_schema false) new × (new.committed ≡ old.committed)
    × AddsRecord row old.now.trees new.now.trees)
added old new row (Ok count) has h =
    (record { inside = h.0.inside; has = h.1 ∙ has }, h.2, h.3)
added old new row (Err e) has h = tt

pub add_record-requires : goal.add_record-requires
add_record-requires g c clean =
    let was = c.requires clean in record { inside = was.inside; has = (false, was.has) }

pub returns-clause-made : goal.returns-clause-made
returns-clause-made g c clean =
    let old = state g.S.Store c.args.tx.now.conn.now in
    let new = state g.S.Store c.add_record.new.tx.conn.now in
    let early : HasCleanDisk old = omega (arith, c.add_record.ensures.crash.clean, clean) in
    added old new _ c.add_record.result (c.requires early).has
    (subst (λ row. OnOk c.add_record.result (MakingArchive new
    × (new.now.schema ≡ old.now.schema)
    × (new.committed ≡ old.committed) × AddsRecord row old.now.trees new.now.trees))
    (sym c.in_ok-cells.ensures.found) (c.add_record.ensures.made clean))
