use Rattle.std.proofs.Common.{◌≡◌, [], List, length}
use Rattle.sqlite_value.specs.Order.{Row}
use Rattle.sqlite.specs.State.{HasCleanDisk, IsUnchanged, Survives}
use Rattle.sqlite.specs.Held.{state}
use Rattle.sqlite.specs.Given.{HasGiven}
use Rattle.sql_tables.specs.Agreeing.{HasRisen}
use Rattle.sql_tables.proofs.integrity.count_ids.Given as goal

abbrev pub invariant-rows : goal.invariant-rows
invariant-rows g l =
    let old = state g.S.Store l.fn.conn in
    let now = state g.S.Store l.rows.conn.now in
    (l.rows.conn.ghost_name ≡ l.initial.rows.conn.ghost_name) × Survives old now (λ _. ⊥)
    × (HasCleanDisk now → (given : List Row)
    × HasGiven g.S.Store l.fn.sql [] l.rows.conn.now given × IsUnchanged old now
    × HasRisen given l.ids × (length given ≡ l.gone))
