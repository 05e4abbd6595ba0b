use Rattle.std.proofs.Common.{◌≡◌, [], List, length}
use Rattle.sqlite_value.specs.Order.{Row}
use Rattle.sqlite.specs.State.{HasCleanDisk, IsUnchanged, Survives}
use Rattle.sqlite.specs.Held.{state}
use Rattle.sqlite.specs.Given.{HasGiven}
use Rattle.sql_opening.specs.Opening.{HasWalked}
use Rattle.sql_tables.proofs.Texts.{all_text}
use Rattle.sql_opening.proofs.checking.check_rows.Given as goal

abbrev pub invariant-rows : goal.invariant-rows
invariant-rows g l =
    let old = state g.S.Store l.fn.conn in
    let now = state g.S.Store l.rows.conn.now in
    (l.rows.conn.ghost_name ≡ l.initial.rows.conn.ghost_name) × Survives old now (λ _. ⊥)
    × (HasCleanDisk now → (given : List Row)
    × HasGiven g.S.Store all_text [] l.rows.conn.now given × IsUnchanged old now
    × HasWalked given l.walk × (length given ≡ l.gone))
