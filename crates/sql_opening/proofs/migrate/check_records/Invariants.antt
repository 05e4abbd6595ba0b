use Rattle.std.proofs.Common.{take}
use Rattle.sql_opening.specs.Opening.{HasWalked}
use Rattle.sql_opening.proofs.migrate.check_records.Given as goal

abbrev pub invariant-loop-row : goal.invariant-loop-row
invariant-loop-row l = HasWalked (take l.row-index l.rows) l.walk
