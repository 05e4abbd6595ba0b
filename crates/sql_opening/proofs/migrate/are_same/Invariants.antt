use Rattle.std.proofs.Common.{◌≡◌, ◌≤◌, take, length}
use Rattle.sql_opening.proofs.migrate.are_same.Given as goal

abbrev pub invariant-loop-row : goal.invariant-loop-row
invariant-loop-row l = (take l.row-index l.old ≡ take l.count l.new) × (l.count ≤ length l.new)
