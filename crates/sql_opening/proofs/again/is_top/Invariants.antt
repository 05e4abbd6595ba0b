use Rattle.std.proofs.Common.{◌≡◌, take}
use Rattle.sql_opening.specs.Again.{top_in}
use Rattle.sql_opening.proofs.again.is_top.Given as goal

abbrev pub invariant-loop-row : goal.invariant-loop-row
invariant-loop-row l = top_in (take l.row-index l.rows) ≡ l.newest
