use Rattle.std.proofs.Common.{◌≡◌, ◌<◌, ℕ}
use Rattle.sqlite_value.specs.Order.{column}
use Rattle.sql_opening.proofs.migrate.is_same_row.Given as goal

abbrev pub invariant-loop-at : goal.invariant-loop-at
invariant-loop-at l = (k : ℕ) → k < l.at → column l.old k ≡ column l.new k
