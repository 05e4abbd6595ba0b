use Rattle.std.proofs.Common.{◌≡◌, ◌≤◌, length, map, take}
use Rattle.stamp.specs.Numbers.{entries}
use Rattle.sql_opening.specs.Again.{last_in}
use Rattle.sql_opening.proofs.again.are_lasts.Given as goal

abbrev pub invariant-loop-place : goal.invariant-loop-place
invariant-loop-place l = (map last_in (take l.gone l.rows) ≡ entries (take l.place l.numbers))
    × (l.gone ≤ length l.rows) × (1 ≤ l.place → length l.numbers ≡ 64)
