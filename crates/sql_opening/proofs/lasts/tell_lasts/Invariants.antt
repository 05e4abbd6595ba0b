use Rattle.std.proofs.Common.{◌≡◌, ◌≤◌, ◌<◌, ℕ, true, length}
use Rattle.std.specs.List.{list_any}
use Rattle.stamp.specs.Numbers.{number_of}
use Rattle.sql_opening.specs.Again.{has_last}
use Rattle.sql_opening.proofs.lasts.tell_lasts.Given as goal

abbrev pub invariant-loop-place : goal.invariant-loop-place
invariant-loop-place l = ((origin : ℕ) → origin ≤ l.place → 0 < number_of l.numbers origin
    → list_any (has_last origin (number_of l.numbers origin)) l.rows ≡ true)
    × (1 ≤ l.place → length l.numbers ≡ 64)
