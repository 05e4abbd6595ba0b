-- Replicas, ticks and the numbers of records.
use Rattle.std.specs.Prelude.{ℕ, ◌≤◌, ℤ, pos, ◌+ℤ◌, int_lt, Option, Some, None, if◌then◌else◌}
use Rattle.std.specs.Int.{int_max, int_min}

-- the greatest tick, and the greatest number of a record: 2^62 - 1
abbrev pub greatest : ℕ
greatest = 4611686018427387903

-- the number of a replica
abbrev pub IsReplica : ℕ → Type 0
IsReplica n = (1 ≤ n) × (n ≤ 64)

-- the tick of a new record, at this clock reading and above this greatest tick of all: none where
-- the ticks are used up
abbrev pub lift : ℤ → ℤ → Option ℤ
lift now top =
    if int_lt top (pos greatest) then Some (int_max (top +ℤ pos 1) (int_min now (pos greatest)))
    else None
