use Rattle.std.proofs.Common.{◌≡◌, take}
use Rattle.std.specs.List.{flat_map}
use Rattle.sql_tables.specs.Currents.{helds_in}
use Rattle.sql_reading.proofs.currents.helds_in.Given as goal

abbrev pub invariant-loop-row : goal.invariant-loop-row
invariant-loop-row l = l.all.items ≡ flat_map helds_in (take l.row-index l.rows)
