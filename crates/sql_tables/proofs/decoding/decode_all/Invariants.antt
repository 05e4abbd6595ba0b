use Rattle.std.proofs.Common.{◌≡◌, take}
use Rattle.std.specs.List.{flat_map}
use Rattle.sql_tables.specs.Rows.{records_in}
use Rattle.sql_tables.proofs.decoding.decode_all.Given as goal

abbrev pub invariant-loop-row : goal.invariant-loop-row
invariant-loop-row l = l.all.items ≡ flat_map records_in (take l.row-index l.rows)
