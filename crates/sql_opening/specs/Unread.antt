-- Rows of format 1 that can't be put into records2.
use Rattle.std.specs.Prelude.{◌≡◌}
use Rattle.sqlite_value.specs.Order.{Row}
use Rattle.sql_tables.specs.declared.writes.Cells.{Cells}
use Rattle.sql_tables.specs.State.{shown_of}
use Rattle.sql_tables.specs.Words.{row_of_cells}

-- no whole numbers and bytes are the columns of this row
abbrev pub IsNoCells : Row → Type 0
IsNoCells row = (c : Cells) → shown_of row ≡ row_of_cells c → ⊥
