use Rattle.std.proofs.Common.{◌≡◌, map, take}
use Rattle.toml.specs.View.{table_view}
use Rattle.ua_space.specs.Lent.{entry_of}
use Rattle.ua_settings.specs.Reading.{variable_in}
use Rattle.ua_settings.proofs.reading.read_variables.Given as goal

abbrev pub invariant-loop-table : goal.invariant-loop-table
invariant-loop-table l = map entry_of l.variables.items
    ≡ map (λ variable. variable_in (table_view variable.now)) (take l.table-index l.tables)
