use Rattle.std.proofs.Common.{◌≡◌, map, take}
use Rattle.toml.specs.View.{table_view}
use Rattle.ua_space.specs.Lent.{folder_of}
use Rattle.ua_settings.specs.Reading.{folder_in}
use Rattle.ua_settings.proofs.reading.read_folders.Given as goal

abbrev pub invariant-loop-table : goal.invariant-loop-table
invariant-loop-table l = map folder_of l.folders.items
    ≡ map (λ folder. folder_in (table_view folder.now)) (take l.table-index l.tables)
