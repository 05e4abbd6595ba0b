use Rattle.std.proofs.Common.{◌≡◌, map, take}
use Rattle.toml.specs.View.{table_view}
use Rattle.ua_settings.specs.File.{text_at}
use Rattle.ua_settings.proofs.judging.texts.Given as goal

abbrev pub invariant-loop-table : goal.invariant-loop-table
invariant-loop-table l = map (λ text. text.now) l.texts.items
    ≡ map (λ table. text_at l.key (table_view table.now)) (take l.table-index l.tables)
