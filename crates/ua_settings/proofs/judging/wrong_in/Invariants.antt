use Rattle.std.proofs.Common.{◌≡◌, ◌+◌, map, drop}
use Rattle.toml.specs.View.{table_view}
use Rattle.ua_settings.specs.Judging.{wrong_from}
use Rattle.ua_settings.specs.Keys.{known_of}
use Rattle.ua_settings.proofs.judging.wrong_in.Given as goal

abbrev pub invariant-loop-i : goal.invariant-loop-i
invariant-loop-i l = wrong_from (known_of l.known) l.wrong l.section 1
    (map (λ table. table_view table.now) l.tables)
    ≡ wrong_from (known_of l.known) l.wrong l.section (l.i + 1)
    (drop l.i (map (λ table. table_view table.now) l.tables))
