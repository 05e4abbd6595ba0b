use Rattle.std.proofs.Common.{◌≡◌, take}
use Rattle.std.specs.List.{filter_map}
use Rattle.toml.specs.View.{table_view}
use Rattle.ua_settings.specs.Reading.{path_in}
use Rattle.ua_settings.proofs.password.paths_in.Given as goal

abbrev pub invariant-loop-user : goal.invariant-loop-user
invariant-loop-user l = l.paths.items
    ≡ filter_map (λ user. path_in (table_view user.now)) (take l.user-index l.users)
