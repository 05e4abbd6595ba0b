use Rattle.std.proofs.Common.{◌≡◌, ap, subst, ◌∙◌, map, IfOk}
use Rattle.std.specs.List.{filter_map}
use Rattle.toml.specs.View.{table_view}
use Rattle.ua_settings.specs.Reading.{path_in}
use Rattle.ua_settings.proofs.Tables.{filtered_of_mapped}
use Rattle.ua_settings.proofs.password.paths_of.Goals as goal

pub returns : goal.returns
returns c =
    subst (λ list. IfOk c.paths_in.result (λ paths. paths.items ≡ list))
    (filtered_of_mapped path_in (λ table. table_view table.now) c.as_slice.result.now
    ∙ ap (filter_map path_in) (ap (map (λ table. table_view table.now)) c.as_slice.ensures.value
    ∙ c.in_ok-users.ensures)) c.paths_in.ensures
