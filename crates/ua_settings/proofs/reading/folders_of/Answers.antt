use Rattle.std.proofs.Common.{◌≡◌, map, ap, sym, subst, ◌∙◌, IfOk}
use Rattle.toml.specs.View.{table_view}
use Rattle.ua_space.specs.Lent.{folder_of}
use Rattle.ua_settings.specs.Reading.{folder_in}
use Rattle.ua_settings.proofs.Plans.{map_twice}
use Rattle.ua_settings.proofs.reading.folders_of.Goals as goal

pub returns : goal.returns
returns c =
    subst (λ list. IfOk c.read_folders.result (λ folders. map folder_of folders.items ≡ list))
    (sym (map_twice folder_in (λ table. table_view table.now) c.as_slice.result.now)
    ∙ ap (map folder_in) (ap (map (λ table. table_view table.now)) c.as_slice.ensures.value
    ∙ c.in_ok-tables.ensures))
    c.read_folders.ensures
