use Rattle.std.proofs.Common.{◌≡◌, map, ap, sym, subst, ◌∙◌, IfOk}
use Rattle.toml.specs.View.{table_view}
use Rattle.ua_space.specs.Lent.{entry_of}
use Rattle.ua_settings.specs.Reading.{variable_in}
use Rattle.ua_settings.proofs.Plans.{map_twice}
use Rattle.ua_settings.proofs.reading.variables_of.Goals as goal

pub returns : goal.returns
returns c =
    subst (λ list. IfOk c.read_variables.result (λ variables. map entry_of variables.items ≡ list))
    (sym (map_twice variable_in (λ table. table_view table.now) c.as_slice.result.now)
    ∙ ap (map variable_in) (ap (map (λ table. table_view table.now)) c.as_slice.ensures.value
    ∙ c.in_ok-tables.ensures))
    c.read_variables.ensures
