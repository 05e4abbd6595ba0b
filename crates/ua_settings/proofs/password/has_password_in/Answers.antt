use Rattle.std.proofs.Common.{ap, sym, ◌∙◌, map}
use Rattle.std.specs.List.{list_any}
use Rattle.toml.specs.View.{table_view}
use Rattle.ua_settings.specs.Reading.{has_password}
use Rattle.ua_settings.proofs.Mapped.{any_of_mapped}
use Rattle.ua_settings.proofs.password.has_password_in.Goals as goal

pub returns : goal.returns
returns c =
    c.any_has_password.ensures
    ∙ sym (any_of_mapped (λ table. table_view table.now) has_password c.as_slice.result.now)
    ∙ ap (list_any has_password)
    (ap (map (λ table. table_view table.now)) c.as_slice.ensures.value ∙ c.in_ok-users.ensures)
