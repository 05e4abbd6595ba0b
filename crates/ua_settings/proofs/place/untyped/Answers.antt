use Rattle.std.proofs.Common.{◌+◌, not, codes, is_some, option_map, sym, ap, ◌∙◌}
use Rattle.toml.specs.View.{table_view}
use Rattle.ua_space.specs.Plan.{type_number}
use Rattle.ua_settings.specs.File.{text_at}
use Rattle.ua_settings.proofs.Mapped.{first_mapped}
use Rattle.ua_settings.proofs.place.untyped.Goals as goal

pub returns-in-Some : goal.returns-in-Some
returns-in-Some c =
    sym (first_mapped (λ table. table_view table.now)
    (λ v. not (is_some (type_number (text_at (codes "type") v)))) c.args.variables.now
    ∙ ap (option_map (λ k. k + 1)) (sym c.first_untyped.ensures ∙ c.in-Some.is))

pub returns-in-None : goal.returns-in-None
returns-in-None c =
    sym (first_mapped (λ table. table_view table.now)
    (λ v. not (is_some (type_number (text_at (codes "type") v)))) c.args.variables.now
    ∙ ap (option_map (λ k. k + 1)) (sym c.first_untyped.ensures ∙ c.in-None.is))
