use Rattle.std.proofs.Common.{◌≤◌, length, arith, ap, ◌∙◌}
use Rattle.std.proofs.lemmas.Grind.{common_steps}
use Rattle.std.proofs.lemmas.List.{take_all}
use Rattle.std.proofs.lemmas.List.Elements.{filter_map-append}
use Rattle.std.specs.List.{filter_map}
use Rattle.toml.specs.Data.{as_table}
use Rattle.toml.specs.View.{view}
use Rattle.ua_settings.proofs.Tables.{tables_of_values}
use Rattle.ua_settings.proofs.looking.many.Goals as goal

pub loop-value-preserved : goal.loop-value-preserved
loop-value-preserved c = grind (arith, common_steps, filter_map-append)

pub returns : goal.returns
returns c =
    let over : length c.items-values.result.now ≤ c.loop-value.value-index = omega arith in
    c.loop-value.invariant
    ∙ ap (filter_map (λ value. as_table (view value)))
    (take_all c.loop-value.value-index c.items-values.result.now over)
    ∙ tables_of_values c.items-values.result.now
    ∙ ap (filter_map as_table) c.items-values.ensures
