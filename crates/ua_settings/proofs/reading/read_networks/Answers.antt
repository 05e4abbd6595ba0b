use Rattle.std.proofs.Common.{sym, ◌∙◌}
use Rattle.toml.specs.Data.{as_str}
use Rattle.ua_settings.proofs.Tables.{taken_of_array}
use Rattle.ua_settings.proofs.reading.read_networks.Goals as goal

pub returns-in_ok-networks : goal.returns-in_ok-networks
returns-in_ok-networks c =
    taken_of_array as_str _ c.items.result.now _ (sym c.has_array.ensures ∙ c.if-has_array.true)
    c.items.ensures (c.of.ensures ∙ c.in_ok-networks.ensures)
