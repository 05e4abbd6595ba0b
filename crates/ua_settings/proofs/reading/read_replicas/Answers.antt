use Rattle.std.proofs.Common.{sym, ◌∙◌}
use Rattle.ua_settings.specs.Reading.{replica_in}
use Rattle.ua_settings.proofs.Tables.{taken_of_array}
use Rattle.ua_settings.proofs.reading.read_replicas.Goals as goal

pub returns-in_ok-replicas : goal.returns-in_ok-replicas
returns-in_ok-replicas c =
    taken_of_array replica_in _ c.items.result.now _ (sym c.has_array.ensures ∙ c.if-has_array.true)
    c.items.ensures (c.of.ensures ∙ c.in_ok-replicas.ensures)
