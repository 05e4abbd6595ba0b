use Rattle.std.proofs.Common.{◌≡◌, take}
use Rattle.std.specs.List.{filter_map}
use Rattle.ua_settings.specs.Reading.{replica_in}
use Rattle.toml.specs.View.{view}
use Rattle.ua_settings.proofs.looking.replicas_in.Given as goal

abbrev pub invariant-loop-value : goal.invariant-loop-value
invariant-loop-value l = l.replicas.items
    ≡ filter_map (λ value. replica_in (view value)) (take l.value-index l.values)
