use Rattle.std.proofs.Common.{map, get_or, arith}
use Rattle.std.proofs.lemmas.Option.{slice_get-get_or}
use Rattle.exchange.specs.Running.{event_of}
use Rattle.exchange.proofs.HappenLemmas.{happens_at, happens_past}
use Rattle.exchange.proofs.world.happen.Goals as goal

pub returns-then-place-replicas : goal.returns-then-place-replicas
returns-then-place-replicas g c =
    happens_at g.A.Archive.state c.args.replicas.now (map (λ b. b.records) c.args.pool.now.items)
    (event_of c.args.event.now) c.replica-place.result c.replica-place.ensures
    (map (λ b. b.records) c.turn.new.pool.items)
    (get_or c.args.replicas.now c.replica-place.result c.index-replicas-place.result)
    c.turn.new.archive
    (slice_get-get_or c.args.replicas.now c.replica-place.result c.index-replicas-place.result
    c.if-place-replicas.true) c.turn.result c.turn.ensures

pub returns-else-place-replicas : goal.returns-else-place-replicas
returns-else-place-replicas g c =
    happens_past g.A.Archive.state c.args.replicas.now (map (λ b. b.records) c.args.pool.now.items)
    (event_of c.args.event.now) c.replica-place.result c.replica-place.ensures
    (omega (arith, c.if-place-replicas.false))
