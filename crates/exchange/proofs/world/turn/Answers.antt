use Rattle.std.proofs.Common.{List, map, subst}
use Rattle.stamp.specs.Numbers.{number_of}
use Rattle.exchange.specs.declared.replica.Batch.{Batch}
use Rattle.exchange.specs.Running.{Turns, came_in, HasSome, operation_of}
use Rattle.exchange.proofs.HappenLemmas.{operates_by, sends_by, delivers_by, restarts_by}
use Rattle.exchange.proofs.world.turn.Goals as goal

pub returns-in-Operation : goal.returns-in-Operation
returns-in-Operation g c =
    rw c.in-Operation.is (operates_by (g.A.Archive.state c.args.archive.now)
    (g.A.Archive.state c.operate.new.archive) (map
    (λ (b : Batch). b.records) c.args.pool.now.items) c.in-Operation.replica
    c.in-Operation.request (operation_of c.in-Operation.operation) c.operate.result
    c.operate.ensures)

pub returns-in-Send : goal.returns-in-Send
returns-in-Send g c =
    rw c.in-Send.is (sends_by (g.A.Archive.state c.args.archive.now)
    (g.A.Archive.state c.send.new.archive) (map
    (λ (b : Batch). b.records) c.args.pool.now.items)
    (map (λ (b : Batch). b.records) c.send.new.pool.items) c.in-Send.replica
    (number_of c.in-Send.vector) c.in-Send.limit c.send.result c.send.ensures)

pub returns-in-Deliver : goal.returns-in-Deliver
returns-in-Deliver g c =
    let turns = subst (λ (l : List Batch).
    Turns (g.A.Archive.state c.args.archive.now) (g.A.Archive.state c.deliver_from.new.archive)
    (came_in (map (λ (b : Batch). b.records) l) c.in-Deliver.batch c.in-Deliver.count)
    (HasSome (map (λ (b : Batch). b.records) l) c.in-Deliver.batch c.in-Deliver.count)
    c.deliver_from.result)
    c.deref.ensures.value c.deliver_from.ensures in
    rw c.in-Deliver.is (delivers_by (g.A.Archive.state c.args.archive.now)
    (g.A.Archive.state c.deliver_from.new.archive)
    (map (λ (b : Batch). b.records) c.args.pool.now.items) c.in-Deliver.replica
    c.in-Deliver.batch c.in-Deliver.count c.deliver_from.result turns)

pub returns-in-Restart : goal.returns-in-Restart
returns-in-Restart g c =
    rw c.in-Restart.is (restarts_by (g.A.Archive.state c.args.archive.now)
    (g.A.Archive.state c.restart.new.archive) (map
    (λ (b : Batch). b.records) c.args.pool.now.items) c.in-Restart.replica c.restart.result
    c.restart.ensures.turns c.restart.ensures.ended)
