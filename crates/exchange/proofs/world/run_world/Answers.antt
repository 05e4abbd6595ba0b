use Rattle.std.proofs.Common.{map, arith}
use Rattle.std.proofs.lemmas.List.{length-map}
use Rattle.exchange.specs.Running.{event_of}
use Rattle.exchange.proofs.HappenLemmas.{ran_all, ran_more, ran_stops, next_mapped}
use Rattle.exchange.proofs.world.run_world.Goals as goal

pub returns-in-Err : goal.returns-in-Err
returns-in-Err g c =
    ran_stops g.A.Archive.state c.args.replicas.now c.loop-done.replicas c.happen.new.replicas
    (map (λ b. b.records) c.loop-done.pool.items) (map (λ b. b.records) c.happen.new.pool.items)
    (map event_of c.args.events.now) c.loop-done.done
    (event_of c.index-events-done.result) c.loop-done.invariant
    (next_mapped event_of c.args.events.now c.loop-done.done c.index-events-done.result
    c.index-events-done.result c.loop-done-test.true c.index-events-done.is) c.in-Err.field-0
    c.in-Err.ensures

pub loop-done-preserved : goal.loop-done-preserved
loop-done-preserved g c =
    ran_more g.A.Archive.state c.args.replicas.now c.loop-done.replicas c.happen.new.replicas
    (map (λ b. b.records) c.loop-done.pool.items) (map (λ b. b.records) c.happen.new.pool.items)
    (map event_of c.args.events.now) c.loop-done.done
    (event_of c.index-events-done.result) c.loop-done.invariant
    (next_mapped event_of c.args.events.now c.loop-done.done c.index-events-done.result
    c.index-events-done.result c.loop-done-test.true c.index-events-done.is) c.in-Ok.ensures

pub returns : goal.returns
returns g c =
    let count = length-map c.args.events.now event_of in
    ran_all g.A.Archive.state c.args.replicas.now c.loop-done.replicas
    (map (λ b. b.records) c.loop-done.pool.items)
    (map event_of c.args.events.now) c.loop-done.done c.loop-done.invariant
    (omega (arith, count, c.loop-done-test.false))
