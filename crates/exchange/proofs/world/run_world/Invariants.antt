use Rattle.std.proofs.Common.{map}
use Rattle.exchange.specs.Running.{event_of}
use Rattle.exchange.proofs.HappenLemmas.{RanSo}
use Rattle.exchange.proofs.world.run_world.Given as goal

abbrev pub invariant-loop-done : goal.invariant-loop-done
invariant-loop-done g l = RanSo g.A.Archive.state l.fn.replicas l.replicas
    (map (λ b. b.records) l.pool.items) (map event_of l.events) l.done
