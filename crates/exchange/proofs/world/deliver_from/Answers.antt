use Rattle.std.proofs.Common.{map, get_or, Some, arith, refl, ap, sym, ◌∙◌}
use Rattle.exchange.proofs.HappenLemmas.{came_some, came_none, next_mapped, past_mapped}
use Rattle.exchange.proofs.world.deliver_from.Goals as goal

pub returns-then-batch-pool : goal.returns-then-batch-pool
returns-then-batch-pool g c = came_some (g.A.Archive.state c.args.archive.now)
    (g.A.Archive.state c.deliver.new.archive)
    (map (λ b. b.records) c.args.pool.now) c.args.batch c.args.count c.as_slice-records.result.now
    c.first_of.result.now c.deliver.result
    (next_mapped (λ b. b.records) c.args.pool.now c.args.batch c.index-pool-batch.result
    (get_or c.args.pool.now c.args.batch c.index-pool-batch.result) c.if-batch-pool.true refl
    ∙ ap Some (sym c.as_slice-records.ensures)) c.first_of.ensures c.deliver.ensures

pub returns-else-batch-pool : goal.returns-else-batch-pool
returns-else-batch-pool g c = came_none (g.A.Archive.state c.args.archive.now)
    (map (λ b. b.records) c.args.pool.now) c.args.batch c.args.count
    (past_mapped (λ b. b.records) c.args.pool.now c.args.batch
    (omega (arith, c.if-batch-pool.false)))
