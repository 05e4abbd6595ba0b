use Rattle.std.proofs.Common.{map}
use Rattle.stamp.specs.Numbers.{number_of}
use Rattle.exchange.proofs.HappenLemmas.{sent_none}
use Rattle.exchange.proofs.world.send.Goals as goal

pub returns-in-Err : goal.returns-in-Err
returns-in-Err g c = sent_none (g.A.Archive.state c.args.archive.now)
    (g.A.Archive.state c.since.new.self) (map (λ b. b.records) c.args.pool.now.items)
    (number_of c.args.vector.now) c.args.limit c.in-Err.field-0 _ _ c.in-Err.ensures.asks
