use Rattle.std.specs.Prelude.{⊤}
use Rattle.exchange.proofs.RunLemmas.{restarted}
use Rattle.exchange.proofs.world.restart.Goals as goal

pub returns-clause-turns : goal.returns-clause-turns
returns-clause-turns g c = restarted (g.A.Archive.state c.args.archive.now)
    (g.A.Archive.state c.reload.new.self) c.reload.result (λ u. ⊤) c.reload.ensures.asks
