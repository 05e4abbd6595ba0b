use Rattle.hist_update.proofs.Stretches.{listed}
use Rattle.hist_update.proofs.update.list_lives.Goals as goal

pub returns : goal.returns
returns g c =
    listed (g.A.Archive.state c.args.archive.now) (g.A.Archive.state c.vector.new.self)
    (g.A.Archive.state c.range.new.self) c.in_ok-all.all c.args.node.now c.args.from c.args.to
    (λ v. v.items) c.range.result c.in_ok-all.ensures.asks c.range.ensures.asks
