use Rattle.std.proofs.Common.{arith, subst}
use Rattle.std.proofs.lemmas.List.{take_all}
use Rattle.exchange.proofs.RunLemmas.{Learned, learned_more, learned_stopped, learned_all, learned_ended}
use Rattle.exchange.proofs.world.deliver.Goals as goal

pub returns-then-not-is_lawful : goal.returns-then-not-is_lawful
returns-then-not-is_lawful g c = learned_ended (g.A.Archive.state c.args.archive.now)
    (g.A.Archive.state c.loop-held.archive) c.args.records.now c.loop-held.held-index _
    c.loop-held.invariant

pub returns-in-Err : goal.returns-in-Err
returns-in-Err g c = learned_stopped (g.A.Archive.state c.args.archive.now)
    (g.A.Archive.state c.loop-held.archive)
    (g.A.Archive.state c.learn.new.self) c.args.records.now c.loop-held.held-index
    c.held-item.result c.held-item.result c.loop-held.invariant c.loop-held-test.true c.held-item.is
    c.in-Err.cause c.ended_by.result c.ended_by.ensures c.in-Err.ensures.learns

pub loop-held-preserved : goal.loop-held-preserved
loop-held-preserved g c = learned_more (g.A.Archive.state c.args.archive.now)
    (g.A.Archive.state c.loop-held.archive)
    (g.A.Archive.state c.learn.new.self) c.args.records.now c.loop-held.held-index
    c.held-item.result c.held-item.result c.loop-held.invariant c.loop-held-test.true c.held-item.is
    c.in-Ok.field-0 c.in-Ok.ensures.learns

pub returns : goal.returns
returns g c = learned_all (g.A.Archive.state c.args.archive.now)
    (g.A.Archive.state c.loop-held.archive) c.args.records.now
    (subst (Learned (g.A.Archive.state c.args.archive.now) (g.A.Archive.state c.loop-held.archive))
    (take_all c.loop-held.held-index c.args.records.now (omega (arith, c.loop-held-test.false)))
    c.loop-held.invariant)
