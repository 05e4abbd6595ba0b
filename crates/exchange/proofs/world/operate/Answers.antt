use Rattle.std.proofs.Common.{rules}
use Rattle.exchange.specs.Running.{operation_of, IsClear}
use Rattle.hist_update.specs.Laws.{IsBad}
use Rattle.exchange.proofs.RunLemmas.{operated, hindered}
use Rattle.exchange.proofs.world.operate.Goals as goal

pub returns-then-is_clear : goal.returns-then-is_clear
returns-then-is_clear g c =
    let clear : IsClear c.code_of.result c.faults-before.result c.faults-after.result =
    c.is_clear.ensures.clear (search rules) in
    operated (g.A.Archive.state c.args.archive.now)
    (g.A.Archive.state c.perform-told.new.archive) c.args.request.now
    (operation_of c.args.operation.now) c.perform-told.ensures.0 c.perform-told.result
    c.perform-told.ensures.1
    (rw (c.code_of.ensures, c.faults-before.ensures, c.faults-after.ensures) at clear)

pub returns : goal.returns
returns g c =
    let bad : IsBad c.code_of.result = c.is_clear.ensures.bad (search rules) in
    hindered (g.A.Archive.state c.args.archive.now)
    (g.A.Archive.state c.perform-told.new.archive) c.args.request.now
    (operation_of c.args.operation.now) c.perform-told.ensures.0 c.perform-told.result
    c.perform-told.ensures.1
    (rw c.code_of.ensures at bad) _
