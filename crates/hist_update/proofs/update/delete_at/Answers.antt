use Rattle.std.proofs.Common.{sym}
use Rattle.hist_update.proofs.Answering.{times-refused, times-begun}
use Rattle.hist_update.proofs.update.delete_at.Goals as goal

pub returns-in-Some-clause-acts : goal.returns-in-Some-clause-acts
returns-in-Some-clause-acts g c =
    times-refused (g.A.Archive.state c.args.archive.now) c.args.request.now c.args.times.now
    c.in-Some.status c.refused.result (sym c.in-Some.ensures.tested) c.refused.ensures

pub returns-clause-acts : goal.returns-clause-acts
returns-clause-acts g c =
    times-begun (g.A.Archive.state c.args.archive.now)
    (g.A.Archive.state c.delete_all.new.archive) c.args.request.now c.args.times.now
    c.delete_all.result (sym c.in_default.ensures.tested) c.delete_all.ensures.begins
