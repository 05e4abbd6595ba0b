use Rattle.std.proofs.Common.{map, sym}
use Rattle.records.specs.declared.shown.Held.{Held}
use Rattle.hist_update.proofs.Stretches.{listed-refused, listed-begun}
use Rattle.hist_update.proofs.update.delete_listed.Goals as goal

pub returns-in-Some-clause-begins : goal.returns-in-Some-clause-begins
returns-in-Some-clause-begins g c =
    listed-refused (g.A.Archive.state c.args.archive.now) c.args.request.now
    (map (λ (h : Held). h.time) c.args.lives.now) c.in-Some.status c.refused.result
    (sym c.in-Some.ensures.tested) c.refused.ensures

pub returns-clause-begins : goal.returns-clause-begins
returns-clause-begins g c =
    listed-begun (g.A.Archive.state c.args.archive.now)
    (g.A.Archive.state c.delete_lives.new.archive) c.args.request.now c.args.lives.now
    c.delete_lives.result (sym c.in_default.ensures.tested) c.delete_lives.ensures.begins
