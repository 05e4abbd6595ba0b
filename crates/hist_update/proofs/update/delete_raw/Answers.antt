use Rattle.std.proofs.Common.{map, sym, ap, ◌∙◌}
use Rattle.records.specs.declared.shown.Held.{Held}
use Rattle.hist_update.specs.Updates.{refused_update}
use Rattle.hist_update.proofs.Stretches.{stretch-refused, stretch-free, stretch-failed, stretch-listed}
use Rattle.hist_update.proofs.update.delete_raw.Goals as goal

pub returns-in-Some-clause-acts : goal.returns-in-Some-clause-acts
returns-in-Some-clause-acts g c =
    stretch-refused (g.A.Archive.state c.args.archive.now) c.args.request.now c.args.modified
    c.args.start c.args.end c.in-Some.status c.refused.result
    (sym c.in-Some.ensures.refused) c.refused.ensures

pub returns-in-Ok-clause-acts : goal.returns-in-Ok-clause-acts
returns-in-Ok-clause-acts g c =
    stretch-free (g.A.Archive.state c.args.archive.now)
    (g.A.Archive.state c.delete_listed.new.archive) c.args.request.now c.args.modified
    c.args.start c.args.end c.delete_listed.result (sym c.in_default.ensures.refused)
    (stretch-listed (g.A.Archive.state c.args.archive.now)
    (g.A.Archive.state c.list_lives.new.archive)
    (g.A.Archive.state c.delete_listed.new.archive) c.in-Ok.lives (λ v. v.items)
    (map (λ (h : Held). h.time) c.deref.result.now)
    c.args.request.now c.args.start.0 c.args.end.0 c.moment_of.result c.last_of-last.result
    c.delete_listed.result c.in-Ok.ensures c.moment_of.ensures c.last_of-last.ensures
    (ap (map (λ (h : Held). h.time)) c.deref.ensures.value) c.delete_listed.ensures.begins)

pub returns-in-Err-clause-acts : goal.returns-in-Err-clause-acts
returns-in-Err-clause-acts g c =
    stretch-free (g.A.Archive.state c.args.archive.now)
    (g.A.Archive.state c.list_lives.new.archive) c.args.request.now c.args.modified c.args.start
    c.args.end c.refused-in-Err.result (sym c.in_default.ensures.refused)
    (stretch-failed (g.A.Archive.state c.args.archive.now)
    (g.A.Archive.state c.list_lives.new.archive) c.in-Err.fault _ c.args.request.now
    c.args.start.0 c.args.end.0 c.refused-in-Err.result c.in-Err.ensures
    (c.refused-in-Err.ensures ∙ ap refused_update c.status.ensures))
