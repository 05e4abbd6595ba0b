use Rattle.std.proofs.Common.{List, map, ap, ◌∙◌}
use Rattle.ua_binary.specs.declared.codes.Status.{Status}
use Rattle.ua_services.specs.declared.updates.HistoryUpdateResult.{HistoryUpdateResult}
use Rattle.records.specs.declared.shown.Held.{Held}
use Rattle.hist_update.specs.Codes.{first_other}
use Rattle.hist_update.specs.Outcome.{DeleteAt}
use Rattle.hist_update.proofs.Answering.{begins-starved, begins-run}
use Rattle.hist_update.proofs.update.delete_lives.Goals as goal

pub returns-in_default-clause-begins : goal.returns-in_default-clause-begins
returns-in_default-clause-begins g c =
    begins-starved (g.A.Archive.state c.args.archive.now) c.args.request.now first_other
    (map (λ (h : Held). DeleteAt h.time) c.args.lives.now) c.refused.result c.refused.ensures

pub returns-clause-begins : goal.returns-clause-begins
returns-clause-begins g c =
    begins-run (g.A.Archive.state c.args.archive.now)
    (g.A.Archive.state c.delete_each_live.new.archive) c.args.request.now first_other
    (map (λ (h : Held). DeleteAt h.time) c.args.lives.now) c.delete_each_live.new.codes.items
    (record { status = c.first_other.result; operation_results = c.of.result })
    c.delete_each_live.ensures
    (ap (λ (l : List Status). let r : HistoryUpdateResult =
    record { status = c.first_other.result; operation_results = l } in r) c.of.ensures
    ∙ ap (λ (code : Status). let r : HistoryUpdateResult =
    record { status = code; operation_results = c.delete_each_live.new.codes.items } in r)
    (c.first_other.ensures ∙ ap first_other c.deref.ensures.value))
