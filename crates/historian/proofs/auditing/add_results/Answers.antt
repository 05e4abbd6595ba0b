use Rattle.std.proofs.Common.{◌∙◌, ◌<◌, ◌≤◌, ◌++◌, ◌∷◌, [], List, take, length, sym, ap, arith}
use Rattle.std.proofs.lemmas.List.{take_more, length-take-le}
use Rattle.ua_session.specs.declared.audit.UpdateAudit.{UpdateAudit}
use Rattle.ua_services.specs.declared.updates.HistoryUpdateResult.{HistoryUpdateResult}
use Rattle.historian.specs.Auditing.{answered_audits, audits_with}
use Rattle.historian.proofs.Answered.{answered-none, answered-more}
use Rattle.historian.proofs.auditing.add_results.Goals as goal

pub loop-place-init : goal.loop-place-init
loop-place-init c = sym (answered-none c.args.audits.now)

pub loop-place-preserved : goal.loop-place-preserved
loop-place-preserved c =
    let first = c.args.audits.now in
    let results = c.args.results.now in
    let place = c.loop-place.place in
    let answered = c.index-results-place.result in
    let within = c.loop-place-test.true in
    c.add_result.ensures
    ∙ ap (λ (l : List UpdateAudit). audits_with l place answered) c.loop-place.invariant
    ∙ ap (λ n. audits_with (answered_audits first (take place results)) n answered)
    (sym (length-take-le place results (omega (arith, within))))
    ∙ sym (answered-more first (take place results) answered)
    ∙ ap (λ (x : HistoryUpdateResult). answered_audits first (take place results ++ x ∷ []))
    c.index-results-place.is
    ∙ ap (answered_audits first) (sym (take_more results place answered within))
