use Rattle.std.proofs.Common.{◌∙◌, ◌++◌, ◌∷◌, [], List, take, sym, ap, subst}
use Rattle.std.proofs.lemmas.List.{take_more}
use Rattle.ua_session.specs.declared.audit.UpdateAudit.{UpdateAudit}
use Rattle.ua_server.specs.Logging.{LogsUpdates}
use Rattle.ua_server.proofs.Logged.{one-more}
use Rattle.ua_server.proofs.log.ErrorLog.log_updates.Goals as goal

pub loop-update-preserved : goal.loop-update-preserved
loop-update-preserved g c =
    let updates = c.args.updates.now in
    let place = c.loop-update.update-index in
    let item = c.update-item.result in
    let contents = g.E.Write.contents in
    let gave = g.C.Clock.gave in
    subst (λ (some : List UpdateAudit). LogsUpdates contents gave c.args.from c.args.user.now some
    c.args.self.now c.log_update.new.self)
    (ap (λ (u : UpdateAudit). take place updates ++ u ∷ []) c.update-item.is
    ∙ sym (take_more updates place item c.loop-update-test.true))
    (one-more contents gave c.args.from c.args.user.now (take place updates) item c.args.self.now
    c.loop-update.self c.log_update.new.self c.loop-update.invariant c.log_update.ensures)
