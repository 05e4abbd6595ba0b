use Rattle.std.proofs.Common.{◌∙◌, List, map, Err, refl, sym, ap}
use Rattle.std.proofs.lemmas.Result.{err_from_is_err_and}
use Rattle.ua_binary.specs.Binary.{node_of}
use Rattle.ua_services.specs.declared.history.HistoryReadRequest.{HistoryReadRequest}
use Rattle.ua_services.specs.History.{history_asked}
use Rattle.historian.specs.declared.service.Service.TheVariants as service
use Rattle.historian.specs.Answers.{Response}
use Rattle.historian.specs.Reading.{read_history}
use Rattle.historian.specs.Requests.{HistoryRead, call_in}
use Rattle.historian.specs.Services.{site_of, answered_call}
use Rattle.historian.specs.Telling.{Written}
use Rattle.historian.proofs.Performing.{performs-unread, performs-outside, performs-here, performs-with, responds-refused}
use Rattle.historian.proofs.histories.read_history.Goals as goal

pub returns-in_err-asked-clause-responds : goal.returns-in_err-asked-clause-responds
returns-in_err-asked-clause-responds g c =
    let s = g.A.Archive.state c.args.server.now.replica.archive in
    let config = site_of c.args.server.now.settings s in
    let token = node_of c.args.request.token in
    let sessions = c.args.sessions.now in
    let p = err_from_is_err_and c.from_residual.result c.from_residual.ensures.1 in
    let does = answered_call config c.args.context.now token
    (call_in service.HistoryRead c.args.request.body) sessions in
    responds-refused s s does sessions c.args.context.now c.args.context.handle p.0 c.from_residual.result
    c.args.body.now.items
    (performs-here s does sessions (Err p.0)
    (performs-unread config c.args.context.now token sessions service.HistoryRead
    (λ (asked : HistoryReadRequest). HistoryRead (history_asked asked)) c.args.request.body
    c.in_err-asked.field-0.0 (Err p.0) c.in_err-asked.ensures (ap Err p.2))) p.1

pub returns-in_err-user_of-clause-responds : goal.returns-in_err-user_of-clause-responds
returns-in_err-user_of-clause-responds g c =
    let s = g.A.Archive.state c.args.server.now.replica.archive in
    let config = site_of c.args.server.now.settings s in
    let token = node_of c.args.request.token in
    let sessions = c.args.sessions.now in
    let asked = history_asked c.in_ok-asked.asked in
    let p = err_from_is_err_and c.from_residual-in_err-user_of.result
    c.from_residual-in_err-user_of.ensures.1 in
    let does = answered_call config c.args.context.now token
    (call_in service.HistoryRead c.args.request.body) sessions in
    responds-refused s s does sessions c.args.context.now c.args.context.handle p.0
    c.from_residual-in_err-user_of.result c.args.body.now.items
    (performs-here s does sessions (Err p.0)
    (performs-outside config c.args.context.now token sessions service.HistoryRead (HistoryRead asked)
    c.args.request.body (λ R user. read_history config.id config.settings.space asked R)
    c.in_err-user_of.field-0.0 p.0 (Err p.0) c.in_ok-asked.ensures (λ R marks. refl)
    (sym c.in_err-user_of.ensures.value) p.2 refl)) p.1

pub returns-clause-responds : goal.returns-clause-responds
returns-clause-responds g c =
    let a = g.A.Archive.state c.args.server.now.replica.archive in
    let b = g.A.Archive.state c.put_read_history.new.server.replica.archive in
    let config = site_of c.args.server.now.settings a in
    let asked = history_asked c.in_ok-asked.asked in
    performs-with (λ (told : Response). Written c.args.context.now c.args.context.handle told
    c.put_read_history.result c.put_read_history.new.body.items) a b config c.args.context.now
    (node_of c.args.request.token) c.args.sessions.now service.HistoryRead (HistoryRead asked)
    c.args.request.body c.in_ok-user_of.field-0.now
    (λ R user. read_history config.id config.settings.space asked R) c.in_ok-asked.ensures
    (λ R marks. refl) (sym c.in_ok-user_of.ensures.value) c.put_read_history.ensures.comes
