use Rattle.std.proofs.Common.{◌∙◌, List, [], map, Err, refl, sym, ap, subst}
use Rattle.std.proofs.lemmas.Result.{err_from_is_err_and}
use Rattle.ua_binary.specs.Binary.{node_of}
use Rattle.ua_services.specs.declared.browsing.BrowseRequest.{BrowseRequest}
use Rattle.ua_services.specs.declared.browsing.BrowseDescription.{BrowseDescription}
use Rattle.ua_services.specs.Browsing.{browse_fields}
use Rattle.archive.specs.Steps.{give}
use Rattle.archive.proofs.Acting.{acts-give}
use Rattle.historian.specs.declared.service.Service.TheVariants as service
use Rattle.historian.specs.Answers.{Response}
use Rattle.historian.specs.Browsing.{browse}
use Rattle.historian.specs.Requests.{Browse, call_in}
use Rattle.historian.specs.Services.{site_of, answered_call}
use Rattle.historian.specs.Telling.{Written}
use Rattle.historian.proofs.Performing.{performs-unread, performs-outside, performs-here, performs-with, responds-refused}
use Rattle.historian.proofs.browsing.browse.Goals as goal

pub returns-in_err-asked : goal.returns-in_err-asked
returns-in_err-asked g c =
    let s = g.A.Archive.state c.args.server.now.replica.archive in
    let config = site_of c.args.server.now.settings s in
    let token = node_of c.args.request.token in
    let sessions = c.args.sessions.now in
    let p = err_from_is_err_and c.from_residual.result c.from_residual.ensures.1 in
    let does = answered_call config c.args.context.now token
    (call_in service.Browse c.args.request.body) sessions in
    responds-refused s s does sessions c.args.context.now c.args.context.handle p.0 c.from_residual.result
    c.args.body.now.items
    (performs-here s does sessions (Err p.0)
    (performs-unread config c.args.context.now token sessions service.Browse
    (λ (asked : BrowseRequest). Browse (map browse_fields asked.nodes.items)) c.args.request.body
    c.in_err-asked.field-0.0 (Err p.0) c.in_err-asked.ensures (ap Err p.2))) p.1

pub returns-in_err-user_of : goal.returns-in_err-user_of
returns-in_err-user_of g c =
    let s = g.A.Archive.state c.args.server.now.replica.archive in
    let config = site_of c.args.server.now.settings s in
    let token = node_of c.args.request.token in
    let sessions = c.args.sessions.now in
    let nodes = map browse_fields c.in_ok-asked.asked.nodes.items in
    let p = err_from_is_err_and c.from_residual-in_err-user_of.result
    c.from_residual-in_err-user_of.ensures.1 in
    let does = answered_call config c.args.context.now token
    (call_in service.Browse c.args.request.body) sessions in
    responds-refused s s does sessions c.args.context.now c.args.context.handle p.0
    c.from_residual-in_err-user_of.result c.args.body.now.items
    (performs-here s does sessions (Err p.0)
    (performs-outside config c.args.context.now token sessions service.Browse (Browse nodes)
    c.args.request.body (λ R user. give (browse config.settings.space nodes, R))
    c.in_err-user_of.field-0.0 p.0 (Err p.0) c.in_ok-asked.ensures (λ R marks. refl)
    (sym c.in_err-user_of.ensures.value) p.2 refl)) p.1

pub returns : goal.returns
returns g c =
    let s = g.A.Archive.state c.args.server.now.replica.archive in
    let config = site_of c.args.server.now.settings s in
    let nodes = map browse_fields c.in_ok-asked.asked.nodes.items in
    let told = browse config.settings.space nodes in
    let T : Response → Type 0 = λ told.
    Written c.args.context.now c.args.context.handle told c.put_browse.result c.put_browse.new.body.items in
    let Q : List BrowseDescription → Type 0 = λ asked.
    T (browse config.settings.space (map browse_fields asked)) in
    performs-with T s s config c.args.context.now (node_of c.args.request.token) c.args.sessions.now
    service.Browse (Browse nodes) c.args.request.body c.in_ok-user_of.field-0.now
    (λ R user. give (browse config.settings.space nodes, R)) c.in_ok-asked.ensures
    (λ R marks. refl) (sym c.in_ok-user_of.ensures.value)
    ([], told, acts-give s told, subst Q c.deref.ensures.value c.put_browse.ensures)
