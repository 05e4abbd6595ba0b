use Rattle.std.proofs.Common.{◌∙◌, Err, refl, sym, ap, subst}
use Rattle.std.proofs.lemmas.Result.{err_from_is_err_and}
use Rattle.ua_binary.specs.Binary.{node_of}
use Rattle.ua_services.specs.declared.attributes.ReadRequest.{ReadRequest}
use Rattle.ua_services.specs.Attributes.{read_asked}
use Rattle.ua_session.specs.declared.identity.Access.{Access}
use Rattle.ua_session.specs.Users.{access_of}
use Rattle.historian.specs.declared.service.Service.TheVariants as service
use Rattle.historian.specs.Answers.{Response}
use Rattle.historian.specs.Reading.{read}
use Rattle.historian.specs.Requests.{Read, call_in}
use Rattle.historian.specs.Services.{site_of, answered_call}
use Rattle.historian.specs.Telling.{ComesWritten, Written}
use Rattle.historian.specs.UserSpaces.{seen_by, space_for}
use Rattle.historian.proofs.Performing.{performs-unread, performs-outside, performs-here, performs-with, responds-refused}
use Rattle.historian.proofs.reading.read.Goals as goal

pub returns-in_err-asked-clause-responds : goal.returns-in_err-asked-clause-responds
returns-in_err-asked-clause-responds g c =
    let s = g.A.Archive.state c.args.server.now.replica.archive in
    let config = site_of c.args.server.now.settings s in
    let token = node_of c.args.request.token in
    let sessions = c.args.sessions.now in
    let p = err_from_is_err_and c.from_residual.result c.from_residual.ensures.1 in
    let does = answered_call config c.args.context.now token
    (call_in service.Read c.args.request.body) sessions in
    responds-refused s s does sessions c.args.context.now c.args.context.handle p.0 c.from_residual.result
    c.args.body.now.items
    (performs-here s does sessions (Err p.0)
    (performs-unread config c.args.context.now token sessions service.Read
    (λ (asked : ReadRequest). Read (read_asked asked)) c.args.request.body
    c.in_err-asked.field-0.0 (Err p.0) c.in_err-asked.ensures (ap Err p.2))) p.1

pub returns-in_err-user-clause-responds : goal.returns-in_err-user-clause-responds
returns-in_err-user-clause-responds g c =
    let s = g.A.Archive.state c.args.server.now.replica.archive in
    let config = site_of c.args.server.now.settings s in
    let token = node_of c.args.request.token in
    let sessions = c.args.sessions.now in
    let asked = read_asked c.in_ok-asked.asked in
    let p = err_from_is_err_and c.from_residual-in_err-user.result
    c.from_residual-in_err-user.ensures.1 in
    let does = answered_call config c.args.context.now token
    (call_in service.Read c.args.request.body) sessions in
    responds-refused s s does sessions c.args.context.now c.args.context.handle p.0
    c.from_residual-in_err-user.result c.args.body.now.items
    (performs-here s does sessions (Err p.0)
    (performs-outside config c.args.context.now token sessions service.Read (Read asked) c.args.request.body
    (λ R user. read (space_for config.settings user) c.args.context.now asked R) c.in_err-user.field-0.0 p.0
    (Err p.0)
    c.in_ok-asked.ensures (λ R marks. refl) (sym c.in_err-user.ensures.value) p.2 refl)) p.1

pub returns-clause-responds : goal.returns-clause-responds
returns-clause-responds g c =
    let a = g.A.Archive.state c.args.server.now.replica.archive in
    let b = g.A.Archive.state c.put_read.new.server.replica.archive in
    let config = site_of c.args.server.now.settings a in
    let asked = read_asked c.in_ok-asked.asked in
    let bytes = c.put_read.new.body.items in
    let user = c.in_ok-user.user.now in
    let may = c.access_of-access.ensures ∙ ap (λ users. access_of users user) c.users.ensures in
    let Q : Access → Type 0 = λ access.
    ComesWritten a b (read (seen_by config.settings.space access) c.args.context.now asked)
    c.args.context.now c.args.context.handle c.put_read.result bytes in
    performs-with (λ (told : Response).
    Written c.args.context.now c.args.context.handle told c.put_read.result bytes) a b config c.args.context.now
    (node_of c.args.request.token) c.args.sessions.now service.Read
    (Read asked) c.args.request.body user
    (λ R user. read (space_for config.settings user) c.args.context.now asked R) c.in_ok-asked.ensures
    (λ R marks. refl)
    (sym c.in_ok-user.ensures.value)
    (subst Q may c.put_read.ensures.comes)
