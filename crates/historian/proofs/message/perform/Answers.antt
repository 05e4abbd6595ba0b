use Rattle.std.proofs.Common.{Ok, Err, Result, refl, sym, subst}
use Rattle.ua_binary.specs.declared.codes.Status.{Status}
use Rattle.historian.specs.declared.service.ServiceRequest.{ServiceRequest as Opened}
use Rattle.historian.specs.Services.{site_of, answered_call, answered_request}
use Rattle.historian.specs.Requests.{call_in}
use Rattle.ua_binary.specs.Binary.{node_of}
use Rattle.historian.specs.Telling.{Performs, Responds, asked_of}
use Rattle.historian.proofs.Performing.{performs-none, responds-refused}
use Rattle.historian.proofs.message.perform.Goals as goal

pub returns-in-Err-clause-responds : goal.returns-in-Err-clause-responds
returns-in-Err-clause-responds g c =
    let s = g.A.Archive.state c.args.server.now.replica.archive in
    let config = site_of c.args.server.now.settings s in
    let does = answered_request config c.args.now (asked_of c.args.message.request)
    c.args.sessions.now in
    let P : Result Opened Status → Type 0 =
    λ request. Performs s s (answered_request config c.args.now
    (asked_of request) c.args.sessions.now) c.args.sessions.now (Err c.in-Err.status) in
    responds-refused s s does c.args.sessions.now c.args.now c.args.message.handle c.in-Err.status
    (Err c.in-Err.status) c.args.body.now.items
    (subst P (sym c.in-Err.is) (performs-none s config c.args.now c.args.sessions.now
    c.in-Err.status (Err c.in-Err.status) refl)) refl

pub returns-in-Ok-clause-responds : goal.returns-in-Ok-clause-responds
returns-in-Ok-clause-responds g c =
    let a = g.A.Archive.state c.args.server.now.replica.archive in
    let b = g.A.Archive.state c.serve.new.server.replica.archive in
    let config = site_of c.args.server.now.settings a in
    let P : Result Opened Status → Type 0 = λ request.
    Responds a b (answered_request config c.args.now (asked_of request) c.args.sessions.now)
    c.serve.new.sessions c.args.now
    c.args.message.handle c.serve.result c.serve.new.body.items in
    let Q : _ → Type 0 = λ handle.
    Responds a b (answered_request config c.args.now
    (asked_of (Ok c.in-Ok.request)) c.args.sessions.now) c.serve.new.sessions
    c.args.now handle c.serve.result c.serve.new.body.items in
    let R : Opened → Type 0 = λ request.
    Responds a b (answered_call config c.args.now (node_of request.token)
    (call_in request.service request.body) c.args.sessions.now)
    c.serve.new.sessions c.args.now c.handle-handle.result c.serve.result c.serve.new.body.items in
    let (used, told, acts, tells) =
    subst P (sym c.in-Ok.is) (subst Q c.handle-handle.ensures
    (subst R c.in-Ok.request-is c.serve.ensures.responds)) in
    (used, told, acts, tells)
