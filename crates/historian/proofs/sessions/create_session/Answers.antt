use Rattle.std.proofs.Common.{◌≡◌, ◌∙◌, Err, List, [], ◌∷◌, map, refl, sym, ap}
use Rattle.std.proofs.lemmas.Result.{err_from_is_err_and}
use Rattle.ua_services.specs.declared.sessions.CreateSessionRequest.{CreateSessionRequest}
use Rattle.ua_services.specs.Endpoints.{EndpointFields, endpoint_fields}
use Rattle.ua_session.specs.Sessions.{with_new, create_answer}
use Rattle.historian.specs.declared.service.Service.TheVariants as service
use Rattle.historian.specs.declared.answer.Answer.TheVariants as made
use Rattle.historian.specs.Answers.{Answer, Created}
use Rattle.historian.specs.Requests.{CreateSession}
use Rattle.historian.specs.Endpoints.{endpoint_of}
use Rattle.historian.proofs.Performing.{performs-unread, performs-starved, performs-refused, performs-done}
use Rattle.historian.proofs.sessions.create_session.Goals as goal

pub returns-in_err-asked-clause-performs : goal.returns-in_err-asked-clause-performs
returns-in_err-asked-clause-performs c = λ config now token set.
    let p = err_from_is_err_and c.from_residual.result c.from_residual.ensures.1 in
    performs-unread config now token c.args.sessions.now service.CreateSession
    (λ (asked : CreateSessionRequest). CreateSession asked.timeout) c.args.request
    c.in_err-asked.field-0.0 c.from_residual.result c.in_err-asked.ensures (p.1 ∙ ap Err p.2)

pub returns-in_err-endpoints-clause-performs : goal.returns-in_err-endpoints-clause-performs
returns-in_err-endpoints-clause-performs c = λ config now token set.
    let p = err_from_is_err_and c.from_residual-in_err-endpoints.result
    c.from_residual-in_err-endpoints.ensures.1 in
    performs-starved config now token c.args.sessions.now service.CreateSession c.args.request p.0
    c.from_residual-in_err-endpoints.result p.2 p.1

pub returns-in_err-session_id-clause-performs : goal.returns-in_err-session_id-clause-performs
returns-in_err-session_id-clause-performs c = λ config now token set.
    let s = c.args.sessions.now in
    let p = err_from_is_err_and c.from_residual-in_err-session_id.result
    c.from_residual-in_err-session_id.ensures.1 in
    let timeout = c.in_ok-asked.asked.timeout in
    performs-refused config now token s c.create.new.self service.CreateSession
    (CreateSession timeout) c.args.request (λ ids. (
      Created (ids.0, (ids.1, (timeout, (endpoint_of config.settings ∷ [], 4194304)))),
      with_new s,
    )) (create_answer s)
    c.in_err-session_id.field-0.0 p.0 c.from_residual-in_err-session_id.result
    c.in_ok-asked.ensures (λ R marks. refl) c.in_err-session_id.ensures.answer
    c.in_err-session_id.ensures.leaves p.2 p.1

pub returns-clause-performs : goal.returns-clause-performs
returns-clause-performs c = λ config now token set.
    let s = c.args.sessions.now in
    let timeout = c.in_ok-asked.asked.timeout in
    let id = c.in_ok-session_id.session_id in
    let given = c.in_ok-session_id.authentication_token in
    let tell = λ (l : List EndpointFields). let r : Answer =
    Created (id, (given, (timeout, (l, 4194304)))) in r in
    let same : endpoint_of config.settings ∷ []
    ≡ map endpoint_fields c.in_ok-endpoints.endpoints.items =
    ap (λ v. let l : List EndpointFields = endpoint_of v ∷ [] in l) set
    ∙ sym c.in_ok-endpoints.ensures.fields in
    performs-done config now token s c.create.new.self service.CreateSession
    (CreateSession timeout) c.args.request (λ ids. (
      Created (ids.0, (ids.1, (timeout, (endpoint_of config.settings ∷ [], 4194304)))),
      with_new s,
    )) (create_answer s)
    (id, given) (made.Created (record {
      session_id = id;
      authentication_token = given;
      timeout = timeout;
      endpoints =
          c.in_ok-endpoints.endpoints;
      max_request_size = 4194304;
    }))
    c.in_ok-asked.ensures (λ R marks. refl) c.in_ok-session_id.ensures.answer
    c.in_ok-session_id.ensures.leaves (ap tell same)
