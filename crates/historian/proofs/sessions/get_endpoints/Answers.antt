use Rattle.std.proofs.Common.{◌∙◌, Ok, Err, List, [], ◌∷◌, map, refl, sym, ap}
use Rattle.std.proofs.lemmas.Result.{err_from_is_err_and}
use Rattle.ua_services.specs.Endpoints.{EndpointFields, endpoint_fields, endpoints_asked}
use Rattle.historian.specs.declared.service.Service.TheVariants as service
use Rattle.historian.specs.declared.answer.Answer.TheVariants as made
use Rattle.std.specs.Option.{option_copied}
use Rattle.historian.specs.Answers.{Response, Endpoints}
use Rattle.historian.specs.Requests.{GetEndpoints}
use Rattle.historian.specs.Endpoints.{endpoint_of, takes_transport}
use Rattle.historian.proofs.EndpointsParts.{endpoints_for}
use Rattle.historian.proofs.Profiles.{endpoints-none, endpoints-one}
use Rattle.historian.proofs.Performing.{performs-unread, performs-starved, performs-read}
use Rattle.historian.proofs.sessions.get_endpoints.Goals as goal

pub returns-in_err-asked-clause-performs : goal.returns-in_err-asked-clause-performs
returns-in_err-asked-clause-performs c = λ config now token sessions set.
    let p = err_from_is_err_and c.from_residual.result c.from_residual.ensures.1 in
    performs-unread config now token sessions service.GetEndpoints
    (λ asked. GetEndpoints (endpoints_asked asked).1) c.args.request c.in_err-asked.field-0.0
    c.from_residual.result c.in_err-asked.ensures (p.1 ∙ ap Err p.2)

pub returns-then-not-takes_transport-clause-performs :
    goal.returns-then-not-takes_transport-clause-performs
returns-then-not-takes_transport-clause-performs c = λ config now token sessions set.
    let profiles = (endpoints_asked c.in_ok-asked.asked).1 in
    performs-read config now token sessions sessions service.GetEndpoints
    (GetEndpoints profiles) c.args.request [] (Ok
    (Endpoints (endpoints_for config.settings profiles)))
    (Ok (made.Endpoints c.new.result)) c.in_ok-asked.ensures refl
    (λ R. record { does = λ later. refl })
    (ap (λ (l : List EndpointFields). let r : Response = Ok (Endpoints l) in r)
    (endpoints-none config.settings profiles (ap (λ l. takes_transport (map option_copied l))
    (sym c.deref.ensures.value) ∙ sym c.takes_transport.ensures ∙ c.if-not-takes_transport.true)
    ∙ ap (map endpoint_fields) (sym c.new.ensures.items)))

pub returns-in_err-all_endpoints-clause-performs : goal.returns-in_err-all_endpoints-clause-performs
returns-in_err-all_endpoints-clause-performs c = λ config now token sessions set.
    let p = err_from_is_err_and c.from_residual-in_err-all_endpoints.result
    c.from_residual-in_err-all_endpoints.ensures.1 in
    performs-starved config now token sessions service.GetEndpoints c.args.request p.0
    c.from_residual-in_err-all_endpoints.result p.2 p.1

pub returns-clause-performs : goal.returns-clause-performs
returns-clause-performs c = λ config now token sessions set.
    let profiles = (endpoints_asked c.in_ok-asked.asked).1 in
    performs-read config now token sessions sessions service.GetEndpoints
    (GetEndpoints profiles) c.args.request [] (Ok
    (Endpoints (endpoints_for config.settings profiles)))
    (Ok (made.Endpoints c.in_ok-all_endpoints.field-0)) c.in_ok-asked.ensures refl
    (λ R. record { does = λ later. refl })
    (ap (λ (l : List EndpointFields). let r : Response = Ok (Endpoints l) in r)
    (endpoints-one config.settings profiles (ap (λ l. takes_transport (map option_copied l))
    (sym c.deref.ensures.value) ∙ sym c.takes_transport.ensures
    ∙ c.if-not-takes_transport.false) ∙ ap (λ v. let l : List EndpointFields =
    endpoint_of v ∷ [] in l) set ∙ sym c.in_ok-all_endpoints.ensures.fields))
