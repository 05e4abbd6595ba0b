use Rattle.std.proofs.Common.{◌≡◌, ◌∙◌, inl, Ok, Err, refl, sym, ap, subst}
use Rattle.std.specs.Prelude.{Result}
use Rattle.std.proofs.lemmas.Result.{err_from_is_err_and}
use Rattle.ua_binary.specs.Binary.{node_of}
use Rattle.ua_session.specs.declared.fault.SessionFault.{SessionFault}
use Rattle.ua_session.specs.Fault.{session_fault_status}
use Rattle.ua_session.specs.Sessions.{SessionsState, without_session}
use Rattle.archive.specs.Store.{Done}
use Rattle.historian.specs.declared.service.Service.TheVariants as service
use Rattle.historian.specs.declared.answer.Answer.TheVariants as made
use Rattle.historian.specs.Answers.{Closed}
use Rattle.historian.specs.Requests.{CloseSession}
use Rattle.historian.specs.Services.{called}
use Rattle.historian.proofs.ServicesParts.{close}
use Rattle.historian.proofs.Performing.{performs-unread, performs-given}
use Rattle.historian.proofs.sessions.close_session.Goals as goal

pub returns-in_err-closing_request-clause-performs :
    goal.returns-in_err-closing_request-clause-performs
returns-in_err-closing_request-clause-performs c = λ config now.
    let p = err_from_is_err_and c.from_residual.result c.from_residual.ensures.1 in
    performs-unread {T = Unit {0}} config now
    (node_of c.args.token) c.args.sessions.now service.CloseSession
    (λ _. CloseSession) c.args.request c.in_err-closing_request.field-0.0 c.from_residual.result
    c.in_err-closing_request.ensures (p.1 ∙ ap Err p.2)

pub returns-in-Ok-clause-performs : goal.returns-in-Ok-clause-performs
returns-in-Ok-clause-performs c = λ config now.
    let s = c.args.sessions.now in
    let token = node_of c.args.token in
    let P : Result (Unit {0}) SessionFault → SessionsState → Type 0 =
    λ r n. called s (λ _. (Closed, record s { alive = without_session token s.alive })) r Done
    ≡ (Ok Closed, n) in
    performs-given config now token s c.close.new.self service.CloseSession CloseSession
    c.args.request (close token s) (Ok Closed) (Ok made.Closed)
    c.in_ok-closing_request.ensures (λ R marks. refl)
    (subst (λ r. P r c.close.new.self) c.in-Ok.ensures.answer
    (subst (P (Ok tt)) (sym c.in-Ok.ensures.leaves) refl)) refl

pub returns-in-Err-clause-performs : goal.returns-in-Err-clause-performs
returns-in-Err-clause-performs c = λ config now.
    let s = c.args.sessions.now in
    let token = node_of c.args.token in
    let fault = c.in-Err.fault in
    let P : Result (Unit {0}) SessionFault → SessionsState → Type 0 =
    λ r n. called s (λ _. (Closed, record s { alive = without_session token s.alive })) r Done
    ≡ (Err (session_fault_status fault), n) in
    performs-given config now token s c.close.new.self service.CloseSession CloseSession
    c.args.request (close token s) (Err (session_fault_status fault)) (Err c.code.result)
    c.in_ok-closing_request.ensures (λ R marks. refl)
    (subst (λ r. P r c.close.new.self) c.in-Err.ensures.answer
    (subst (P (Err fault)) (sym c.in-Err.ensures.leaves) refl))
    (inl (ap Err (sym c.code.ensures)))
