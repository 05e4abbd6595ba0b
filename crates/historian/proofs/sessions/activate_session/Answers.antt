use Rattle.std.proofs.Common.{◌∙◌, inl, Some, Ok, Err, refl, sym, ap, subst}
use Rattle.std.proofs.lemmas.Result.{err_from_is_err_and}
use Rattle.ua_binary.specs.Binary.{node_of}
use Rattle.ua_binary.specs.Format.{IsOrStarved}
use Rattle.ua_session.specs.declared.fault.SessionFault.TheVariants.{OutOfMemory}
use Rattle.ua_services.specs.declared.sessions.ActivateSessionRequest.{ActivateSessionRequest}
use Rattle.ua_session.specs.Users.{Allowed, claim_of}
use Rattle.ua_session.specs.Sessions.{SessionsState, with_audit, with_user, activate_answer}
use Rattle.ua_session.specs.Fault.{session_fault_status}
use Rattle.archive.specs.Store.{Done}
use Rattle.historian.specs.Services.{activated}
use Rattle.historian.specs.Auditing.{activation_event}
use Rattle.historian.specs.declared.service.Service.TheVariants as service
use Rattle.historian.specs.declared.answer.Answer.TheVariants as made
use Rattle.historian.specs.Answers.{Activated}
use Rattle.historian.specs.Requests.{ActivateSession}
use Rattle.historian.proofs.Performing.{performs-unread, performs-activation, called-done, called-refused}
use Rattle.historian.proofs.sessions.activate_session.Goals as goal

pub returns-in_err-asked-clause-performs : goal.returns-in_err-asked-clause-performs
returns-in_err-asked-clause-performs c = λ config now set.
    let p = err_from_is_err_and c.from_residual.result c.from_residual.ensures.1 in
    performs-unread config now (node_of c.args.token) c.args.sessions.now service.ActivateSession
    (λ (asked : ActivateSessionRequest). ActivateSession (claim_of asked.user_identity))
    c.args.request c.in_err-asked.field-0.0 c.from_residual.result c.in_err-asked.ensures
    (p.1 ∙ ap Err p.2)

pub returns-in-Ok-clause-performs : goal.returns-in-Ok-clause-performs
returns-in-Ok-clause-performs c = λ config now set.
    let s = c.args.sessions.now in
    let token = node_of c.args.token in
    let claim = claim_of c.in_ok-asked.asked.user_identity in
    let user = c.in-Ok.field-0.now in
    let P : Allowed → Type 0 = λ users.
    IsOrStarved OutOfMemory (activate_answer s token users claim) (Ok user) in
    let left : SessionsState = record s { alive = with_user token user s.alive } in
    performs-activation config now token s c.note.new.self left c.args.request claim Done
    (Ok Activated) (Ok made.Activated) c.in_ok-asked.ensures refl
    (called-done s (activated token s) (activate_answer s token config.settings.users claim) user
    (subst P (c.users.ensures ∙ ap (λ v. v.users) (sym set)) c.in-Ok.ensures.activates.answer))
    (c.note.ensures ∙ ap (λ e. with_audit e c.activate.new.self)
    (c.activation_event.ensures (Ok Activated) refl)
    ∙ ap (with_audit (activation_event claim (Ok Activated))) c.in-Ok.ensures.activates.leaves) refl

pub returns-in-Err-clause-performs : goal.returns-in-Err-clause-performs
returns-in-Err-clause-performs c = λ config now set.
    let s = c.args.sessions.now in
    let token = node_of c.args.token in
    let claim = claim_of c.in_ok-asked.asked.user_identity in
    let fault = c.in-Err.fault in
    let P : Allowed → Type 0 = λ users.
    IsOrStarved OutOfMemory (activate_answer s token users claim) (Err fault) in
    let r = called-refused s (activated token s)
    (activate_answer s token config.settings.users claim) fault
    (subst P (c.users.ensures ∙ ap (λ v. v.users) (sym set)) c.in-Err.ensures.activates.answer) in
    performs-activation config now token s c.note-in-Err.new.self s c.args.request claim r.0
    (Err (session_fault_status fault)) (Err c.code-status.result) c.in_ok-asked.ensures r.1 r.2
    (c.note-in-Err.ensures ∙ ap (λ e. with_audit e c.activate.new.self)
    (c.activation_event-in-Err.ensures (Err (session_fault_status fault)) (ap Some (sym c.code-status.ensures)))
    ∙ ap (with_audit (activation_event claim (Err (session_fault_status fault))))
    c.in-Err.ensures.activates.leaves) (inl (ap Err (sym c.code-status.ensures)))
