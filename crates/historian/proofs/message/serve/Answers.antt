use Rattle.std.proofs.Common.{refl, sym, subst}
use Rattle.ua_binary.specs.Binary.{node_of}
use Rattle.records.specs.Contents.{Content}
use Rattle.archive.specs.Steps.{Fallible}
use Rattle.historian.specs.declared.service.Service.{Service}
use Rattle.historian.specs.declared.service.Service.TheVariants as service
use Rattle.historian.specs.Requests.{call_in}
use Rattle.historian.specs.Services.{MessageOutcome, site_of, answered_call}
use Rattle.historian.specs.Telling.{Performs}
use Rattle.historian.proofs.Performing.{performs-here, responds-finished}
use Rattle.historian.proofs.message.serve.Goals as goal
use Rattle.historian.proofs.message.serve.Goals.{in-GetEndpoints, in-CreateSession, in-ActivateSession, in-CloseSession, in-HistoryUpdate}

pub returns-clause-responds : goal.returns-clause-responds
returns-clause-responds g c =
    let a = g.A.Archive.state c.args.server.now.replica.archive in
    let b = g.A.Archive.state c.match-request.server.replica.archive in
    let config = site_of c.args.server.now.settings a in
    let token = node_of c.args.request.token in
    let S = c.args.sessions.now in
    let does : Service → Content → Fallible MessageOutcome =
    λ service. answered_call config c.args.context.now token (call_in service c.args.request.body) S in
    let P : Service → Type 0 = λ s.
    Performs a b (does s) c.match-request.sessions c.match-request.answer in
    let performs : Performs a b (does c.args.request.service) c.match-request.sessions
    c.match-request.answer = elim c.match-request.branch [
      | in-GetEndpoints w ↦ subst P (sym w.in-GetEndpoints.is)
          (rw (w.server-is, w.sessions-is, w.answer-is)
          (performs-here a (does service.GetEndpoints) S w.get_endpoints-answer.result
          (w.get_endpoints-answer.ensures.performs config c.args.context.now token S refl)))
      | in-CreateSession w ↦ subst P (sym w.in-CreateSession.is)
          (rw (w.server-is, w.sessions-is, w.answer-is)
          (performs-here a (does service.CreateSession) w.create_session-answer.new.sessions
          w.create_session-answer.result
          (w.create_session-answer.ensures.performs config c.args.context.now token refl)))
      | in-ActivateSession w ↦ subst P (sym w.in-ActivateSession.is)
          (rw (w.server-is, w.sessions-is, w.answer-is)
          (performs-here a (does service.ActivateSession) w.activate_session-answer.new.sessions
          w.activate_session-answer.result
          (w.activate_session-answer.ensures.performs config c.args.context.now refl)))
      | in-CloseSession w ↦ subst P (sym w.in-CloseSession.is)
          (rw (w.server-is, w.sessions-is, w.answer-is)
          (performs-here a (does service.CloseSession) w.close_session-answer.new.sessions
          w.close_session-answer.result
          (w.close_session-answer.ensures.performs config c.args.context.now)))
      | in-HistoryUpdate w ↦ subst P (sym w.in-HistoryUpdate.is)
          (rw (w.server-is, w.sessions-is, w.answer-is) (w.update_history-answer.ensures.performs))
    ] in
    responds-finished a b (does c.args.request.service) c.match-request.sessions c.args.context.now
    c.args.context.handle c.match-request.answer c.write_response.result c.write_response.new.body.items
    performs c.write_response.ensures
