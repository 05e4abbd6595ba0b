use Rattle.std.proofs.Common.{◌≡◌, ◌∙◌, Result, ap, subst, List, ℕ}
use Rattle.ua_binary.specs.declared.codes.Status.{Status}
use Rattle.ua_binary.specs.declared.codes.TheConstants.Status.{BAD_OUT_OF_MEMORY}
use Rattle.ua_channel.specs.Taking.{ChannelState}
use Rattle.archive.specs.Steps.{Refines}
use Rattle.historian.specs.Answers.{TellsResponse, service_fault}
use Rattle.historian.specs.Requests.{Request, handle_of}
use Rattle.historian.specs.Services.{site_of, answered_request}
use Rattle.ua_connection.specs.Turns.{SendsTurn}
use Rattle.ua_connection.proofs.Steps.{sends-response, sends-starved}
use Rattle.ua_connection.proofs.responding.respond.Goals as goal

pub returns-in-Ok-send_fitting-clause-answered : goal.returns-in-Ok-send_fitting-clause-answered
returns-in-Ok-send_fitting-clause-answered g c client =
    let done = c.in-Ok.ensures.answers in
    let state = g.A.Archive.state in
    let config = site_of c.args.server.now.settings (state c.args.server.now.replica.archive) in
    let P : Result Request Status → Type 0 =
    λ r. Refines (state c.args.server.now.replica.archive)
    (state c.answer_message.new.server.replica.archive) done.0
    (answered_request config c.args.message.now r c.args.sessions.now)
    (done.1, c.answer_message.new.sessions) in
    let handle : c.handle-handle.result ≡ handle_of c.args.message.bytes.now =
    c.handle-handle.ensures ∙ c.read-request.ensures.handle in
    sends-response (state c.args.server.now.replica.archive)
    (state c.answer_message.new.server.replica.archive) config client c.args.sessions.now
    c.args.channel.now c.send_fitting.new.channel c.args.message.request_id
    c.args.message.bytes.now c.args.message.now c.handle-handle.result
    done.0 done.1 c.answer_message.new.sessions c.args.out.now.items c.send_fitting.new.out.items
    c.answer_message.new.body.items handle
    (subst (λ (h : ℕ). TellsResponse c.args.message.now h done.1 c.answer_message.new.body.items)
    c.read-request.ensures.handle done.3)
    (subst P c.read-request.ensures.request done.2) c.in-Ok-send_fitting.ensures.0
    c.in-Ok-send_fitting.ensures.1

pub returns-in-Err-send_fitting-clause-answered : goal.returns-in-Err-send_fitting-clause-answered
returns-in-Err-send_fitting-clause-answered g c client =
    let done = c.answer_message.ensures.answers in
    let state = g.A.Archive.state in
    let config = site_of c.args.server.now.settings (state c.args.server.now.replica.archive) in
    let R : Result Request Status → Type 0 =
    λ r. Refines (state c.args.server.now.replica.archive)
    (state c.answer_message.new.server.replica.archive) done.0
    (answered_request config c.args.message.now r c.args.sessions.now)
    (done.1, c.answer_message.new.sessions) in
    let is : c.handle-handle.result ≡ handle_of c.args.message.bytes.now =
    c.handle-handle.ensures ∙ c.read-request.ensures.handle in
    let handle = c.handle-handle.result in
    let body = service_fault c.args.message.now handle BAD_OUT_OF_MEMORY in
    let unsent = c.in-Err-send_fitting.ensures in
    let P : List ℕ → Type 0 = λ front.
    SendsTurn c.args.channel.now c.args.message.request_id body c.send_starved.result front
    c.send_starved.new.out.items c.send_starved.new.channel in
    let Q : ChannelState → Type 0 =
    λ s. SendsTurn s c.args.message.request_id body c.send_starved.result
    c.send_fitting.new.out.items c.send_starved.new.out.items c.send_starved.new.channel in
    sends-starved (state c.args.server.now.replica.archive)
    (state c.answer_message.new.server.replica.archive) config client c.args.sessions.now
    c.args.channel.now c.send_starved.new.channel c.args.message.request_id
    c.args.message.bytes.now c.args.message.now handle
    done.0 (done.1, c.answer_message.new.sessions) c.args.out.now.items c.send_starved.new.out.items
    c.send_starved.result is (subst R c.read-request.ensures.request done.2)
    (subst P unsent.1 (subst Q unsent.2 c.send_starved.ensures.sends))

pub returns-in-Err-clause-answered : goal.returns-in-Err-clause-answered
returns-in-Err-clause-answered g c client =
    let done = c.answer_message.ensures.answers in
    let state = g.A.Archive.state in
    let config = site_of c.args.server.now.settings (state c.args.server.now.replica.archive) in
    let R : Result Request Status → Type 0 =
    λ r. Refines (state c.args.server.now.replica.archive)
    (state c.answer_message.new.server.replica.archive) done.0
    (answered_request config c.args.message.now r c.args.sessions.now)
    (done.1, c.answer_message.new.sessions) in
    let is : c.handle-handle.result ≡ handle_of c.args.message.bytes.now =
    c.handle-handle.ensures ∙ c.read-request.ensures.handle in
    sends-starved (state c.args.server.now.replica.archive)
    (state c.answer_message.new.server.replica.archive) config client c.args.sessions.now
    c.args.channel.now c.send_starved-in-Err.new.channel c.args.message.request_id
    c.args.message.bytes.now c.args.message.now c.handle-handle.result
    done.0 (done.1, c.answer_message.new.sessions) c.args.out.now.items
    c.send_starved-in-Err.new.out.items c.send_starved-in-Err.result is
    (subst R c.read-request.ensures.request done.2) c.send_starved-in-Err.ensures.sends
