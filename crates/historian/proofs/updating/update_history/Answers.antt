use Rattle.std.proofs.Common.{◌≡◌, ◌∙◌, List, map, Err, refl, sym, ap, subst}
use Rattle.std.proofs.lemmas.Result.{err_from_is_err_and}
use Rattle.ua_binary.specs.Binary.{node_of}
use Rattle.ua_services.specs.declared.updates.HistoryUpdateRequest.{HistoryUpdateRequest}
use Rattle.ua_services.specs.declared.updates.HistoryUpdateDetails.{HistoryUpdateDetails}
use Rattle.ua_services.specs.Updates.{details_of}
use Rattle.historian.specs.declared.service.Service.TheVariants as service
use Rattle.historian.specs.UserSpaces.{space_for}
use Rattle.historian.specs.Updating.{update_history}
use Rattle.historian.specs.Requests.{HistoryUpdate, call_in}
use Rattle.historian.specs.Services.{site_of, answered_call}
use Rattle.historian.specs.Auditing.{notes_updates, noting, updates_audited}
use Rattle.historian.specs.Telling.{ComesTo, Performs, response_made}
use Rattle.ua_binary.specs.declared.codes.TheConstants.Status.{BAD_OUT_OF_MEMORY}
use Rattle.historian.proofs.Performing.{performs-unread, performs-unknown, performs-starved, performs-updates, performs-here}
use Rattle.historian.proofs.updating.update_history.Goals as goal

pub returns-in_err-asked-clause-performs : goal.returns-in_err-asked-clause-performs
returns-in_err-asked-clause-performs g c =
    let s = g.A.Archive.state c.args.server.now.replica.archive in
    let config = site_of c.args.server.now.settings s in
    let token = node_of c.args.request.token in
    let sessions = c.args.sessions.now in
    let p = err_from_is_err_and c.from_residual.result c.from_residual.ensures.1 in
    performs-here s (answered_call config c.args.now token
    (call_in service.HistoryUpdate c.args.request.body) sessions) sessions
    c.from_residual.result
    (performs-unread config c.args.now token sessions service.HistoryUpdate
    (λ (asked : HistoryUpdateRequest). HistoryUpdate (map details_of asked.details.items))
    c.args.request.body c.in_err-asked.field-0.0 c.from_residual.result
    c.in_err-asked.ensures.asks (p.1 ∙ ap Err p.2))

pub returns-in_err-user-clause-performs : goal.returns-in_err-user-clause-performs
returns-in_err-user-clause-performs g c =
    let s = g.A.Archive.state c.args.server.now.replica.archive in
    let config = site_of c.args.server.now.settings s in
    let token = node_of c.args.request.token in
    let sessions = c.args.sessions.now in
    let asked = map details_of c.in_ok-asked.asked.details.items in
    let p = err_from_is_err_and c.from_residual-in_err-user.result
    c.from_residual-in_err-user.ensures.1 in
    performs-here s (answered_call config c.args.now token
    (call_in service.HistoryUpdate c.args.request.body) sessions) sessions
    c.from_residual-in_err-user.result
    (performs-unknown config c.args.now token sessions asked c.args.request.body
    c.in_err-user.field-0.0 p.0 c.from_residual-in_err-user.result
    c.in_ok-asked.ensures.asks (sym c.in_err-user.ensures.value) p.2 p.1)

pub returns-in_default-clause-performs : goal.returns-in_default-clause-performs
returns-in_default-clause-performs g c =
    let s = g.A.Archive.state c.args.server.now.replica.archive in
    let config = site_of c.args.server.now.settings s in
    let token = node_of c.args.request.token in
    let sessions = c.args.sessions.now in
    let answers = answered_call config c.args.now token
    (call_in service.HistoryUpdate c.args.request.body) sessions in
    subst (λ server.
    Performs s (g.A.Archive.state server.replica.archive) answers sessions (Err BAD_OUT_OF_MEMORY))
    (sym c.in_default.ensures.starved)
    (performs-here s answers sessions (Err BAD_OUT_OF_MEMORY)
    (performs-starved config c.args.now token sessions service.HistoryUpdate c.args.request.body
    BAD_OUT_OF_MEMORY (Err BAD_OUT_OF_MEMORY) refl refl))

pub returns-clause-performs : goal.returns-clause-performs
returns-clause-performs g c =
    let a = g.A.Archive.state c.args.server.now.replica.archive in
    let b = g.A.Archive.state c.update_audited.new.server.replica.archive in
    let config = site_of c.args.server.now.settings a in
    let settings = config.settings in
    let sessions = c.args.sessions.now in
    let user = c.in_ok-user.user.now in
    let done = c.in-Ok.done in
    let Q : List HistoryUpdateDetails → Type 0 = λ details.
    ComesTo a b (update_history a.own (space_for settings user) user c.args.now
    (map details_of details)) done.answer
    × (done.event ≡ updates_audited (notes_updates settings) settings.space user
    (map details_of details) (response_made done.answer)) in
    let so = subst Q c.deref.ensures.value (c.in-Ok.ensures.comes, c.in-Ok.ensures.event) in
    performs-updates a b config c.args.now (node_of c.args.request.token) sessions
    c.note.new.sessions (map details_of c.in_ok-asked.asked.details.items) c.args.request.body user
    done.answer c.in_ok-asked.ensures.asks (sym c.in_ok-user.ensures.value) so.0
    (c.note.ensures ∙ ap (λ e. noting e sessions) so.1)
