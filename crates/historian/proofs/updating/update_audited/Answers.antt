use Rattle.std.proofs.Common.{◌≡◌, ◌∙◌, Bool, true, List, map, sym, ap}
use Rattle.std.proofs.lemmas.Simd.{map-map}
use Rattle.ua_services.specs.Updates.{Details, details_of}
use Rattle.ua_space.specs.declared.layout.Layout.{Layout}
use Rattle.historian.specs.Auditing.{asked_audit, notes_updates, updates_audited}
use Rattle.historian.specs.Telling.{response_made}
use Rattle.historian.proofs.updating.update_audited.Goals as goal

pub returns-clause-event : goal.returns-clause-event
returns-clause-event g c =
    let s = c.args.server.now.settings in
    let user = c.args.user.now in
    let details = map details_of c.args.details.now in
    let told = response_made c.update_all-answer.result in
    let noted : notes_updates s ≡ true =
    cc (c.notes_updates.ensures, c.if-not-notes_updates.false) in
    let made : c.in_ok-audits.audits.items ≡ map (asked_audit c.space.result.now) details =
    c.in_ok-audits.ensures
    ∙ sym (map-map (asked_audit c.space.result.now) details_of c.args.details.now) in
    c.update_event-event.ensures c.space.result.now details made
    ∙ ap (λ (l : Layout). updates_audited true l user details told) c.space.ensures
    ∙ ap (λ (b : Bool). updates_audited b s.space user details told) (sym noted)
