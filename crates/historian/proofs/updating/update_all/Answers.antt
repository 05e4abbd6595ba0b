use Rattle.std.proofs.Common.{◌≡◌, ◌∙◌, List, map, length, Err, Some, None, refl, sym, ap, subst}
use Rattle.std.specs.Prelude.{Option}
use Rattle.std.proofs.lemmas.List.{length-map}
use Rattle.ua_binary.specs.declared.codes.Status.{Status}
use Rattle.ua_services.specs.Updates.{details_of}
use Rattle.archive.specs.Store.{StepResult}
use Rattle.archive.specs.Steps.{Refines, each}
use Rattle.historian.specs.Answers.{Updated as AllUpdated}
use Rattle.hist_update.specs.Codes.{list_refusal}
use Rattle.historian.specs.Reading.{unless_refused, answer_items}
use Rattle.historian.specs.UserSpaces.{UserSpace, space_for}
use Rattle.historian.specs.Updating.{update_item, update_history}
use Rattle.historian.proofs.Items.{acts-refused, acts-wanting, acts-items}
use Rattle.historian.proofs.updating.update_all.Goals as goal

pub returns-in-Some-clause-comes : goal.returns-in-Some-clause-comes
returns-in-Some-clause-comes g c =
    let s = g.A.Archive.state c.args.server.now.replica.archive in
    let user = c.args.user.now in
    let space = space_for c.args.server.now.settings user in
    let details = map details_of c.args.details.now in
    let refused : list_refusal 100 (length details) ≡ Some c.in-Some.status =
    ap (list_refusal 100) (length-map c.args.details.now details_of)
    ∙ sym c.list_refusal.ensures ∙ c.in-Some.is in
    acts-refused s (update_history s.own space user c.args.now details) c.in-Some.status
    (λ R marks. ap (λ (o : Option Status).
    unless_refused o R (answer_items AllUpdated
    (update_item s.own space user c.args.now) details R) marks) refused)

pub returns-in_default-with_capacity-clause-comes :
    goal.returns-in_default-with_capacity-clause-comes
returns-in_default-with_capacity-clause-comes g c =
    let s = g.A.Archive.state c.args.server.now.replica.archive in
    let user = c.args.user.now in
    let space = space_for c.args.server.now.settings user in
    let details = map details_of c.args.details.now in
    let taken : list_refusal 100 (length details) ≡ None =
    ap (list_refusal 100) (length-map c.args.details.now details_of)
    ∙ sym c.list_refusal.ensures ∙ c.in_default.is in
    acts-wanting s (update_history s.own space user c.args.now details) AllUpdated
    (update_item s.own space user c.args.now) details
    (λ R marks. ap (λ (o : Option Status).
    unless_refused o R (answer_items AllUpdated
    (update_item s.own space user c.args.now) details R) marks) taken)

pub returns-clause-comes : goal.returns-clause-comes
returns-clause-comes g c =
    let a = g.A.Archive.state c.args.server.now.replica.archive in
    let b = g.A.Archive.state c.update_items.new.archive in
    let user = c.args.user.now in
    let space = space_for c.args.server.now.settings user in
    let details = map details_of c.args.details.now in
    let taken : list_refusal 100 (length details) ≡ None =
    ap (list_refusal 100) (length-map c.args.details.now details_of)
    ∙ sym c.list_refusal.ensures ∙ c.in_default.is in
    let P : UserSpace → Type 0 = λ space.
    (used : List StepResult)
    × Refines a b used (each (update_item a.own space user c.args.now) details)
    c.update_items.new.results.items in
    acts-items a b (update_history a.own space user c.args.now details) AllUpdated
    (update_item a.own space user c.args.now) details c.update_items.new.results.items
    (λ R marks. ap (λ (o : Option Status).
    unless_refused o R (answer_items AllUpdated
    (update_item a.own space user c.args.now) details R) marks) taken)
    (subst P c.seen_by-seen.ensures c.update_items.ensures.acts)
