use Rattle.std.proofs.Common.{◌≡◌, ◌∙◌, ◌∷◌, Some, None, sym, ap}
use Rattle.std.specs.Option.{option_map}
use Rattle.ua_binary.specs.Binary.{node_of}
use Rattle.ua_services.specs.Updates.{details_of}
use Rattle.archive.specs.Steps.{give}
use Rattle.archive.specs.Store.{Done, NoMemory}
use Rattle.historian.specs.UserSpaces.{user_space_of}
use Rattle.historian.specs.Updating.{node_asked, type_granted, update_of, asked_for, update_item}
use Rattle.historian.proofs.UpdatingParts.{update_by}
use Rattle.historian.proofs.Items.{acts-none, acts-starved, acts-past}
use Rattle.historian.proofs.Updates.{update-for}
use Rattle.historian.proofs.updating.update_item.Goals as goal

pub returns-in_default-clause-acts : goal.returns-in_default-clause-acts
returns-in_default-clause-acts g c =
    let s = g.A.Archive.state c.args.archive.now in
    let space = user_space_of c.args.seen in
    let details = details_of c.args.details.now in
    let request = asked_for c.args.terms.user.now c.args.terms.now in
    let node : node_asked details ≡ None =
    sym c.node_asked.ensures ∙ ap (option_map node_of) c.in_default.is in
    acts-none s (update_item s.own space c.args.terms.user.now c.args.terms.now details) c.refused.result
    (λ R marks.
    ap (λ o. update_by s.own request details R (type_granted space o) marks) node
    ∙ ap (λ x. give (x, R) marks) (sym c.refused.ensures.told))

pub returns-in-Err-clause-acts : goal.returns-in-Err-clause-acts
returns-in-Err-clause-acts g c =
    let s = g.A.Archive.state c.args.archive.now in
    let space = user_space_of c.args.seen in
    let details = details_of c.args.details.now in
    let request = asked_for c.args.terms.user.now c.args.terms.now in
    let node : node_asked details ≡ Some (node_of c.in-Some.node) =
    sym c.node_asked.ensures ∙ ap (option_map node_of) c.in-Some.is in
    acts-none s (update_item s.own space c.args.terms.user.now c.args.terms.now details) c.refused-in-Err.result
    (λ R marks.
    ap (λ o. update_by s.own request details R (type_granted space o) marks) node
    ∙ ap (λ t. update_by s.own request details R t marks) (sym c.type_of.ensures.told ∙ c.in-Err.is)
    ∙ ap (λ x. give (x, R) marks) (sym c.refused-in-Err.ensures.told))

pub returns-in-Err-asked_for-clause-acts : goal.returns-in-Err-asked_for-clause-acts
returns-in-Err-asked_for-clause-acts g c =
    let s = g.A.Archive.state c.args.archive.now in
    let space = user_space_of c.args.seen in
    let details = details_of c.args.details.now in
    let request = asked_for c.args.terms.user.now c.args.terms.now in
    let node : node_asked details ≡ Some (node_of c.in-Some.node) =
    sym c.node_asked.ensures ∙ ap (option_map node_of) c.in-Some.is in
    acts-starved s (update_item s.own space c.args.terms.user.now c.args.terms.now details)
    c.refused-in-Err-asked_for.result (λ R later.
    ap (λ o. update_by s.own request details R (type_granted space o) (NoMemory ∷ later)) node
    ∙ ap (λ t. update_by s.own request details R t (NoMemory ∷ later))
    (sym c.type_of.ensures.told ∙ c.in-Ok.is)
    ∙ ap (λ x. give (x, R) later) (sym c.refused-in-Err-asked_for.ensures.told))

pub returns-in-Ok-asked_for-clause-acts : goal.returns-in-Ok-asked_for-clause-acts
returns-in-Ok-asked_for-clause-acts g c =
    let a = g.A.Archive.state c.args.archive.now in
    let b = g.A.Archive.state c.update_of.new.archive in
    let space = user_space_of c.args.seen in
    let details = details_of c.args.details.now in
    let request = asked_for c.args.terms.user.now c.args.terms.now in
    let type = c.in-Ok.value_type in
    let node : node_asked details ≡ Some (node_of c.in-Some.node) =
    sym c.node_asked.ensures ∙ ap (option_map node_of) c.in-Some.is in
    acts-past a b (update_item a.own space c.args.terms.user.now c.args.terms.now details)
    (update_of a.own (λ _. c.in-Ok-asked_for.request) type details) c.update_of.result
    c.update_of.ensures.acts (λ R marks.
    ap (λ o. update_by a.own request details R (type_granted space o) (Done ∷ marks)) node
    ∙ ap (λ t. update_by a.own request details R t (Done ∷ marks))
    (sym c.type_of.ensures.told ∙ c.in-Ok.is)
    ∙ update-for a.own request c.in-Ok-asked_for.request type details
    (node_of c.in-Some.node) R marks node (sym c.in-Ok-asked_for.ensures))
