use Rattle.std.proofs.Common.{rules, ◌≡◌, ◌∙◌, ◌∷◌, ◌++◌, ◌+◌, [], List, map, take, vec_len, sym, ap, subst, arith, refl}
use Rattle.std.proofs.lemmas.List.{take_all}
use Rattle.std.specs.Prelude.{All}
use Rattle.std.proofs.lemmas.List.Elements.{All-nil, All-cons, All-append}
use Rattle.ua_services.specs.Updates.{details_of, HasShortValues, IsShortUpdate}
use Rattle.archive.specs.Store.{StepResult}
use Rattle.archive.specs.Steps.{Refines, each}
use Rattle.ua_services.specs.declared.updates.HistoryUpdateDetails.{HistoryUpdateDetails}
use Rattle.ua_services.specs.declared.updates.HistoryUpdateResult.{HistoryUpdateResult}
use Rattle.hist_update.proofs.Updating.{pushed}
use Rattle.historian.specs.UserSpaces.{user_space_of}
use Rattle.historian.specs.Updating.{update_item}
use Rattle.historian.proofs.Items.{each-next-by, acts-none, all_at}
use Rattle.historian.proofs.updating.update_items.Goals as goal

pub loop-details-preserved : goal.loop-details-preserved
loop-details-preserved g c =
    let grown = pushed c.push.result c.unwrap.result
    (c.loop-details.results.items ++ c.update_item-result.result ∷ [])
    c.loop-details.results.items c.push.new.self.items c.push.ensures.items c.unwrap.ensures in
    let a = g.A.Archive.state c.args.archive.now in
    let b = g.A.Archive.state c.loop-details.archive in
    let d = g.A.Archive.state c.update_item-result.new.archive in
    record {
      own = c.update_item-result.ensures.acts.1.passes.own ∙ c.loop-details.invariant.own;
      acts = each-next-by a b d a.own b.own details_of
          (λ own. update_item own (user_space_of c.args.seen) c.args.terms.user.now c.args.terms.now) c.args.items.now
          c.loop-details.details-index _ c.details-item.result c.loop-details.results.items
          c.push.new.self.items
          c.update_item-result.result c.loop-details.invariant.own c.loop-details.invariant.acts
          c.update_item-result.ensures.acts c.loop-details-test.true c.details-item.is grown;
      short = subst (All IsShortUpdate) (sym grown)
          (All-append IsShortUpdate c.loop-details.results.items
          (c.update_item-result.result ∷ []) c.loop-details.invariant.short
          (All-cons IsShortUpdate c.update_item-result.result [] c.update_item-result.ensures.short
          (All-nil IsShortUpdate)));
      count = pushed c.push.result c.unwrap.result (vec_len c.loop-details.results + 1)
          (vec_len c.loop-details.results)
          (vec_len c.push.new.self) c.push.ensures.len c.unwrap.ensures
          ∙ ap (λ n. n + 1) c.loop-details.invariant.count;
      room = omega (arith, c.push.ensures.capacity, c.loop-details.invariant.room);
    }

pub update_item-result-requires-clause-values : goal.update_item-result-requires-clause-values
update_item-result-requires-clause-values g c =
    let P : HistoryUpdateDetails → Type 0 = λ d. HasShortValues (details_of d) in
    subst P (sym c.details-item.is)
    (all_at HasShortValues details_of c.args.items.now c.loop-details.details-index _
    c.requires.values c.loop-details-test.true)

pub loop-details-init : goal.loop-details-init
loop-details-init g c =
    let a = g.A.Archive.state c.args.archive.now in
    let P : List HistoryUpdateResult → Type 0 =
    λ l. (used : List StepResult)
    × Refines a a used (each (update_item a.own (user_space_of c.args.seen) c.args.terms.user.now c.args.terms.now) [])
    l in
    record {
      acts = subst P (sym c.requires.empty) (acts-none a
          (each (update_item a.own (user_space_of c.args.seen) c.args.terms.user.now c.args.terms.now) []) []
          (λ R marks. refl));
      short = subst (All IsShortUpdate) (sym c.requires.empty) (All-nil IsShortUpdate);
      count = search rules;
      own = refl;
      room = c.requires.room;
    }

pub returns-clause-acts : goal.returns-clause-acts
returns-clause-acts g c =
    let a = g.A.Archive.state c.args.archive.now in
    let b = g.A.Archive.state c.loop-details.archive in
    let update = update_item a.own (user_space_of c.args.seen) c.args.terms.user.now c.args.terms.now in
    let P : List HistoryUpdateDetails → Type 0 = λ items.
    (used : List StepResult) × Refines a b used
    (each update (map details_of items)) c.loop-details.results.items in
    subst P (take_all _ _ (omega (arith, c.loop-details-test.false))) c.loop-details.invariant.acts
