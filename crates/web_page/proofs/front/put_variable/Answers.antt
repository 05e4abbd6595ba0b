use Rattle.std.proofs.Common.{◌≡◌, [], ap, ◌∙◌, subst}
use Rattle.std.specs.Prelude.{⊤, Option, slice_get}
use Rattle.records.specs.Contents.{Content}
use Rattle.records.specs.declared.shown.Held.{Held}
use Rattle.history_report.specs.Paging.{IsPut}
use Rattle.settings_check.specs.Stored.{IsVectorOf}
use Rattle.web_page.specs.Front.{IsRowOf, IsVariableRow, latest_value}
use Rattle.settings_check.proofs.StoredLemmas.{reads-as}
use Rattle.web_page.proofs.front.put_variable.Goals as goal

pub returns-in-Ok-put_told-clause-answers : goal.returns-in-Ok-put_told-clause-answers
returns-in-Ok-put_told-clause-answers g c =
    let state = g.A.Archive.state in
    let old = c.args.out.now.items in
    let new = c.put_told.new.out.items in
    let space = c.args.overview.settings.now.space in
    let now = c.args.overview.now in
    let one = c.args.listed.now in
    reads-as (state c.args.archive.now) (state c.latest_of.new.archive) []
    (λ (R : Content). IsVectorOf c.args.within.now R
    → slice_get c.in-Ok.values.items 0 ≡ latest_value R one.node)
    (λ (R : Content). IsVectorOf c.args.within.now R
    → IsPut old new (IsVariableRow space now R one))
    (λ R p same. subst (λ (h : Option Held). IsPut old new (IsRowOf space now one h))
    (ap (λ l. slice_get l 0) c.as_slice.ensures.value ∙ p same) c.in-Ok-put_told.ensures)
    c.in-Ok.ensures.answers

pub returns-clause-answers : goal.returns-clause-answers
returns-clause-answers g c =
    let state = g.A.Archive.state in
    reads-as (state c.args.archive.now) (state c.latest_of.new.archive) []
    (λ (R : Content). IsVectorOf c.args.within.now R
    → slice_get c.in-Ok.values.items 0 ≡ latest_value R c.args.listed.now.node)
    (λ R. ⊤) (λ R p. tt) c.in-Ok.ensures.answers
