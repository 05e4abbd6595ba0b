use Rattle.std.proofs.Common.{◌∙◌, ℤ, List, FitsSigned, sym, ap, subst, arith}
use Rattle.std.specs.Int.{w32}
use Rattle.std.proofs.lemmas.Int.{to_z-of_z, ints}
use Rattle.archive.specs.Store.{StepResult}
use Rattle.archive.specs.Steps.{Refines}
use Rattle.ua_services.specs.Updates.{details_of}
use Rattle.historian.specs.Updating.{update_of}
use Rattle.hist_update.specs.Updates.{update_data, delete_raw, delete_at}
use Rattle.archive.specs.Steps.{give}
use Rattle.historian.proofs.Items.{acts-none, acts-same}
use Rattle.historian.proofs.updating.update_of.Goals as goal

pub returns-in-UpdateData-clause-acts : goal.returns-in-UpdateData-clause-acts
returns-in-UpdateData-clause-acts g c =
    let a = g.A.Archive.state c.args.archive.now in
    let b = g.A.Archive.state c.update_data.new.archive in
    let perform = c.in-UpdateData.details.perform in
    let fits : FitsSigned w32 perform = omega (arith, ints) in
    let P : ℤ → Type 0 = λ n. (used : List StepResult)
    × Refines a b used (update_data a.own c.args.request.now c.args.value_type n
    c.as_slice-values.result.now) c.update_data.result in
    acts-same a b (update_data a.own c.args.request.now c.args.value_type perform
    c.as_slice-values.result.now) (update_of a.own (λ _. c.args.request.now) c.args.value_type
    (details_of c.args.details.now)) c.update_data.result
    (λ R marks.
    ap (λ l. update_data a.own c.args.request.now c.args.value_type perform l R marks)
    c.as_slice-values.ensures
    ∙ ap (λ d. update_of a.own (λ _. c.args.request.now) c.args.value_type (details_of d) R marks)
    (sym c.in-UpdateData.is))
    (subst P (to_z-of_z w32 perform fits) (
      c.update_data.ensures.acts.0,
      c.update_data.ensures.acts.1,
    ))

pub returns-in-DeleteRawModified-clause-acts : goal.returns-in-DeleteRawModified-clause-acts
returns-in-DeleteRawModified-clause-acts g c =
    let a = g.A.Archive.state c.args.archive.now in
    let b = g.A.Archive.state c.delete_raw.new.archive in
    let asked = c.in-DeleteRawModified.details in
    acts-same a b (delete_raw a.own c.args.request.now asked.is_delete_modified asked.start_time
    asked.end_time)
    (update_of a.own (λ _. c.args.request.now) c.args.value_type (details_of c.args.details.now))
    c.delete_raw.result
    (λ R marks.
    ap (λ d. update_of a.own (λ _. c.args.request.now) c.args.value_type (details_of d) R marks)
    (sym c.in-DeleteRawModified.is)) (c.delete_raw.ensures.acts.0, c.delete_raw.ensures.acts.1)

pub returns-in-DeleteAtTime-clause-acts : goal.returns-in-DeleteAtTime-clause-acts
returns-in-DeleteAtTime-clause-acts g c =
    let a = g.A.Archive.state c.args.archive.now in
    let b = g.A.Archive.state c.delete_at.new.archive in
    acts-same a b (delete_at a.own c.args.request.now c.as_slice.result.now)
    (update_of a.own (λ _. c.args.request.now) c.args.value_type
    (details_of c.args.details.now)) c.delete_at.result
    (λ R marks.
    ap (λ l. delete_at a.own c.args.request.now l R marks) c.as_slice.ensures
    ∙ ap (λ d. update_of a.own (λ _. c.args.request.now) c.args.value_type (details_of d) R marks)
    (sym c.in-DeleteAtTime.is))
    (c.delete_at.ensures.acts.0, c.delete_at.ensures.acts.1)

pub returns-in-Other-clause-acts : goal.returns-in-Other-clause-acts
returns-in-Other-clause-acts g c =
    let a = g.A.Archive.state c.args.archive.now in
    acts-none a (update_of a.own (λ _. c.args.request.now) c.args.value_type
    (details_of c.args.details.now)) c.refused.result (λ R marks.
    ap (λ d. update_of a.own (λ _. c.args.request.now) c.args.value_type (details_of d) R marks)
    c.in-Other.is ∙ ap (λ x. give (x, R) marks) (sym c.refused.ensures.told))
