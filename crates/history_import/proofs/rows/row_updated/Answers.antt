use Rattle.std.proofs.Common.{◌≡◌, List, to_z, of_z, sym, subst}
use Rattle.std.specs.Int.{w32}
use Rattle.ua_binary.specs.declared.codes.Status.{Status}
use Rattle.ua_services.specs.Updates.{Details, details_of}
use Rattle.ua_services.specs.declared.updates.HistoryUpdateDetails.TheVariants as lent
use Rattle.archive.specs.Store.{StepResult}
use Rattle.archive.specs.Steps.{Refines}
use Rattle.historian.specs.UserSpaces.{space_for}
use Rattle.history_import.specs.declared.row_end.RowEnd.TheVariants.{Answered}
use Rattle.history_import.specs.Rows.{details_by, row_updated}
use Rattle.history_import.proofs.RowLemmas.{perform-again, updated-starved, updated-told}
use Rattle.history_import.proofs.rows.row_updated.Goals as goal

pub returns-in_default-clause-acts : goal.returns-in_default-clause-acts
returns-in_default-clause-acts g c =
    let s = g.A.Archive.state c.args.server.now.replica.archive in
    updated-starved s s.own (space_for c.args.server.now.settings c.args.asked.now.user.now)
    c.args.asked.now c.args.update

pub returns-clause-acts : goal.returns-clause-acts
returns-clause-acts g c =
    let a = g.A.Archive.state c.args.server.now.replica.archive in
    let b = g.A.Archive.state c.update_one-told.new.server.replica.archive in
    let seen = space_for c.args.server.now.settings c.args.asked.now.user.now in
    let asked = c.args.asked.now in
    let details : Details = details_of (lent.UpdateData (record {
      node_id = c.as_ref.result;
      perform = to_z w32 (of_z w32 c.number.result);
      values = c.in-Ok.values;
    })) in
    let is : details_by asked c.args.update ≡ details =
    cc (
      c.as_ref.ensures.same,
      c.in-Ok.ensures,
      perform-again asked.perform c.number.result c.number.ensures,
    ) in
    let P : Status → Type 0 = λ code.
    (used : List StepResult)
    × Refines a b used (row_updated a.own seen asked c.args.update) (Answered code) in
    subst P (sym c.code_of.ensures)
    (updated-told a b a.own seen asked c.args.update details c.update_one-told.result is
    c.update_one-told.ensures.acts)
