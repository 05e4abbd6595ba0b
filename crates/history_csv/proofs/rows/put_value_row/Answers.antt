use Rattle.std.proofs.Common.{◌≡◌, ◌++◌, ◌∷◌, [], List, ℕ, subst}
use Rattle.std.specs.Prelude.{OnOk}
use Rattle.csv.specs.Writing.{default_writer, row_text}
use Rattle.history_csv.specs.Rows.{AreReadFields}
use Rattle.history_csv.proofs.RowsLemmas.{appended}
use Rattle.history_csv.proofs.rows.put_value_row.Goals as goal

pub returns-clause-written : goal.returns-clause-written
returns-clause-written c =
    let row = c.in_ok-row.row in
    let fields : List (List ℕ) =
    row.node.items ∷ row.time.items ∷ row.shown.value.items ∷ row.shown.status.items ∷ [] in
    let same : c.as_slice.result.now ∷ c.as_slice-2.result.now ∷ c.as_slice-3.result.now
    ∷ c.as_slice-4.result.now ∷ [] ≡ fields =
    λ i. c.as_slice.ensures.value i ∷ c.as_slice-2.ensures.value i ∷ c.as_slice-3.ensures.value i
    ∷ c.as_slice-4.ensures.value i ∷ [] in
    appended c.put_row.result c.args.out.now.items c.put_row.new.out.items fields
    (AreReadFields c.args.node.now c.args.held.now)
    (subst (λ l. OnOk c.put_row.result
    (c.put_row.new.out.items ≡ c.args.out.now.items ++ row_text default_writer l)) same
    c.put_row.ensures.put)
    c.in_ok-row.ensures.written
