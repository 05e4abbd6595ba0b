use Rattle.std.proofs.Common.{◌∷◌, [], ◌++◌, List, ℕ, ap, ◌∙◌}
use Rattle.history_report.proofs.lines.put_value_page.Goals as goal

pub returns-clause-written : goal.returns-clause-written
returns-clause-written c =
    let row = c.in_ok-row.row in (
      c.in_ok-line.line.items,
      c.in_ok-extend_from_slice.ensures.items
          ∙ ap (λ (l : List ℕ). c.args.out.now.items ++ l) c.as_slice.ensures.value,
      (
        row.node.items ∷ row.time.items ∷ row.shown.value.items ∷ row.shown.status.items ∷ [],
        c.in_ok-line.ensures,
        c.in_ok-row.ensures.written,
      ),
    )
