use Rattle.history_report.specs.Html.{IsPath}
use Rattle.history_report.proofs.path.put_marks.Given as goal

abbrev pub invariant-loop-column : goal.invariant-loop-column
invariant-loop-column l = record {
  path : IsPath l.initial.path.items → IsPath l.path.items;
}
