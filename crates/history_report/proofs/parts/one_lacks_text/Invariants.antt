use Rattle.std.proofs.Common.{drop}
use Rattle.history_report.specs.Parts.{HasOne}
use Rattle.history_report.proofs.parts.one_lacks_text.Given as goal

abbrev pub invariant-loop-row : goal.invariant-loop-row
invariant-loop-row g l = record {
  behind : HasOne g.T.Row.is_textless l.rows
      → HasOne g.T.Row.is_textless (drop l.row-index l.rows);
}
