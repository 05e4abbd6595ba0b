use Rattle.std.proofs.Common.{◌≡◌, ◌++◌, replicate}
use Rattle.history_report.proofs.table.put_blanks.Given as goal

abbrev pub invariant-loop : goal.invariant-loop
invariant-loop l = record {
  blanks : l.line.items ≡ l.initial.line.items ++ replicate l.counter 32;
}
