use Rattle.std.proofs.Common.{◌≡◌, ◌++◌, drop}
use Rattle.history_report.specs.Tables.{legible, legible_after}
use Rattle.history_report.proofs.table.put_legible.Given as goal

abbrev pub invariant-loop-byte : goal.invariant-loop-byte
invariant-loop-byte l = record {
  shows : l.out.items ++ legible_after l.before (drop l.byte-index l.text)
      ≡ l.initial.out.items ++ legible l.text;
}
