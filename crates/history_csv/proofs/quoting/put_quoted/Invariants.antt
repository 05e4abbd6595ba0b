use Rattle.std.proofs.Common.{◌≡◌, ◌++◌, drop}
use Rattle.csv.specs.Writing.{default_writer, escaped}
use Rattle.history_csv.proofs.quoting.put_quoted.Given as goal

abbrev pub invariant-loop-byte : goal.invariant-loop-byte
invariant-loop-byte l = record {
  quotes : l.out.items ++ escaped default_writer (drop l.byte-index l.field)
      ≡ l.initial.out.items ++ escaped default_writer l.field;
}
