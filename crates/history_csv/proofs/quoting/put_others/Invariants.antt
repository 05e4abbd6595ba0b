use Rattle.std.proofs.Common.{◌≡◌, ◌++◌, drop, map}
use Rattle.csv.specs.Writing.{default_writer, fields_text}
use Rattle.history_csv.proofs.quoting.put_others.Given as goal

abbrev pub invariant-loop-field : goal.invariant-loop-field
invariant-loop-field l = record {
  puts : l.out.items
      ++ fields_text default_writer (map (λ field. field.now) (drop l.field-index l.fields))
      ≡ l.initial.out.items ++ fields_text default_writer (map (λ field. field.now) l.fields);
}
