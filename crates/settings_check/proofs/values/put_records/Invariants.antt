use Rattle.std.proofs.Common.{◌≡◌, ◌≤◌, ◌-◌, ◌++◌}
use Rattle.std.specs.List.{flat_map, range_with_len}
use Rattle.stamp.specs.Numbers.{number_of}
use Rattle.settings_check.specs.Texts.{text_of}
use Rattle.settings_check.specs.Stored.{record_line, record_lines}
use Rattle.settings_check.proofs.values.put_records.Given as goal

abbrev pub invariant-loop-number : goal.invariant-loop-number
invariant-loop-number l = record {
  counts : l.out.items
      ++ text_of (flat_map (λ replica. record_line replica (number_of l.vector replica))
      (range_with_len l.number (65 - l.number)))
      ≡ l.initial.out.items ++ text_of (record_lines (number_of l.vector));
  from : 1 ≤ l.number;
}
