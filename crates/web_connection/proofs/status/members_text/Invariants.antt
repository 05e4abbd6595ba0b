use Rattle.std.proofs.Common.{◌≡◌, ◌≤◌, ◌-◌, ◌++◌}
use Rattle.std.specs.List.{flat_map, range_with_len}
use Rattle.stamp.specs.Numbers.{number_of}
use Rattle.web_connection.specs.Status.{member_text, members_text}
use Rattle.web_connection.proofs.status.members_text.Given as goal

abbrev pub invariant-loop-number : goal.invariant-loop-number
invariant-loop-number l = record {
  comes : l.out.items
      ++ flat_map (λ replica. member_text replica (number_of l.vector replica))
      (range_with_len l.number (65 - l.number)) ≡ members_text (number_of l.vector);
  from : 1 ≤ l.number;
}
