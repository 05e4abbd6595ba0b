use Rattle.std.proofs.Common.{◌≡◌, ◌++◌, map, take}
use Rattle.history_report.proofs.parts.push_times.Given as goal

abbrev pub invariant-loop-row : goal.invariant-loop-row
invariant-loop-row g l = record {
  pushed : l.times.items ≡ l.fn.times.items ++ map g.T.Row.time_of (take l.row-index l.rows);
}
