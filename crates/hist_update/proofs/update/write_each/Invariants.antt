use Rattle.std.proofs.Common.{◌≡◌, ◌≤◌, map, length, take, vec_len, vec_capacity}
use Rattle.hist_update.specs.Outcome.{Write}
use Rattle.hist_update.specs.Operating.{Operations}
use Rattle.hist_update.proofs.update.write_each.Given as goal

abbrev pub invariant-loop-value : goal.invariant-loop-value
invariant-loop-value g l = record {
  done : Operations (g.A.Archive.state l.fn.archive) (g.A.Archive.state l.archive) l.request
      (map (Write l.asked l.value_type) (take l.value-index l.values)) l.codes.items;
  count : vec_len l.codes ≡ l.value-index;
  room : length l.values ≤ vec_capacity l.codes;
}
