use Rattle.std.proofs.Common.{◌≡◌, ◌≤◌, length, take, vec_len, vec_capacity}
use Rattle.hist_update.specs.Updates.{deletes_at}
use Rattle.hist_update.specs.Operating.{Operations}
use Rattle.hist_update.proofs.update.delete_each.Given as goal

abbrev pub invariant-loop-time : goal.invariant-loop-time
invariant-loop-time g l = record {
  done : Operations (g.A.Archive.state l.fn.archive) (g.A.Archive.state l.archive) l.request
      (deletes_at (take l.time-index l.times)) l.codes.items;
  count : vec_len l.codes ≡ l.time-index;
  room : length l.times ≤ vec_capacity l.codes;
}
