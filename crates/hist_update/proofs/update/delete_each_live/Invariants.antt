use Rattle.std.proofs.Common.{◌≡◌, ◌≤◌, map, length, take, vec_len, vec_capacity}
use Rattle.records.specs.declared.shown.Held.{Held}
use Rattle.hist_update.specs.Outcome.{DeleteAt}
use Rattle.hist_update.specs.Operating.{Operations}
use Rattle.hist_update.proofs.update.delete_each_live.Given as goal

abbrev pub invariant-loop-held : goal.invariant-loop-held
invariant-loop-held g l = record {
  done : Operations (g.A.Archive.state l.fn.archive) (g.A.Archive.state l.archive) l.request
      (map (λ (h : Held). DeleteAt h.time) (take l.held-index l.lives)) l.codes.items;
  count : vec_len l.codes ≡ l.held-index;
  room : length l.lives ≤ vec_capacity l.codes;
}
