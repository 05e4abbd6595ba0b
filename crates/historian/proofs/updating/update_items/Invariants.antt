use Rattle.std.proofs.Common.{◌≡◌, ◌≤◌, List, map, length, take, vec_len, vec_capacity}
use Rattle.std.specs.Prelude.{All}
use Rattle.ua_services.specs.Updates.{details_of, IsShortUpdate}
use Rattle.archive.specs.Store.{StepResult}
use Rattle.archive.specs.Steps.{Refines, each}
use Rattle.historian.specs.UserSpaces.{user_space_of}
use Rattle.historian.specs.Updating.{update_item}
use Rattle.historian.proofs.updating.update_items.Given as goal

abbrev pub invariant-loop-details : goal.invariant-loop-details
invariant-loop-details g l = record {
  acts : (used : List StepResult) × Refines (g.A.Archive.state l.fn.archive)
      (g.A.Archive.state l.archive) used (each
      (update_item (g.A.Archive.state l.fn.archive).own (user_space_of l.seen) l.terms.user.now l.terms.now)
      (map details_of (take l.details-index l.items))) l.results.items;
  short : All IsShortUpdate l.results.items;
  count : vec_len l.results ≡ l.details-index;
  own : (g.A.Archive.state l.archive).own ≡ (g.A.Archive.state l.fn.archive).own;
  room : length l.items ≤ vec_capacity l.results;
}
