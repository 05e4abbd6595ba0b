use Rattle.std.proofs.Common.{◌≡◌, ◌≤◌, ◌-◌, false, Ok, length}
use Rattle.std.specs.Prelude.{if◌then◌else◌}
use Rattle.ua_binary.specs.Format.{saturated}
use Rattle.stamp.specs.Numbers.{number_of}
use Rattle.archive.specs.Store.{Asks, IsAskedWithin}
use Rattle.exchange.specs.Batches.{most, portion, records_length, Gathers, FillsFrame}
use Rattle.exchange.proofs.portions.first_missing.Given as goal

abbrev pub invariant-loop-more : goal.invariant-loop-more
invariant-loop-more g l = record {
  asks : Asks (g.A.Archive.state l.fn.archive) (g.A.Archive.state l.archive) (Ok l.more)
      (λ more. Gathers (g.A.Archive.state l.fn.archive).content (number_of l.theirs)
      (number_of l.known) l.records.items
      × (more ≡ false
      → FillsFrame (g.A.Archive.state l.fn.archive).content (number_of l.theirs) l.records.items));
  asked : IsAskedWithin portion (g.A.Archive.asked l.fn.archive) (g.A.Archive.asked l.archive);
  few : length l.records.items ≤ most;
  size : l.size ≡ saturated (records_length l.records.items);
}

abbrev pub decreases-loop-more : goal.decreases-loop-more
decreases-loop-more g l = if l.more then 1001 - length l.records.items else 0
