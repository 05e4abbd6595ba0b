use Rattle.std.proofs.Common.{◌≡◌, ◌+◌, ◌-◌, ◌<◌, map, length}
use Rattle.std.specs.Prelude.{Ok, if◌then◌else◌}
use Rattle.ua_binary.specs.Format.{saturated}
use Rattle.stamp.specs.Numbers.{number_of}
use Rattle.records.specs.Contents.{cut}
use Rattle.archive.specs.Store.{IsAskedWithin}
use Rattle.hist_read.specs.Finding.{Finds}
use Rattle.hist_read.specs.Reads.{page_size, place_at, entries_behind}
use Rattle.hist_read.specs.Carrying.{values_length}
use Rattle.hist_read.specs.Gathering.{value_in, EntriesGatherOn, AreTooLong}
use Rattle.hist_read.proofs.modified.find_entries.Given as goal

abbrev pub invariant-loop-more : goal.invariant-loop-more
invariant-loop-more g l =
    let R = cut (g.A.Archive.state l.fn.archive).content (number_of l.scope.within) in
    let start = place_at l.position in
    record {
      finds : Finds (g.A.Archive.state l.fn.archive) (g.A.Archive.state l.archive) l.scope.longest
          (Ok l.more) (λ more. EntriesGatherOn R l.node l.details start more l.gathered)
          (λ limit. AreTooLong value_in l.gathered.wanted
          (entries_behind R l.node l.details start) limit);
      asked : IsAskedWithin l.gathered.wanted (g.A.Archive.asked l.fn.archive)
          (g.A.Archive.asked l.archive);
      size : l.gathered.size ≡ saturated (values_length (map value_in l.gathered.entries.items));
      portion : 0 < l.gathered.portion;
      wanted : l.gathered.wanted ≡ page_size l.details l.position + 1;
    }

abbrev pub decreases-loop-more : goal.decreases-loop-more
decreases-loop-more g l =
    if l.more then l.gathered.wanted - length l.gathered.entries.items + 1 else 0
