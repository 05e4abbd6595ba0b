use Rattle.std.proofs.Common.{◌≡◌, ◌+◌, ◌-◌, map, min, length}
use Rattle.std.specs.Prelude.{Ok, if◌then◌else◌}
use Rattle.ua_binary.specs.Format.{saturated}
use Rattle.stamp.specs.Numbers.{number_of}
use Rattle.records.specs.Contents.{cut}
use Rattle.archive.specs.Store.{IsAskedWithin}
use Rattle.hist_read.specs.Finding.{Finds}
use Rattle.hist_read.specs.Reads.{values_beyond, limit_at}
use Rattle.hist_read.specs.Pages.{portion, body_limit}
use Rattle.hist_read.specs.Carrying.{values_length}
use Rattle.hist_read.specs.Gathering.{GathersOn, AreTooLong}
use Rattle.hist_read.proofs.raw.find_body.Given as goal

abbrev pub invariant-loop-more : goal.invariant-loop-more
invariant-loop-more g l =
    let R = cut (g.A.Archive.state l.fn.archive).content (number_of l.scope.within) in
    let start = limit_at l.details l.position in
    record {
      finds : Finds (g.A.Archive.state l.fn.archive) (g.A.Archive.state l.archive) l.scope.longest
          (Ok l.more) (λ more. GathersOn R l.node l.details start more l.gathered)
          (λ limit. AreTooLong (λ h. h.value) (l.gathered.wanted - 1)
          (values_beyond R l.node l.details start) limit);
      asked : IsAskedWithin (min portion l.gathered.wanted) (g.A.Archive.asked l.fn.archive)
          (g.A.Archive.asked l.archive);
      size : l.gathered.size
          ≡ saturated (values_length (map (λ h. h.value) l.gathered.values.items));
      wanted : l.gathered.wanted ≡ body_limit l.details l.position;
    }

abbrev pub decreases-loop-more : goal.decreases-loop-more
decreases-loop-more g l =
    if l.more then l.gathered.wanted - length l.gathered.values.items + 1 else 0
