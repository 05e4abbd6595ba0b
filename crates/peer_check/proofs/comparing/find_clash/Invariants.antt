use Rattle.std.proofs.Common.{◌≡◌, ℕ, Ok, take}
use Rattle.stamp.specs.Numbers.{number_of}
use Rattle.records.specs.Contents.{vec, AreCompatible}
use Rattle.archive.specs.Store.{Asks, IsAskedWithin}
use Rattle.peer_check.proofs.comparing.find_clash.Given as goal

abbrev pub invariant-loop-record : goal.invariant-loop-record
invariant-loop-record g l = record {
  asks : Asks (g.A.Archive.state l.fn.archive) (g.A.Archive.state l.archive) (Ok l.held)
      (λ held. ((replica : ℕ) → number_of held replica
      ≡ vec (g.A.Archive.state l.fn.archive).content replica)
      × AreCompatible (g.A.Archive.state l.fn.archive).content (take l.record-index l.brought));
  asked : IsAskedWithin 1 (g.A.Archive.asked l.fn.archive) (g.A.Archive.asked l.archive);
}
