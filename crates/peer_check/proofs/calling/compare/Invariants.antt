use Rattle.std.proofs.Common.{◌≡◌, ℕ, List, [], Ok, false}
use Rattle.std.specs.Io.KnownBytes.{Appends}
use Rattle.std.specs.List.{AllByRecursion, flat_map}
use Rattle.records.specs.Contents.{AreCompatible}
use Rattle.records.specs.declared.record.Record.{Record}
use Rattle.archive.specs.Store.{Asks, IsAskedWithin}
use Rattle.exchange.specs.Dialogs.{party_of}
use Rattle.peer_check.specs.Comparing.{asking, wire, Wire, TellsNumbers, AnswersAll}
use Rattle.peer_check.proofs.Outcomes.{BeginsAt}
use Rattle.peer_check.proofs.calling.compare.Given as goal

abbrev pub invariant-loop : goal.invariant-loop
invariant-loop g l = record {
  theirs : List ℕ;
  first : List ℕ;
  earlier : List (List Record);
  told : Wire;
  tells : TellsNumbers (party_of (g.A.Archive.state l.fn.replica.archive)) theirs
      (wire [] (g.R.Read.remaining l.fn.reader.inner) (g.W.Write.contents l.fn.writer.inner)) told;
  answers : AnswersAll l.extent (party_of (g.A.Archive.state l.fn.replica.archive)) l.ours earlier
      first l.numbers told
      (wire l.frames.waiting (g.R.Read.remaining l.reader.inner) (g.W.Write.contents l.writer.inner));
  asks : Asks {A = Unit {0}} (g.A.Archive.state l.fn.replica.archive) (g.A.Archive.state l.replica.archive) (Ok tt)
      (λ _. BeginsAt l.extent (g.A.Archive.state l.fn.replica.archive).content l.ours theirs first
      × AllByRecursion (AreCompatible (g.A.Archive.state l.fn.replica.archive).content) earlier);
  asked : IsAskedWithin 1 (g.A.Archive.asked l.fn.replica.archive)
      (g.A.Archive.asked l.replica.archive);
  questions : List (List ℕ);
  says : Appends (g.W.Write.contents l.fn.writer.inner) (g.W.Write.contents l.writer.inner)
      (flat_map (asking (party_of (g.A.Archive.state l.fn.replica.archive))) questions);
  sound : l.frames.failed ≡ false;
  read : l.reader.faults ≡ l.fn.reader.faults;
  written : l.writer.faults ≡ l.fn.writer.faults;
}
