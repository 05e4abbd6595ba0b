use Rattle.std.proofs.Common.{◌≡◌, ℕ, List, [], ◌∷◌, Option}
use Rattle.history_csv.specs.Rows.{value_names}
use Rattle.history_import.specs.Reading.{StandsBehind}
use Rattle.history_import.proofs.ImportingLemmas.{IsSoFar}
use Rattle.history_import.proofs.importing.do_rows.Given as goal

abbrev pub invariant-loop-number : goal.invariant-loop-number
invariant-loop-number g l = record {
  settings : l.server.settings ≡ l.initial.server.settings;
  faults : l.output.faults ≡ l.initial.output.faults;
  imports : (known : Option (List ℕ))
      → StandsBehind g.R.Read.remaining l.initial.reader known (value_names ∷ [])
      → IsSoFar g.R.Read.remaining l.reader known l.initial.server.settings l.asked
      (g.A.Archive.state l.initial.server.replica.archive)
      (g.A.Archive.state l.server.replica.archive) (g.W.Write.contents l.initial.output.inner)
      (g.W.Write.contents l.output.inner) l.counts l.number;
}
