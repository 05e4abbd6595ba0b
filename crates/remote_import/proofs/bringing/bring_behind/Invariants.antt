use Rattle.std.proofs.Common.{◌≡◌, ℕ, List, [], ◌∷◌, Option}
use Rattle.history_csv.specs.Rows.{value_names}
use Rattle.history_import.specs.Reading.{StandsBehind}
use Rattle.remote_import.specs.Bringing.{state_of}
use Rattle.remote_import.proofs.Ends.{IsSoFar}
use Rattle.remote_import.proofs.bringing.bring_behind.Given as goal

abbrev pub invariant-loop-number : goal.invariant-loop-number
invariant-loop-number g l = record {
  faults : l.output.faults ≡ l.initial.output.faults;
  imports : (known : Option (List ℕ))
      → StandsBehind g.F.Read.remaining l.initial.reader known (value_names ∷ [])
      → IsSoFar g.F.Read.remaining l.reader known l.settings l.asked
      (state_of g.R.Read.remaining g.W.Write.contents l.initial.session)
      (state_of g.R.Read.remaining g.W.Write.contents l.session)
      (g.O.Write.contents l.initial.output.inner) (g.O.Write.contents l.output.inner) l.counts
      l.number;
}
