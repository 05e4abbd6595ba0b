use Rattle.std.proofs.Common.{◌≡◌, length, List}
use Rattle.ua_connection.specs.Environments.{Environment}
use Rattle.ua_connection.specs.Passing.{LineEvent}
use Rattle.ua_connection.specs.Turns.{IsSmall, IsNoLess, DrainedSoFar}
use Rattle.ua_connection.proofs.serving.answer_waiting.Given as goal

abbrev pub invariant-parts : goal.invariant-parts
invariant-parts g l = record {
  small : IsSmall l.connection;
  settings : l.server.settings ≡ l.initial.server.settings;
  no_less : IsNoLess l.initial.connection l.connection;
  writes : g.X.Line.failed_writes l.line ≡ g.X.Line.failed_writes l.initial.line;
  reads : g.X.Line.failed_reads l.line ≡ g.X.Line.failed_reads l.initial.line;
  so_far : (used : Environment) × g.C.Clock.gave l.initial.clock used.readings l.clock
      × (events : List LineEvent) × g.X.Line.passed l.initial.line events l.line
      × DrainedSoFar l.initial.server.settings (g.A.Archive.state l.initial.server.replica.archive)
      (g.A.Archive.state l.server.replica.archive) l.initial.connection used events l.connection;
}

abbrev pub decreases-parts : goal.decreases-parts
decreases-parts g l = length l.connection.waiting
