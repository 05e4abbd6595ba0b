use Rattle.std.proofs.Common.{◌≡◌, ◌-◌, ◌*◌, ◌+◌, length, List}
use Rattle.ua_connection.specs.Environments.{Environment}
use Rattle.ua_connection.specs.Passing.{LineEvent}
use Rattle.ua_connection.specs.Turns.{NeedsBytes, IsSmall, ServesSoFar}
use Rattle.ua_connection.proofs.serving.serve_on.Given as goal

abbrev pub invariant-reads : goal.invariant-reads
invariant-reads g l = record {
  small : IsSmall l.connection;
  settings : l.server.settings ≡ l.initial.server.settings;
  short : NeedsBytes l.connection;
  reads : g.X.Line.failed_reads l.line ≡ g.X.Line.failed_reads l.initial.line;
  writes : g.X.Line.failed_writes l.line ≡ g.X.Line.failed_writes l.initial.line;
  so_far : (used : Environment) × g.C.Clock.gave l.initial.clock used.readings l.clock
      × (events : List LineEvent) × g.X.Line.passed l.initial.line events l.line
      × ServesSoFar l.initial.server.settings (g.A.Archive.state l.initial.server.replica.archive)
      (g.A.Archive.state l.server.replica.archive) l.initial.connection.waiting events used
      l.connection;
}

-- a chunk has at most 65,536 bytes, and less than one waits
abbrev pub decreases-reads : goal.decreases-reads
decreases-reads g l = 65536 * 1000001 - (65536 * l.connection.client.taken
    + length l.connection.waiting)
