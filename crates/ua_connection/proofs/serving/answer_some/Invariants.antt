use Rattle.std.proofs.Common.{◌≡◌, ◌≤◌, length}
use Rattle.ua_connection.specs.Environments.{Environment}
use Rattle.std.proofs.Common.{None}
use Rattle.ua_connection.specs.Turns.{IsSmall, IsNoLess, AdvancesInto}
use Rattle.ua_connection.proofs.serving.answer_some.Given as goal

abbrev pub invariant-items : goal.invariant-items
invariant-items g l = record {
  small : IsSmall l.connection;
  settings : l.server.settings ≡ l.initial.server.settings;
  short : length l.connection.waiting ≤ length l.initial.connection.waiting;
  no_less : IsNoLess l.initial.connection l.connection;
  so_far : (used : Environment) × g.C.Clock.gave l.initial.clock used.readings l.clock
      × AdvancesInto l.initial.server.settings (g.A.Archive.state l.initial.server.replica.archive)
      (g.A.Archive.state l.server.replica.archive) l.initial.connection used l.initial.out.items
      l.out.items None l.connection;
}

abbrev pub decreases-items : goal.decreases-items
decreases-items g l = length l.connection.waiting
