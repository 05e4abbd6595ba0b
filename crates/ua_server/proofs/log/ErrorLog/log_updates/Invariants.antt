use Rattle.std.proofs.Common.{take}
use Rattle.ua_server.specs.Logging.{LogsUpdates}
use Rattle.ua_server.proofs.log.ErrorLog.log_updates.Given as goal

abbrev pub invariant-loop-update : goal.invariant-loop-update
invariant-loop-update g l =
    LogsUpdates g.E.Write.contents g.C.Clock.gave l.from l.user (take l.update-index l.updates)
    l.fn.self l.self
