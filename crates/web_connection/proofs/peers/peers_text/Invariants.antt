use Rattle.std.proofs.Common.{take}
use Rattle.history_report.specs.Reports.{AreLines}
use Rattle.web_connection.specs.Status.{IsPeerJson}
use Rattle.web_connection.proofs.peers.peers_text.Given as goal

abbrev pub invariant-loop-call : goal.invariant-loop-call
invariant-loop-call l = record {
  told : AreLines IsPeerJson (take l.call-index l.calls) l.peers.items;
}
