use Rattle.std.proofs.Common.{take}
use Rattle.history_report.specs.Reports.{AreLines}
use Rattle.web_page.specs.Calls.{IsCallRow}
use Rattle.web_page.proofs.peers.call_rows.Given as goal

abbrev pub invariant-loop-call : goal.invariant-loop-call
invariant-loop-call l = record {
  told : AreLines IsCallRow (take l.call-index l.calls) l.rows.items;
}
