use Rattle.std.proofs.Common.{◌≡◌, ◌++◌, drop}
use Rattle.std.specs.List.{flat_map}
use Rattle.history_report.specs.Html.{entity, escaped, printable_after}
use Rattle.web_page.proofs.html.put_escaped.Given as goal

abbrev pub invariant-loop-byte : goal.invariant-loop-byte
invariant-loop-byte l = record {
  puts : l.out.items ++ flat_map entity (printable_after l.before (drop l.byte-index l.text))
      ≡ l.initial.out.items ++ escaped l.text;
}
