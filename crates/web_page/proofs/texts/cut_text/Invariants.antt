use Rattle.std.proofs.Common.{◌≡◌, ◌++◌, drop}
use Rattle.web_page.specs.Values.{cut_behind, cut_text}
use Rattle.web_page.proofs.texts.cut_text.Given as goal

abbrev pub invariant-loop-byte : goal.invariant-loop-byte
invariant-loop-byte l = record {
  cuts : l.out.items ++ cut_behind l.left (drop l.byte-index l.text) ≡ cut_text l.text;
}
