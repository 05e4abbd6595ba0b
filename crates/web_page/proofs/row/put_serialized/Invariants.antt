use Rattle.std.proofs.Common.{◌≡◌, ◌++◌}
use Rattle.form_urlencoded.specs.Form.{byte_serialize}
use Rattle.form_urlencoded.specs.Serialize.{serialized_text}
use Rattle.web_page.proofs.row.put_serialized.Given as goal

abbrev pub invariant-loop-piece : goal.invariant-loop-piece
invariant-loop-piece l = record {
  puts : l.out.items ++ serialized_text l.piece-iterator
      ≡ l.initial.out.items ++ byte_serialize l.bytes;
}
