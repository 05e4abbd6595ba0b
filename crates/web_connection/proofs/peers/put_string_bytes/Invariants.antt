use Rattle.std.proofs.Common.{◌≡◌, ◌++◌, drop}
use Rattle.std.specs.List.{flat_map}
use Rattle.web_connection.specs.Status.{string_byte}
use Rattle.web_connection.proofs.peers.put_string_bytes.Given as goal

abbrev pub invariant-loop-byte : goal.invariant-loop-byte
invariant-loop-byte l = record {
  puts : l.out.items ++ flat_map string_byte (drop l.byte-index l.text)
      ≡ l.initial.out.items ++ flat_map string_byte l.text;
}
