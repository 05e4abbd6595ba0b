use Rattle.std.proofs.Common.{◌≡◌, ◌++◌, ℕ, max, take, string_bytes}
use Rattle.std.specs.List.{flat_map}
use Rattle.stamp.specs.Numbers.{number_of}
use Rattle.records.specs.Contents.{vec}
use Rattle.ua_server.specs.Dumping.{line_of}
use Rattle.ua_server.proofs.dumps.put_lines.Given as goal

abbrev pub invariant-loop-r : goal.invariant-loop-r
invariant-loop-r l = record {
  lines : string_bytes l.text ≡ string_bytes l.initial.text
      ++ flat_map line_of (take l.r-index l.records);
  known : (origin : ℕ) → number_of l.known origin
      ≡ max (number_of l.initial.known origin) (vec (take l.r-index l.records) origin);
}
