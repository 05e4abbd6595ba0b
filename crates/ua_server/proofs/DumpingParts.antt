-- Names for parts of the definitions in specs/Dumping, for the lemmas on these parts.
use Rattle.std.specs.Prelude.{◌≡◌, ℕ, List, [], ◌∷◌, Option, Result, Err, MatchResult}
use Rattle.std.specs.Io.KnownBytes.{Appends}
use Rattle.records.specs.Contents.{Content}
use Rattle.archive.specs.declared.fault.StoreFault.{StoreFault}
use Rattle.counted_io.specs.Bytes.{AppendsPart}
use Rattle.ua_server.specs.declared.dumps.DumpFault.{DumpFault}
use Rattle.ua_server.specs.declared.dumps.DumpFault.TheVariants as dump
use Rattle.ua_server.specs.Dumping.{lines_of}

-- what was written of a content's lines, and the faults that its store met
abbrev pub IsDumped : Content → Option (List ℕ) → Option (List ℕ) → List StoreFault
    → Result (Unit {0}) DumpFault → Type 0
IsDumped R before after met result =
    (met ≡ elim result [ Err (dump.Store fault) ↦ fault ∷ [] | _ ↦ [] ])
    × MatchResult result (λ done. Appends before after (lines_of R))
    (λ fault. AppendsPart before after (lines_of R))
