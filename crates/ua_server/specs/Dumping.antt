-- What a dump of an archive prints.
use Rattle.std.specs.Prelude.{◌≡◌, ℕ, List, [], ◌∷◌, ◌++◌, take, Option, Result, Err, MatchResult}
use Rattle.std.specs.List.{flat_map}
use Rattle.std.specs.Fmt.{decimal, signed_decimal}
use Rattle.std.specs.Io.KnownBytes.{Appends}
use Rattle.hex.specs.Hex.{encode_upper}
use Rattle.stamp.specs.Numbers.{number_of}
use Rattle.records.specs.Contents.{Content, vec}
use Rattle.records.specs.Spelling.{record_form}
use Rattle.archive.specs.Store.{Store, StepResult, faults_of}
use Rattle.archive.specs.Steps.{Transitions}
use Rattle.ua_server.specs.declared.dumps.DumpFault.{DumpFault}
use Rattle.ua_server.specs.declared.dumps.DumpFault.TheVariants as dump
use Rattle.counted_io.specs.Bytes.{AppendsPart}
use Rattle.archive.specs.declared.fault.StoreFault.{StoreFault}
use Rattle.records.specs.declared.record.Record.{Record}

-- A record's line: its origin, its number and its tick in decimal digits, and its bytes in hex
-- digits.
abbrev pub line_of : Record → List ℕ
line_of r =
    decimal r.origin ++ 32
    ∷
    (decimal r.number ++ 32
    ∷ (signed_decimal r.tick ++ 32 ∷ (encode_upper (record_form.canon r) ++ 10 ∷ [])))

-- a line for each record; a content has them by origin and number
abbrev pub lines_of : Content → List ℕ
lines_of R = flat_map line_of R

-- all of a content's lines were written, or a first part of them where something came in the way
abbrev pub WritesLines : Content → Option (List ℕ) → Option (List ℕ) → Result (Unit {0}) DumpFault
    → Type 0
WritesLines R before after result =
    MatchResult result (λ done. Appends before after (lines_of R))
    (λ fault. AppendsPart before after (lines_of R))

-- the fault of the store that a dump ended by, if it is one of the store's
abbrev pub store_faults_of : Result (Unit {0}) DumpFault → List StoreFault
store_faults_of result = elim result [ Err (dump.Store fault) ↦ fault ∷ [] | _ ↦ [] ]

-- An archive was dumped, which stays as it is. Its store met the fault that the dump ended by, if
-- that is one of the store's, and no other.
abbrev pub Dumps : Store → Store → Option (List ℕ) → Option (List ℕ) → Result (Unit {0}) DumpFault
    → Type 0
Dumps old new before after result =
    (used : List StepResult)
    × Transitions old new used (λ marks R S. (S ≡ R)
    × ((faults_of used ≡ store_faults_of result) × WritesLines R before after result))

-- so far the lines of a content's first records were written, of which these are the numbers
abbrev pub IsSoFar : Content → List ℕ → Option (List ℕ) → Option (List ℕ) → Type 0
IsSoFar R known before now =
    (n : ℕ) × ((origin : ℕ) → number_of known origin ≡ vec (take n R) origin)
    × Appends before now (lines_of (take n R))

-- while a dump goes on: the archive holds what it held, and lines of its first records were written
abbrev pub Dumping : Store → Store → List ℕ → Option (List ℕ) → Option (List ℕ) → Type 0
Dumping old new known before now =
    Transitions old new [] (λ marks R S. (S ≡ R) × IsSoFar R known before now)
