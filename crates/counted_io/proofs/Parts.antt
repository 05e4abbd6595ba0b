-- What is written in two writes.
use Rattle.std.proofs.Common.{ℕ, List, ◌++◌, Ok, Err, OnErr, sym, ◌∙◌, ap, append_assoc}
use Rattle.std.specs.Prelude.{Option, Result}
use Rattle.std.specs.Io.KnownBytes.{Appends}
use Rattle.std.proofs.KnownBytes.{Appends-trans}
use Rattle.counted_io.specs.Bytes.{AppendsPart}
use Rattle.counted_io.specs.declared.fault.ServeFault.{ServeFault}

-- the first write failed
pub part-first : (old written : Option (List ℕ)) (first second : List ℕ)
    → AppendsPart old written first → AppendsPart old written (first ++ second)
part-first old written first second part = (
  part.0,
  part.1 ++ second,
  ap (λ b. b ++ second) part.2 ∙ append_assoc part.0 part.1 second,
  part.3,
)

-- the second write failed
pub part-second : (old middle written : Option (List ℕ)) (first second : List ℕ)
    → Appends old middle first → AppendsPart middle written second
    → AppendsPart old written (first ++ second)
part-second old middle written first second whole part = (
  first ++ part.0,
  part.1,
  ap (λ b. first ++ b) part.2 ∙ sym (append_assoc first part.0 part.1),
  Appends-trans old middle written first part.0 whole part.3,
)

-- the second of two parts failed
pub part-after : {T : Type 0} (result : Result T ServeFault) (old middle written : Option (List ℕ))
    (first second : List ℕ) → Appends old middle first
    → OnErr result (AppendsPart middle written second)
    → OnErr result (AppendsPart old written (first ++ second))
part-after (Ok done) old middle written first second whole part = tt
part-after (Err fault) old middle written first second whole part =
    part-second old middle written first second whole part
