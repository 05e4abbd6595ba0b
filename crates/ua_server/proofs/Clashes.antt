-- What is printed of two records of one number, for `clash_table` and `print_clash`.
use Rattle.std.proofs.Common.{◌≡◌, ℕ, List, [], ◌++◌, Option, Result, Ok, Err, sym, refl, ap, ◌∙◌, append_assoc}
use Rattle.std.specs.Prelude.{OnOk, OnErr}
use Rattle.std.specs.Io.KnownBytes.{Appends}
use Rattle.std.proofs.lemmas.List.{append-nil}
use Rattle.counted_io.specs.Bytes.{AppendsPart}

-- two rows behind the names of the columns
pub behind : (none word names first row1 row2 all : List ℕ) → none ≡ [] → word ≡ none ++ names
    → first ≡ word ++ row1 → all ≡ first ++ row2 → all ≡ names ++ (row1 ++ row2)
behind none word names first row1 row2 all e w f a =
    a ∙ ap (λ t. t ++ row2) (f ∙ ap (λ t. t ++ row1) (w ∙ ap (λ t. t ++ names) e))
    ∙ append_assoc names row1 row2

-- all of it was written, or a first part
pub sent_part : {E : Type 0} (result : Result (Unit {0}) E) (before after : Option (List ℕ))
    (bytes : List ℕ) → OnOk result (Appends before after bytes)
    → OnErr result (AppendsPart before after bytes) → AppendsPart before after bytes
sent_part (Ok done) before after bytes all part = (bytes, [], sym (append-nil bytes), all)
sent_part (Err e) before after bytes all part = part
