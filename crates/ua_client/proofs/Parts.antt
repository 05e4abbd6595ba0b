-- What was sent, where what came for it is refused.
use Rattle.std.proofs.Common.{◌≡◌, ℕ, List, [], ◌++◌, OnErr, Ok, Err, sym, ap, ◌∙◌, subst, append-nil, append_assoc}
use Rattle.std.proofs.KnownBytes.{Appends-trans}
use Rattle.std.specs.Prelude.{Option, Result}
use Rattle.std.specs.Io.KnownBytes.{Appends}
use Rattle.counted_io.specs.Bytes.{AppendsPart}
use Rattle.ua_client.specs.Talking.{CallerState, message_of}

-- all of a message is a part of it
pub part-whole : (old new : Option (List ℕ)) (bytes : List ℕ) → Appends old new bytes
    → AppendsPart old new bytes
part-whole old new bytes sent = (bytes, [], sym (append-nil bytes), sent)

-- a part of what goes first is a part of both
pub part-first : (old new : Option (List ℕ)) (first second : List ℕ) → AppendsPart old new first
    → AppendsPart old new (first ++ second)
part-first old new first second p =
    (p.0, p.1 ++ second, ap (λ b. b ++ second) p.2 ∙ append_assoc p.0 p.1 second, p.3)

-- so is the first with a part of the second
pub part-then : (old between new : Option (List ℕ)) (first second : List ℕ)
    → Appends old between first → AppendsPart between new second
    → AppendsPart old new (first ++ second)
part-then old between new first second sent p = (
  first ++ p.0,
  p.1,
  ap (λ b. first ++ b) p.2 ∙ sym (append_assoc first p.0 p.1),
  Appends-trans old between new first p.0 sent p.3,
)

pub sent-so : {T E : Type 0} (result : Result T E) (old new : Option (List ℕ)) (state : CallerState)
    (body told asked : List ℕ) → told ≡ body → body ≡ asked
    → Appends old new (message_of state told)
    → OnErr result (AppendsPart old new (message_of state asked))
sent-so (Ok v) old new state body told asked e h sent = tt
sent-so (Err fault) old new state body told asked e h sent =
    part-whole old new (message_of state asked)
    (subst (λ b. Appends old new (message_of state b)) (e ∙ h) sent)

pub on-err : {T E P : Type 0} (result : Result T E) → P → OnErr result P
on-err (Ok v) p = tt
on-err (Err fault) p = p

-- a message was sent, whatever is told of what came
pub part-sent : {T E : Type 0} (result : Result T E) (old new : Option (List ℕ)) (bytes : List ℕ)
    → Appends old new bytes → OnErr result (AppendsPart old new bytes)
part-sent result old new bytes sent = on-err result (part-whole old new bytes sent)

-- a part of what was asked was sent, whatever is told of it
pub part-so : {T E : Type 0} (result : Result T E) (old new : Option (List ℕ)) (state : CallerState)
    (body told asked : List ℕ) → told ≡ body → body ≡ asked
    → AppendsPart old new (message_of state told)
    → OnErr result (AppendsPart old new (message_of state asked))
part-so result old new state body told asked e h part =
    on-err result (subst (λ b. AppendsPart old new (message_of state b)) (e ∙ h) part)
