-- What a stream is answered, item after item.
use Rattle.std.specs.Prelude.{◌≡◌, ℕ, zero, suc, ◌+◌, List, [], ◌++◌, length, drop, Option, None, Some}
use Rattle.archive.specs.Steps.{give, and_then}
use Rattle.ua_connection.specs.Environments.{Environment, before, WithEnvironment}

-- what an item or a stream is answered: the bytes to write, an end where there is one, and the
-- state that is left
abbrev pub Reply : Type 0 → Type 0 → Type 0
Reply C E = record { out : List ℕ; ending : Option E; state : C }

-- a way to answer streams: the item that stands first in some bytes, and how many bytes it has; its
-- answer; and how a stream ends in which no item stands
abbrev pub Protocol : Type 0 → Type 0 → Type 0 → Type 0
Protocol C X E =
    record
    { next : C → List ℕ → Option (X × ℕ); answer : C → X → WithEnvironment (Reply C E); at_end : E }

-- a reply, and where it doesn't end the stream what comes after it
abbrev pub with_later : {C E : Type 0} → WithEnvironment (Reply C E) → Reply C E
    → WithEnvironment (Reply C E)
with_later later reply =
    elim reply.ending [
      | Some e ↦ give reply
      | None ↦ and_then later (λ more. give (record more { out = reply.out ++ more.out }))
    ]

-- the answer to a stream that is at its end
abbrev pub ended : {C X E : Type 0} → Protocol C X E → C → WithEnvironment (Reply C E)
ended p state = give (record { out = []; ending = Some p.at_end; state = state })

-- the answer to the first n items
unfoldable pub run_items : {C X E : Type 0} → Protocol C X E → ℕ → C → List ℕ
    → WithEnvironment (Reply C E)
run_items p zero state bytes = ended p state
run_items p (suc n) state bytes =
    elim (p.next state bytes) [
      | None ↦ ended p state
      | Some item ↦ and_then (p.answer state item.0)
          (λ reply. with_later (run_items p n reply.state (drop item.1 bytes)) reply)
    ]

-- the answer to a whole stream; an item has a byte at least, so that as many items as bytes, and
-- one more, are enough
unfoldable pub stream_answered : {C X E : Type 0} → Protocol C X E → C → List ℕ
    → WithEnvironment (Reply C E)
stream_answered p state bytes = run_items p (length bytes + 1) state bytes

-- by this, and no more, of the outside the stream's answer begins with this reply, and goes on with
-- the answer to the rest; whatever follows the bytes that are there, and whatever the outside gives
-- later
pub record AnswersStream {C X E : Type 0} (p : Protocol C X E) (start : C) (bytes : List ℕ)
    (used : Environment) (reply : Reply C E) (rest : List ℕ) : Type 0 where
  pub goes : (more : List ℕ) (later : Environment)
      → stream_answered p start (bytes ++ more) (before used later)
      ≡ with_later (stream_answered p reply.state (rest ++ more)) reply later
