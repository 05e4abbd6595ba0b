-- How answers to streams are put together.
use Rattle.std.proofs.Common.{◌≡◌, ℕ, zero, suc, ◌+◌, ◌<◌, ◌≤◌, List, [], ◌++◌, length, drop, Some, None, refl, sym, ◌∙◌, ap, subst, arith, append_assoc, add-one}
use Rattle.std.specs.Prelude.{Option}
use Rattle.std.proofs.lemmas.List.{length-drop, length-append, drop-append-le}
use Rattle.ua_connection.specs.Environments.{Environment, before, WithEnvironment, YieldsWith}
use Rattle.ua_connection.specs.Run.{Reply, Protocol, with_later, run_items, stream_answered, AnswersStream}
use Rattle.ua_connection.proofs.RunParts.{joined_by, stepped}
use Rattle.ua_connection.proofs.Outsides.{before-before, empty_environment}

-- an item has a byte at least, and its bytes are all there
pub record Falls {C X E : Type 0} (p : Protocol C X E) : Type 0 where
  pub falls : (state : C) (bytes : List ℕ) (item : X × ℕ) → p.next state bytes ≡ Some item
      → (0 < item.1) × (item.1 ≤ length bytes)

-- what was answered so far, before what comes later
abbrev behind : {C E : Type 0} → List ℕ → Reply C E × Environment → Reply C E × Environment
behind written x = (record x.0 { out = written ++ x.0.out }, x.1)

pub joined-same : {C E : Type 0} (reply : Reply C E) (a b : WithEnvironment (Reply C E))
    (left : Environment) → a left ≡ b left → with_later a reply left ≡ with_later b reply left
joined-same {C} {E} reply a b left same = go reply.ending
  where
    go : (o : Option E) → joined_by a reply o left ≡ joined_by b reply o left
    go (Some e) = refl
    go None = ap (behind reply.out) same

-- steps are one where what comes later is one on fewer bytes
stepped-same : {C X E : Type 0} (f h : C → List ℕ → WithEnvironment (Reply C E))
    (p : Protocol C X E) (state : C) (bytes : List ℕ) (outside : Environment) (o : Option (X × ℕ))
    → ((item : X × ℕ) → o ≡ Some item → (0 < item.1) × (item.1 ≤ length bytes))
    → ((s : C) (b : List ℕ) (later : Environment) → length b < length bytes
    → f s b later ≡ h s b later)
    → stepped f p state bytes o outside ≡ stepped h p state bytes o outside
stepped-same f h p state bytes outside None falls same = refl
stepped-same f h p state bytes outside (Some item) falls same =
    let reply = p.answer state item.0 outside in
    let less : (0 < item.1) × (item.1 ≤ length bytes) = falls item refl in
    let fewer : length (drop item.1 bytes) < length bytes =
    omega (arith, length-drop item.1 bytes) in
    joined-same reply.0 (f reply.0.state (drop item.1 bytes))
    (h reply.0.state (drop item.1 bytes)) reply.1
    (same reply.0.state (drop item.1 bytes) reply.1 fewer)

enough : {C X E : Type 0} (p : Protocol C X E) → Falls p
    → (n m : ℕ) (state : C) (bytes : List ℕ) (outside : Environment)
    → length bytes < n → length bytes < m
    → run_items p n state bytes outside ≡ run_items p m state bytes outside
unfolding run_items
enough p falls zero m state bytes outside low high = absurd (omega arith)
enough p falls (suc n) zero state bytes outside low high = absurd (omega arith)
enough p falls (suc n) (suc m) state bytes outside low high =
    stepped-same (run_items p n) (run_items p m) p state bytes outside (p.next state bytes)
    (falls.falls state bytes)
    (λ s b later less. enough p falls n m s b later (omega arith) (omega arith))

-- what is answered is the first item's reply, and then what the rest is answered
pub answered-step : {C X E : Type 0} (p : Protocol C X E) → Falls p
    → (state : C) (bytes : List ℕ) (outside : Environment)
    → stream_answered p state bytes outside
    ≡ stepped (stream_answered p) p state bytes (p.next state bytes) outside
unfolding stream_answered run_items
answered-step p falls state bytes outside =
    ap (λ n. run_items p n state bytes outside) (add-one (length bytes))
    ∙ stepped-same (run_items p (length bytes)) (stream_answered p) p state bytes outside
    (p.next state bytes) (falls.falls state bytes)
    (λ s b later less. enough p falls (length bytes) (length b + 1) s b later less (omega arith))

-- the item that stands first is answered
pub answered-item : {C X E : Type 0} (p : Protocol C X E) → Falls p
    → (state : C) (bytes : List ℕ) (item : X × ℕ) (used : Environment) (reply : Reply C E)
    (later : Environment)
    → p.next state bytes ≡ Some item → YieldsWith (p.answer state item.0) used reply
    → stream_answered p state bytes (before used later)
    ≡ with_later (stream_answered p reply.state (drop item.1 bytes)) reply later
answered-item {C} {X} {E} p falls state bytes item used reply later stands does =
    answered-step p falls state bytes (before used later)
    ∙ ap (λ (o : Option (X × ℕ)). stepped (stream_answered p) p state bytes o (before used later))
    stands
    ∙ ap (λ (r : Reply C E × Environment).
    with_later (stream_answered p r.0.state (drop item.1 bytes)) r.0 r.1) (does.does later)

-- nothing was answered yet
pub answers-start : {C X E : Type 0} (p : Protocol C X E) (start : C) (bytes : List ℕ)
    → AnswersStream p start bytes empty_environment
    (record { out = []; ending = None; state = start }) bytes
answers-start p start bytes = record { goes = λ more later. refl }

-- an item that stands first, whatever follows
pub answers-item : {C X E : Type 0} (p : Protocol C X E) → Falls p
    → (state : C) (bytes : List ℕ) (item : X × ℕ) (used : Environment) (reply : Reply C E)
    → ((more : List ℕ) → p.next state (bytes ++ more) ≡ Some item)
    → YieldsWith (p.answer state item.0) used reply
    → AnswersStream p state bytes used reply (drop item.1 bytes)
answers-item {C} {X} {E} p falls state bytes item used reply stands does =
    let all = falls.falls state (bytes ++ []) item (stands []) in
    let within : item.1 ≤ length bytes = omega (arith, length-append bytes [], all.1) in
    record {
      goes = λ more later.
          answered-item p falls state (bytes ++ more) item used reply later (stands more) does
          ∙ ap (λ rest. with_later (stream_answered p reply.state rest) reply later)
          (drop-append-le item.1 bytes more within);
    }

joined-ended : {C E : Type 0} (reply : Reply C E) (left : Environment) (ending : E)
    (a b : WithEnvironment (Reply C E)) → reply.ending ≡ Some ending
    → with_later a reply left ≡ with_later b reply left
joined-ended {C} {E} reply left ending a b ended =
    let P : Option E → Type 0 = λ o. joined_by a reply o left ≡ joined_by b reply o left in
    subst P (sym ended) refl

-- an item whose answer ends the stream, whichever it is
pub answers-end : {C X E : Type 0} (p : Protocol C X E) → Falls p
    → (state : C) (bytes rest : List ℕ) (used : Environment) (reply : Reply C E) (ending : E)
    → reply.ending ≡ Some ending
    → ((more : List ℕ) → (item : X × ℕ) × (p.next state (bytes ++ more) ≡ Some item)
    × YieldsWith (p.answer state item.0) used reply) → AnswersStream p state bytes used reply rest
answers-end p falls state bytes rest used reply ending ended so = record {
  goes = λ more later.
      let item = so more in
      answered-item p falls state (bytes ++ more) item.0 used reply later item.1 item.2
      ∙ joined-ended reply later ending _ _ ended;
}

joined-after : {C E : Type 0} (written : List ℕ) (reply : Reply C E)
    (later : WithEnvironment (Reply C E)) (left : Environment)
    → behind written (with_later later reply left)
    ≡ with_later later (record {
      out = written ++ reply.out;
      ending = reply.ending;
      state =
          reply.state;
    }) left
joined-after {C} {E} written reply later left = go reply.ending
  where
    go : (o : Option E) → behind written (joined_by later reply o left)
        ≡ joined_by later
        (record { out = written ++ reply.out; ending = reply.ending; state = reply.state }) o left
    go (Some e) = refl
    go None = ap (λ out. (record (later left).0 { out = out }, (later left).1))
        (sym (append_assoc written reply.out (later left).0.out))

-- one stretch after another
pub answers-then : {C X E : Type 0} (p : Protocol C X E) (start : C) (bytes : List ℕ)
    (used : Environment) (written : List ℕ) (state : C) (rest : List ℕ)
    (more_used : Environment) (reply : Reply C E) (left : List ℕ)
    → AnswersStream p start bytes used (record { out = written; ending = None; state = state }) rest
    → AnswersStream p state rest more_used reply left
    → AnswersStream p start bytes (before used more_used)
    (record { out = written ++ reply.out; ending = reply.ending; state = reply.state }) left
answers-then {C} {X} {E} p start bytes used written state rest more_used reply left first second =
    record {
      goes = λ more later.
          ap (λ o. stream_answered p start (bytes ++ more) o) (before-before used more_used later)
          ∙ first.goes more (before more_used later)
          ∙ ap (behind written) (second.goes more later)
          ∙ joined-after written reply (stream_answered p reply.state (left ++ more)) later;
    }

-- more bytes came
pub answers-more : {C X E : Type 0} (p : Protocol C X E) (start : C) (bytes piece : List ℕ)
    (used : Environment) (reply : Reply C E) (rest : List ℕ)
    → AnswersStream p start bytes used reply rest
    → AnswersStream p start (bytes ++ piece) used reply (rest ++ piece)
answers-more p start bytes piece used reply rest so = record {
  goes = λ more later.
      ap (λ b. stream_answered p start b (before used later)) (append_assoc bytes piece more)
      ∙ so.goes (piece ++ more) later
      ∙ ap (λ b. with_later (stream_answered p reply.state b) reply later)
      (sym (append_assoc rest piece more));
}
