-- What stands first in some bytes stands there whatever follows.
use Rattle.std.proofs.Common.{sym}
use Rattle.uacp.specs.Held.{IntakeState, next_or}
use Rattle.ua_connection.specs.Turns.{IsNextCurrent}
use Rattle.std.proofs.Common.{◌≡◌, ◌≢◌, ℕ, ◌<◌, ◌≤◌, List, [], ◌∷◌, ◌++◌, length, take, drop, Some, None, Ok, Err, refl, ◌∙◌, ap, subst, arith}
use Rattle.std.specs.Prelude.{Option, Result}
use Rattle.std.proofs.lemmas.List.{take-append-le, drop-append-le, length-append}
use Rattle.uacp.specs.declared.types.Header.{Header}
use Rattle.uacp.specs.declared.types.UacpFault.{UacpFault}
use Rattle.uacp.specs.Stream.{ChunkContent}
use Rattle.uacp.specs.Chunks.{chunk_header}
use Rattle.uacp.proofs.Cuts.{cut-append, cut-within, cut-fault}
use Rattle.historian.specs.Services.{ServerConfig}
use Rattle.ua_connection.specs.Client.{ClientState, Item, whole, malformed, found, next, chunks}
use Rattle.ua_connection.proofs.Runs.{Falls}

found-falls : (standing : ClientState) (bytes : List ℕ) (o : Result (Option Header) UacpFault)
    → chunk_header standing.client.greeted standing.client.limit bytes ≡ o
    → 0 < length bytes → (0 < (found bytes o).1) × ((found bytes o).1 ≤ length bytes)
found-falls standing bytes (Ok None) cuts some = (some, omega arith)
found-falls standing bytes (Ok (Some header)) cuts some = let within =
    cut-within standing.client.greeted standing.client.limit bytes header cuts in
    (omega arith, within.1)
found-falls standing bytes (Err fault) cuts some = (some, omega arith)

next-falls : (standing : ClientState) (bytes : List ℕ) (item : Item × ℕ)
    → next standing bytes ≡ Some item → (0 < item.1) × (item.1 ≤ length bytes)
next-falls standing [] item e = absurd cc
next-falls standing (b ∷ bytes) item e =
    let first = found (b ∷ bytes) (chunk_header standing.client.greeted standing.client.limit
    (b ∷ bytes)) in
    let is : first ≡ item = cc in
    let P : (Item × ℕ) → Type 0 = λ i. (0 < i.1) × (i.1 ≤ length (b ∷ bytes)) in
    subst P is (found-falls standing (b
    ∷ bytes) (chunk_header standing.client.greeted standing.client.limit (b ∷ bytes)) refl
    (omega arith))

pub falls : (config : ServerConfig) → Falls (chunks config)
falls config = record { falls = next-falls }

-- where there are bytes, something stands first
pub next-some : (standing : ClientState) (bytes : List ℕ) → 0 < length bytes
    → next standing bytes ≡ Some (found bytes
    (chunk_header standing.client.greeted standing.client.limit bytes))
next-some standing [] some = absurd (omega arith)
next-some standing (b ∷ bytes) some = refl

pub some_more : (bytes more : List ℕ) → 0 < length bytes → 0 < length (bytes ++ more)
some_more bytes more some = omega (arith, length-append bytes more)

-- a chunk stands before more bytes too, and leaves them
pub chunk-stands : (standing : ClientState) (bytes more : List ℕ) (header : Header)
    → chunk_header standing.client.greeted standing.client.limit bytes ≡ Ok (Some header)
    → (next standing (bytes ++ more)
    ≡ Some (
      whole (record {
        kind = header.kind;
        letter = header.letter;
        body =
            drop 8 (take header.size bytes);
      }),
      header.size,
    ))
    × (drop header.size (bytes ++ more) ≡ drop header.size bytes ++ more)
chunk-stands standing bytes more header cuts =
    let within = cut-within standing.client.greeted standing.client.limit bytes header cuts in
    let nothing : Result (Option Header) UacpFault = Ok None in
    let settled : chunk_header standing.client.greeted standing.client.limit bytes ≢ nothing =
    λ h. cc in
    let again = cut-append standing.client.greeted standing.client.limit bytes more settled
    ∙ cuts in
    let piece_of = λ (front : List ℕ). let p : ChunkContent =
    record { kind = header.kind; letter = header.letter; body = drop 8 front } in p in (
      next-some standing (bytes ++ more) (some_more bytes more (omega (arith, within.0, within.1)))
          ∙ ap (λ o. Some (found (bytes ++ more) o)) again
          ∙ ap (λ front. Some (whole (piece_of front), header.size))
          (take-append-le header.size bytes more within.1),
      drop-append-le header.size bytes more within.1,
    )

-- a fault stands before more bytes too
pub fault-stands : (standing : ClientState) (bytes more : List ℕ) (fault : UacpFault)
    → chunk_header standing.client.greeted standing.client.limit bytes ≡ Err fault
    → next standing (bytes ++ more) ≡ Some (malformed fault, length (bytes ++ more))
fault-stands standing bytes more fault cuts =
    let long = cut-fault standing.client.greeted standing.client.limit bytes fault cuts in
    let nothing : Result (Option Header) UacpFault = Ok None in
    let settled : chunk_header standing.client.greeted standing.client.limit bytes ≢ nothing =
    λ h. cc in
    let again = cut-append standing.client.greeted standing.client.limit bytes more settled
    ∙ cuts in
    next-some standing (bytes ++ more) (some_more bytes more (omega arith))
    ∙ ap (λ o. Some (found (bytes ++ more) o)) again

-- ---- the intake

-- an intake that gave a fault has that fault in front
failed-first : (held : IntakeState) (fault : UacpFault) → IsNextCurrent held
    → held.failed ≡ Some fault → chunk_header held.greeted held.limit held.waiting ≡ Err fault
failed-first held fault sound failed =
    sym sound ∙ ap (λ o. next_or o (chunk_header held.greeted held.limit held.waiting)) failed

cut-more : (greeted : _) (limit : ℕ) (bytes more : List ℕ) (fault : UacpFault)
    → chunk_header greeted limit bytes ≡ Err fault
    → chunk_header greeted limit (bytes ++ more) ≡ Err fault
cut-more greeted limit bytes more fault cuts =
    let nothing : Result (Option Header) UacpFault = Ok None in
    let settled : chunk_header greeted limit bytes ≢ nothing = λ h. cc in
    cut-append greeted limit bytes more settled ∙ cuts

-- more bytes came
fed-sound : (held : IntakeState) (piece : List ℕ) → IsNextCurrent held
    → IsNextCurrent (record held { waiting = held.waiting ++ piece })
fed-sound held piece sound = go held.failed refl
  where
    go : (o : Option UacpFault) → held.failed ≡ o
        → IsNextCurrent (record held { waiting = held.waiting ++ piece })
    go None e = ap (λ o. next_or o (chunk_header held.greeted held.limit (held.waiting ++ piece))) e
    go (Some fault) e =
        ap (λ o. next_or o (chunk_header held.greeted held.limit (held.waiting ++ piece))) e
        ∙ sym (cut-more held.greeted held.limit held.waiting piece fault
        (failed-first held fault sound e))

pub fed-keeps : (taken : ℕ) (held new : IntakeState) (piece : List ℕ)
    → (taken ≤ 1000000) × (held.limit ≤ 65536) × IsNextCurrent held
    → new ≡ record held { waiting = held.waiting ++ piece }
    → (taken ≤ 1000000) × (new.limit ≤ 65536) × IsNextCurrent new
fed-keeps taken held new piece kept is =
    let P : IntakeState → Type 0 = λ h. (taken ≤ 1000000) × (h.limit ≤ 65536) × IsNextCurrent h in
    subst P (sym is) (kept.0, kept.1, fed-sound held piece kept.2)

pub same-keeps : (taken : ℕ) (held new : IntakeState)
    → (taken ≤ 1000000) × (held.limit ≤ 65536) × IsNextCurrent held → new ≡ held
    → (taken ≤ 1000000) × (new.limit ≤ 65536) × IsNextCurrent new
same-keeps taken held new kept is =
    let P : IntakeState → Type 0 = λ h. (taken ≤ 1000000) × (h.limit ≤ 65536) × IsNextCurrent h in
    subst P (sym is) kept
