-- Whole runs of an intake's calls keep the stream.
use Rattle.std.proofs.Common.{◌≡◌, ◌≢◌, ℕ, ◌+◌, ◌≤◌, Bool, true, false, List, [], ◌∷◌, ◌++◌, length, take, drop, Some, None, Ok, Err, refl, sym, ◌∙◌, ap, subst, append_assoc}
use Rattle.std.specs.Prelude.{Option, Result}
use Rattle.std.proofs.lemmas.List.{take-append-drop, append-nil}
use Rattle.uacp.specs.declared.types.Header.{Header}
use Rattle.uacp.specs.declared.types.UacpFault.{UacpFault}
use Rattle.uacp.specs.Chunks.{chunk_header}
use Rattle.uacp.specs.Stream.{ChunkContent, AreChunks, IsChunk, IsFault, IsRest, AreChunksThenRest, greeted_by}
use Rattle.uacp.specs.Held.{IntakeState, new_intake, GivesChunk, next_of, next_or, after_next}
use Rattle.uacp.specs.Run.{IntakeCall, Fed, Limited, Gave, Waited, Refused, DoesIntakeCall, RunsIntake, fed_of, given_of, first, limits_of, ended, OnlyRefuses}
use Rattle.uacp.proofs.Cuts.{cut-append}
use Rattle.uacp.proofs.Streams.{Cuts, cuts, rest-cut, splits-one}

-- a fault stays, whatever follows
fault-more : (greeted : Bool) (limit : ℕ) (bytes more : List ℕ) (fault : UacpFault)
    → IsFault greeted limit bytes fault → IsFault greeted limit (bytes ++ more) fault
fault-more greeted limit bytes more fault is =
    let alone = rest-cut greeted limit bytes (Some fault) is in
    let nothing : Result (Option Header) UacpFault = Ok None in
    let settled : chunk_header greeted limit bytes ≢ nothing = λ e. cc in
    let both : chunk_header greeted limit (bytes ++ more) ≡ Err fault =
    cut-append greeted limit bytes more settled ∙ alone in
    let P : Result (Option Header) UacpFault → Type 0 = Cuts greeted limit (bytes ++ more) in
    subst P both (cuts greeted limit (bytes ++ more))

-- ---- after a fault

-- an intake that gave a fault, and what its calls leave of it
record Stays (fault : UacpFault) (held : IntakeState) (events : List IntakeCall)
    (held' : IntakeState) : Type 0 where
  failed : held'.failed ≡ Some fault
  waiting : held'.waiting ≡ held.waiting ++ fed_of events
  greeted : held'.greeted ≡ held.greeted
  given : given_of events ≡ []
  only : OnlyRefuses fault events

next_failed : (held : IntakeState) (fault : UacpFault) (r : Result (Option Header) UacpFault)
    → held.failed ≡ Some fault → next_of held ≡ r → r ≡ Err fault
next_failed held fault r failed e =
    sym e ∙ ap (λ o. next_or o (chunk_header held.greeted held.limit held.waiting)) failed

stays : (fault : UacpFault) (events : List IntakeCall) (held held' : IntakeState)
    → held.failed ≡ Some fault → RunsIntake held events held' → Stays fault held events held'
stays fault [] held held' failed run =
    let P : IntakeState → Type 0 = λ h. Stays fault held [] h in
    subst P (sym run)
    (record {
      failed = failed;
      waiting = sym (append-nil held.waiting);
      greeted = refl;
      given =
          refl;
      only = tt;
    })
stays fault (Fed piece ∷ events) held held' failed run =
    let P : IntakeState → Type 0 = λ h. RunsIntake h events held' in
    let now : IntakeState = record held { waiting = held.waiting ++ piece } in
    let later = stays fault events now held' failed (subst P run.1 run.2) in
    record {
      failed = later.failed;
      waiting =
          later.waiting ∙ append_assoc held.waiting piece (fed_of events);
      greeted =
          later.greeted;
      given = later.given;
      only = later.only;
    }
stays fault (Limited n ∷ events) held held' failed run =
    let P : IntakeState → Type 0 = λ h. RunsIntake h events held' in
    let now : IntakeState = record held { limit = n } in
    let later = stays fault events now held' failed (subst P run.1 run.2) in
    record {
      failed = later.failed;
      waiting = later.waiting;
      greeted = later.greeted;
      given =
          later.given;
      only = later.only;
    }
stays fault (Gave piece ∷ events) held held' failed run =
    let wrong = next_failed held fault (next_of held) failed refl in
    let right = run.1.0.0 in absurd cc
stays fault (Waited ∷ events) held held' failed run =
    let wrong = next_failed held fault (next_of held) failed refl in
    let right = run.1.0 in absurd cc
stays fault (Refused other ∷ events) held held' failed run =
    let is = next_failed held fault (next_of held) failed refl in
    let told = run.1.0 in
    let same : other ≡ fault = cc in
    let now : IntakeState = record held { failed = Some fault } in
    let P : IntakeState → Type 0 = λ h. RunsIntake h events held' in
    let between : run.0 ≡ now = run.1.1 ∙ ap (after_next held) is in
    let later = stays fault events now held' refl (subst P between run.2) in
    record {
      failed = later.failed;
      waiting = later.waiting;
      greeted = later.greeted;
      given =
          later.given;
      only = (same, later.only);
    }

-- ---- before it

abbrev pub Stuck : Bool → ℕ → List ℕ → Option UacpFault → Type 0
Stuck greeted limit bytes None = Unit {0}
Stuck greeted limit bytes (Some fault) = IsFault greeted limit bytes fault

abbrev LimitIs : Option UacpFault → ℕ → ℕ → Type 0
LimitIs None limit last = limit ≡ last
LimitIs (Some fault) limit last = Unit {0}

-- what a run leaves of an intake that gave no fault before it
record Story (held : IntakeState) (events : List IntakeCall) (held' : IntakeState) : Type 0 where
  chunks : AreChunks held.greeted (limits_of held.limit events) (held.waiting ++ fed_of events)
      (given_of events) held'.waiting
  greeted : held'.greeted ≡ greeted_by held.greeted (given_of events)
  limit : LimitIs held'.failed held'.limit (limits_of held.limit events (length (given_of events)))
  stuck : Stuck (greeted_by held.greeted (given_of events))
      (limits_of held.limit events (length (given_of events))) held'.waiting held'.failed

cut_of : (held : IntakeState) → held.failed ≡ None
    → next_of held ≡ chunk_header held.greeted held.limit held.waiting
cut_of held none = ap (λ o. next_or o (chunk_header held.greeted held.limit held.waiting)) none

-- what comes next, in the words of the stream
cuts_of : (held : IntakeState) (r : Result (Option Header) UacpFault) → held.failed ≡ None
    → next_of held ≡ r → Cuts held.greeted held.limit held.waiting r
cuts_of held r none e =
    let P : Result (Option Header) UacpFault → Type 0 = Cuts held.greeted held.limit held.waiting in
    subst P (sym (cut_of held none) ∙ e) (cuts held.greeted held.limit held.waiting)

-- a chunk that was given is one
given_chunk : (held : IntakeState) (piece : ChunkContent) → held.failed ≡ None
    → GivesChunk held (Ok (Some piece))
    → IsChunk held.greeted held.limit piece (take (8 + length piece.body) held.waiting)
given_chunk held piece none answers =
    let header : Header = record {
      kind = piece.kind;
      letter = piece.letter;
      size =
          8 + length piece.body;
    } in
    let whole = cuts_of held (Ok (Some header)) none answers.0 in
    let P : List ℕ → Type 0 = λ b.
    IsChunk held.greeted held.limit
    (record { kind = piece.kind; letter = piece.letter; body = b })
    (take header.size held.waiting) in
    subst P (sym answers.2) whole.1

-- a fault that stands at the bytes held stands at all that follow
refused_story : (held : IntakeState) (fault : UacpFault) (events : List IntakeCall)
    (held' : IntakeState) → IsFault held.greeted held.limit held.waiting fault
    → Stays fault (record held { failed = Some fault }) events held'
    → Story held (Refused fault ∷ events) held'
refused_story held fault events held' is later =
    let C : List ChunkContent → Type 0 =
    λ given. AreChunks held.greeted (λ _. held.limit)
    (held.waiting ++ fed_of events) given held'.waiting in
    let S : List ChunkContent → Type 0 =
    λ given. Stuck (greeted_by held.greeted given) held.limit held'.waiting held'.failed in
    let W : List ℕ → Type 0 = λ bytes. IsFault held.greeted held.limit bytes fault in
    let F : Option UacpFault → Type 0 = Stuck held.greeted held.limit held'.waiting in
    let L : Option UacpFault → Type 0 = λ o. LimitIs o held'.limit held.limit in
    record {
      chunks = subst C (sym later.given) (sym later.waiting);
      greeted = later.greeted ∙ ap (greeted_by held.greeted) (sym later.given);
      limit = subst L (sym later.failed) tt;
      stuck = subst S (sym later.given) (subst F (sym later.failed)
          (subst W (sym later.waiting) (fault-more held.greeted held.limit held.waiting
          (fed_of events) fault is)));
    }

story : (events : List IntakeCall) (held held' : IntakeState) → held.failed ≡ None
    → RunsIntake held events held' → Story held events held'
story [] held held' none run =
    let P : IntakeState → Type 0 = λ h. Story held [] h in
    let S : Option UacpFault → Type 0 = Stuck held.greeted held.limit held.waiting in
    let L : Option UacpFault → Type 0 = λ o. LimitIs o held.limit held.limit in
    subst P (sym run)
    (record {
      chunks = append-nil held.waiting;
      greeted = refl;
      limit =
          subst L (sym none) refl;
      stuck = subst S (sym none) tt;
    })
story (Fed piece ∷ events) held held' none run =
    let P : IntakeState → Type 0 = λ h. RunsIntake h events held' in
    let now : IntakeState = record held { waiting = held.waiting ++ piece } in
    let later = story events now held' none (subst P run.1 run.2) in
    let Q : List ℕ → Type 0 = λ bytes.
    AreChunks held.greeted (limits_of held.limit events) bytes
    (given_of events) held'.waiting in
    record {
      chunks = subst Q (append_assoc held.waiting piece (fed_of events)) later.chunks;
      greeted = later.greeted;
      limit = later.limit;
      stuck = later.stuck;
    }
story (Limited n ∷ events) held held' none run =
    let P : IntakeState → Type 0 = λ h. RunsIntake h events held' in
    let now : IntakeState = record held { limit = n } in
    let later = story events now held' none (subst P run.1 run.2) in
    record {
      chunks = later.chunks;
      greeted = later.greeted;
      limit = later.limit;
      stuck =
          later.stuck;
    }
story (Gave piece ∷ events) held held' none run =
    let header : Header = record {
      kind = piece.kind;
      letter = piece.letter;
      size =
          8 + length piece.body;
    } in
    let now : IntakeState = record held { waiting = drop header.size held.waiting; greeted = true }
    in
    let between : run.0 ≡ now = run.1.1 ∙ ap (after_next held) run.1.0.0 in
    let P : IntakeState → Type 0 = λ h. RunsIntake h events held' in
    let later = story events now held' none (subst P between run.2) in
    let apart : held.waiting ++ fed_of events
    ≡ take header.size held.waiting ++ (drop header.size held.waiting ++ fed_of events) =
    ap (λ bytes. bytes ++ fed_of events) (sym (take-append-drop header.size held.waiting))
    ∙ append_assoc (take header.size held.waiting) (drop header.size held.waiting)
    (fed_of events) in
    record {
      chunks = (
        take header.size held.waiting,
        drop header.size held.waiting ++ fed_of events,
        apart,
        given_chunk held piece none run.1.0,
        later.chunks,
      );
      greeted = later.greeted;
      limit = later.limit;
      stuck = later.stuck;
    }
story (Waited ∷ events) held held' none run =
    let between : run.0 ≡ held = run.1.1 ∙ ap (after_next held) run.1.0 in
    let P : IntakeState → Type 0 = λ h. RunsIntake h events held' in
    let later = story events held held' none (subst P between run.2) in
    record {
      chunks = later.chunks;
      greeted = later.greeted;
      limit = later.limit;
      stuck =
          later.stuck;
    }
story (Refused fault ∷ events) held held' none run =
    let now : IntakeState = record held { failed = Some fault } in
    let between : run.0 ≡ now = run.1.1 ∙ ap (after_next held) run.1.0 in
    let P : IntakeState → Type 0 = λ h. RunsIntake h events held' in
    let later = stays fault events now held' refl (subst P between run.2) in
    refused_story held fault events held' (cuts_of held (Err fault) none run.1.0) later

-- ---- what a run ends in

-- a run up to its last call
record Last (held : IntakeState) (events : List IntakeCall) (event : IntakeCall)
    (held' : IntakeState) : Type 0 where
  between : IntakeState
  before : RunsIntake held events between
  last : DoesIntakeCall between event held'

last_of : (held : IntakeState) (events : List IntakeCall) (event : IntakeCall) (held' : IntakeState)
    → RunsIntake held (events ++ (event ∷ [])) held' → Last held events event held'
last_of held [] event held' run =
    let P : IntakeState → Type 0 = DoesIntakeCall held event in
    record { between = held; before = refl; last = subst P (sym run.2) run.1 }
last_of held (x ∷ events) event held' run =
    let later = last_of run.0 events event held' run.2 in
    record { between = later.between; before = (run.0, run.1, later.before); last = later.last }

-- the rest of a run, after a call
record After (held : IntakeState) (events : List IntakeCall) (event : IntakeCall)
    (more : List IntakeCall) (held' : IntakeState) : Type 0 where
  between : IntakeState
  now : IntakeState
  before : RunsIntake held events between
  does : DoesIntakeCall between event now
  later : RunsIntake now more held'

after_of : (held : IntakeState) (events : List IntakeCall) (event : IntakeCall)
    (more : List IntakeCall) (held' : IntakeState) → RunsIntake held (events ++ event ∷ more) held'
    → After held events event more held'
after_of held [] event more held' run = record {
  between = held;
  now = run.0;
  before = refl;
  does =
      run.1;
  later = run.2;
}
after_of held (x ∷ events) event more held' run =
    let rest = after_of run.0 events event more held' run.2 in
    record {
      between = rest.between;
      now = rest.now;
      before = (run.0, run.1, rest.before);
      does =
          rest.does;
      later = rest.later;
    }

-- what stands at the rest, in the words of the stream
stands_if : (o : Option UacpFault) (held : IntakeState) (limit : ℕ) (fault : Option UacpFault)
    → held.failed ≡ o → LimitIs o held.limit limit → Stuck held.greeted limit held.waiting o
    → (held' : IntakeState) → DoesIntakeCall held (ended fault) held'
    → IsRest held.greeted limit held.waiting fault
stands_if None held limit None failed same stuck held' does =
    let P : ℕ → Type 0 = λ n. IsRest held.greeted n held.waiting None in
    subst P same (cuts_of held (Ok None) failed does.0)
stands_if None held limit (Some fault) failed same stuck held' does =
    let P : ℕ → Type 0 = λ n. IsRest held.greeted n held.waiting (Some fault) in
    subst P same (cuts_of held (Err fault) failed does.0)
stands_if (Some other) held limit None failed same stuck held' does =
    let wrong = next_failed held other (next_of held) failed refl in
    let right = does.0 in absurd cc
stands_if (Some other) held limit (Some fault) failed same stuck held' does =
    let is = next_failed held other (next_of held) failed refl in
    let told = does.0 in
    let one : other ≡ fault = cc in
    let P : UacpFault → Type 0 = IsFault held.greeted limit held.waiting in
    subst P one stuck

-- nothing is given out where no whole chunk stands first
waits : (held : IntakeState) (fault : Option UacpFault) (held' : IntakeState)
    → DoesIntakeCall held (ended fault) held' → held'.waiting ≡ held.waiting
waits held None held' does = ap (λ (h : IntakeState). h.waiting)
    (does.1 ∙ ap (after_next held) does.0)
waits held (Some fault) held' does =
    ap (λ (h : IntakeState). h.waiting) (does.1 ∙ ap (after_next held) does.0)

-- the bytes fed are the chunks given out and the bytes held
pub stream-kept : (events : List IntakeCall) (held : IntakeState)
    → RunsIntake new_intake events held
    → AreChunks false (limits_of 65536 events) (fed_of events) (given_of events) held.waiting
stream-kept events held run = (story events new_intake held refl run).chunks

-- where next_chunk gave no chunk the bytes fed are a stream that ends so
pub stream-ends : (events : List IntakeCall) (fault : Option UacpFault) (held : IntakeState)
    → RunsIntake new_intake (events ++ (ended fault ∷ [])) held
    → AreChunksThenRest (limits_of 65536 events) (fed_of events)
    (given_of events) held.waiting fault
stream-ends events fault held run =
    let parts = last_of new_intake events (ended fault) held run in
    let told = story events new_intake parts.between refl parts.before in
    let at = limits_of 65536 events (length (given_of events)) in
    let S : Bool → Type 0 = λ g. Stuck g at parts.between.waiting parts.between.failed in
    let R : Bool → Type 0 = λ g. IsRest g at parts.between.waiting fault in
    let same = waits parts.between fault held parts.last in
    let W : List ℕ → Type 0 = λ bytes.
    AreChunksThenRest (limits_of 65536 events) (fed_of events) (given_of events) bytes fault in
    let rest = stands_if parts.between.failed parts.between at fault refl told.limit
    (subst S (sym told.greeted) told.stuck) held parts.last in
    subst W (sym same) (record { chunks = told.chunks; ends = subst R told.greeted rest })

-- after a fault next_chunk gives nothing but that fault
pub fault-stays : (events : List IntakeCall) (fault : UacpFault) (later : List IntakeCall)
    (held : IntakeState) → RunsIntake new_intake (events ++ Refused fault ∷ later) held
    → OnlyRefuses fault later
fault-stays events fault later held run =
    let parts = after_of new_intake events (Refused fault) later held run in
    let failed : parts.now.failed ≡ Some fault =
    ap (λ (h : IntakeState). h.failed) (parts.does.1
    ∙ ap (after_next parts.between) parts.does.0) in
    (stays fault later parts.now held failed parts.later).only

-- two runs over the same bytes, by the same limits, give out the same
pub runs-one : (events events' : List IntakeCall) (fault fault' : Option UacpFault)
    (held held' : IntakeState) → RunsIntake new_intake (events ++ (ended fault ∷ [])) held
    → RunsIntake new_intake (events' ++ (ended fault' ∷ [])) held'
    → fed_of events ≡ fed_of events' → ((k : ℕ) → k ≤ length (given_of events)
    → limits_of 65536 events k ≡ limits_of 65536 events' k)
    → (given_of events ≡ given_of events') × (held.waiting ≡ held'.waiting) × (fault ≡ fault')
runs-one events events' fault fault' held held' run run' same agree =
    let P : List ℕ → Type 0 = λ bytes.
    AreChunksThenRest (limits_of 65536 events') bytes (given_of events') held'.waiting fault' in
    splits-one (limits_of 65536 events) (limits_of 65536 events') (fed_of events) (given_of events)
    (given_of events') held.waiting held'.waiting fault fault' agree
    (stream-ends events fault held run) (subst P (sym same) (stream-ends events' fault' held' run'))

-- the same, as the law's clause has it
pub readings-one : (limits limits' : ℕ → ℕ) (bytes : List ℕ) (p q : List ChunkContent)
    (rest rest' : List ℕ) (fault fault' : Option UacpFault)
    → AreChunksThenRest limits bytes p rest fault → AreChunksThenRest limits' bytes q rest' fault'
    → ((k : ℕ) → k ≤ length p → limits k ≡ limits' k) → (p ≡ q) × (rest ≡ rest') × (fault ≡ fault')
readings-one limits limits' bytes p q rest rest' fault fault' first second agree =
    splits-one limits limits' bytes p q rest rest' fault fault' agree first second

pub ruleset stream = (readings-one, stream-kept, stream-ends, fault-stays, runs-one)
