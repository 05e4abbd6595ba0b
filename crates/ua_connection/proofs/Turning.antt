-- What one item's answer is in the answer to the stream.
use Rattle.std.proofs.Common.{◌≡◌, ◌≢◌, ◌==◌, ℕ, ◌+◌, ◌<◌, ◌≤◌, Bool, true, false, List, [], ◌∷◌, ◌++◌, length, drop, Some, None, Ok, Err, refl, sym, ◌∙◌, ap, subst, arith}
use Rattle.std.specs.Prelude.{Option, Result, max, if◌then◌else◌}
use Rattle.std.proofs.lemmas.List.{append-nil, length-drop}
use Rattle.std.proofs.lemmas.Bool.Decides.{nat_tests}
use Rattle.ua_binary.specs.declared.codes.Status.{Status}
use Rattle.ua_binary.specs.declared.codes.TheConstants.Status.{BAD_OUT_OF_MEMORY}
use Rattle.uacp.specs.declared.types.Header.{Header}
use Rattle.uacp.specs.declared.types.Chunk.{Chunk}
use Rattle.uacp.specs.declared.types.UacpFault.{UacpFault}
use Rattle.uacp.specs.Stream.{ChunkContent}
use Rattle.uacp.specs.Chunks.{chunk_header}
use Rattle.uacp.specs.Held.{IntakeState, Gives, next_of, next_or, after_next}
use Rattle.uacp.specs.Fault.{uacp_fault_status}
use Rattle.ua_channel.specs.Taking.{ChannelState, piece_of}
use Rattle.ua_session.specs.Sessions as session
use Rattle.ua_settings.specs.Settings.{SettingsValues}
use Rattle.records.specs.Contents.{Content}
use Rattle.archive.specs.Store.{Store, StepResult, Done, NoMemory}
use Rattle.archive.proofs.Acting.{moves-as, moves-none, moves-none-by}
use Rattle.historian.specs.Services.{site_of}
use Rattle.counted_io.specs.declared.fault.ServeFault.{ServeFault}
use Rattle.ua_connection.specs.declared.outcome.Served.TheVariants.{EndOfInput, Closed, Refused}
use Rattle.counted_io.specs.declared.fault.ServeFault.TheVariants.{Read, Write, TooLong, OutOfMemory}
use Rattle.ua_connection.specs.declared.turn.Step.{Step}
use Rattle.ua_connection.specs.declared.turn.Step.TheVariants.{NeedsInput, Acknowledged, Continues, Ended}
use Rattle.archive.specs.Steps.{give}
use Rattle.ua_connection.specs.Environments.{Environment, or_out_of_memory, YieldsWith}
use Rattle.ua_connection.specs.Run.{Reply, AnswersStream}
use Rattle.ua_connection.specs.Client.{Client, ClientState, Ending, Answering, Item, whole, malformed, partial, ends, refuse, item_answer, chunk_answer, answer, found, next, chunks}
use Rattle.ua_connection.specs.Turns.{chunk_answer_or_starved, ConnectionState, link_of, Replies, Answered, AnsweredHere, AnswersBytes, Advances, AdvancesInto, RefusesTurn, IsNextCurrent, GivesOne, LeavesIntake, IsOwn, IsCounted, ending_of}
use Rattle.ua_connection.proofs.Outsides.{marked, empty_environment}
use Rattle.ua_connection.proofs.Runs.{answers-start, answers-item, answers-end}
use Rattle.ua_connection.proofs.Cutting.{falls, next-some, some_more, chunk-stands, fault-stands}
use Rattle.ua_connection.proofs.Steps.{here-refused, here-starved, here-fine, answered-by}

at : ConnectionState → Content → ClientState
at link R = record { client = link.client; content = R }

-- nothing more was answered
pub turned-none : (settings : SettingsValues) (a : Store) (link : ConnectionState)
    → Advances settings a a link empty_environment [] None link
turned-none settings a link = moves-none a (λ marks R S.
    AnswersBytes (site_of settings a) link R
    (record empty_environment { marks = marks }) [] None link S) (λ R. record {
      last = record { client = link.client; content = R };
      content = refl;
      goes = λ e. refl;
      answers = answers-start (chunks (site_of settings a))
          (record { client = link.client; content = R }) link.waiting;
    })

-- an item that stands first, whatever follows
pub turned-item : (settings : SettingsValues) (a b : Store) (link : ConnectionState) (item : Item)
    (n : ℕ) (used : Environment) (old new : List ℕ) (ending : Option Ending) (client : Client)
    → ((R : Content) (more : List ℕ)
    → next (record { client = link.client; content = R }) (link.waiting ++ more) ≡ Some (item, n))
    → Answered a b (λ R. answer (site_of settings a)
    (record { client = link.client; content = R }) item) used old new ending client
    → AdvancesInto settings a b link used old new ending
    (record { client = client; waiting = drop n link.waiting })
turned-item settings a b link item n used old new ending client stands h =
    let config = site_of settings a in
    let f : Content → Answering = λ R.
    answer config (record { client = link.client; content = R }) item in (
      h.made,
      h.appended,
      moves-as a b used.marks (λ marks R S.
          Replies (f R) (record used { marks = marks }) h.made ending client S)
          (λ marks R S. AnswersBytes config link R (record used { marks = marks }) h.made ending
          (record { client = client; waiting = drop n link.waiting }) S) (λ ms R S r. record {
            last = r.last;
            content = r.content;
            goes = r.goes;
            answers = answers-item (chunks config) (falls config)
                (record { client = link.client; content = R }) link.waiting (item, n)
                (record used { marks = ms })
                (record { out = h.made; ending = ending; state = r.last }) (stands R) r.does;
          }) h.moves,
    )

-- an end that asks no archive, by whichever item stands first, whatever follows
pub turned-end : (settings : SettingsValues) (a : Store) (link : ConnectionState)
    (item : List ℕ → Item × ℕ) (used : List StepResult) (old new : List ℕ) (ending : Ending)
    (left : ConnectionState)
    → ((R : Content) (more : List ℕ)
    → next (record { client = link.client; content = R }) (link.waiting ++ more) ≡ Some (item more))
    → (f : Content → Answering)
    → ((R : Content) (more : List ℕ) (r : Reply ClientState Ending)
    → YieldsWith (f R) (marked used) r
    → YieldsWith (answer (site_of settings a) (record { client = link.client; content = R })
    (item more).0) (marked used) r)
    → AnsweredHere f used old new (Some ending) left.client
    → AdvancesInto settings a a link (marked used) old new (Some ending) left
turned-end settings a link item used old new ending left stands f same h =
    let config = site_of settings a in (
      h.made,
      h.appended,
      moves-none-by a used h.quiet (λ marks R S.
          AnswersBytes config link R (record (marked used) { marks = marks }) h.made
          (Some ending) left S) (λ R.
          let r = h.replies R in
          let reply : Reply ClientState Ending =
          record { out = h.made; ending = Some ending; state = r.last } in
          record {
            last = r.last;
            content = r.content;
            goes = λ e. absurd cc;
            answers = answers-end (chunks config) (falls config)
                (record { client = link.client; content = R }) link.waiting left.waiting
                (marked used) reply ending refl (λ more.
                (item more, stands R more, same R more reply r.does));
          }),
    )

-- behind an end the bytes that wait are all that is told of the connection
pub into-ended : (settings : SettingsValues) (a b : Store) (link next other : ConnectionState)
    (used : Environment) (old new : List ℕ) (ending : Ending) → next.waiting ≡ other.waiting
    → AdvancesInto settings a b link used old new (Some ending) next
    → AdvancesInto settings a b link used old new (Some ending) other
into-ended settings a b link next other used old new ending same into =
    let config = site_of settings a in (
      into.0,
      into.1,
      moves-as a b used.marks (λ marks R S.
          AnswersBytes config link R (record used { marks = marks }) into.0 (Some ending) next S)
          (λ marks R S. AnswersBytes config link R (record used { marks = marks }) into.0
          (Some ending) other S) (λ ms R S r.
          let P : List ℕ → Type 0 =
          λ w. AnswersStream (chunks config)
          (record { client = link.client; content = R }) link.waiting
          (record used { marks = ms })
          (record { out = into.0; ending = Some ending; state = r.last }) w in
          record {
            last = r.last;
            content = r.content;
            goes = λ e. absurd cc;
            answers =
                subst P same r.answers;
          }) into.2,
    )

pub ends-other : (settings : SettingsValues) (a b : Store) (start link next other : ConnectionState)
    (used : Environment) (old new : List ℕ) (result : Result Step ServeFault) (ending : Ending)
    → start ≡ link → ending_of result ≡ Some ending
    → next.waiting ≡ other.waiting
    → AdvancesInto settings a b start used old new (ending_of result) next
    → AdvancesInto settings a b link used old new (ending_of result) other
ends-other settings a b start link next other used old new result ending is ends_so same into =
    let P : ConnectionState → Type 0 =
    λ l. AdvancesInto settings a b l used old new (ending_of result) other in
    let Q : Option Ending → ConnectionState → Type 0 =
    λ e l. AdvancesInto settings a b start used old new e l in
    subst P is (subst (λ e. Q e other) (sym ends_so)
    (into-ended settings a b start next other used old new ending same
    (subst (λ e. Q e next) ends_so into)))

-- ---- what an intake gives

-- the header of a chunk that was given
head_of : Chunk → Header
head_of chunk = record {
  kind = chunk.kind;
  letter = chunk.letter;
  size =
      8 + length chunk.body.now;
}

given-cut : (held : IntakeState) (chunk : Chunk) → IsNextCurrent held → Gives held (Ok (Some chunk))
    → chunk_header held.greeted held.limit held.waiting
    ≡ Ok (Some (record {
      kind = chunk.kind;
      letter = chunk.letter;
      size =
          8 + length chunk.body.now;
    }))
given-cut held chunk sound gives = sym sound ∙ gives.0

-- a whole chunk stands first
given-stands : (held : IntakeState) (taken : ℕ) (channel : Option ChannelState)
    (sessions : session.SessionsState) (chunk : Chunk) (R : Content) (more : List ℕ)
    → IsNextCurrent held → Gives held (Ok (Some chunk))
    → next (record { client = (link_of held taken channel sessions).client; content = R })
    (held.waiting ++ more) ≡ Some (whole (piece_of chunk), 8 + length chunk.body.now)
given-stands held taken channel sessions chunk R more sound gives =
    let standing : ClientState = record {
      client =
          (link_of held taken channel sessions).client;
      content = R;
    } in
    let header : Header = record {
      kind = chunk.kind;
      letter = chunk.letter;
      size =
          8 + length chunk.body.now;
    } in
    let stands = (chunk-stands standing held.waiting more header
    (given-cut held chunk sound gives)).0 in
    stands ∙ ap (λ (b : List ℕ). let p : ChunkContent =
    record { kind = chunk.kind; letter = chunk.letter; body = b } in
    Some (whole p, 8 + length chunk.body.now)) (sym gives.2)

pub few_test : (taken : ℕ) → taken ≢ 1000000 → (taken == 1000000) ≡ false
few_test taken few = grind (arith, nat_tests)

-- the chunk is answered
pub chunk-turned : (settings : SettingsValues) (a b : Store) (held : IntakeState) (taken : ℕ)
    (channel : Option ChannelState) (sessions : session.SessionsState) (chunk : Chunk)
    (left : List ℕ) (used : Environment) (old new : List ℕ) (ending : Option Ending)
    (client : Client)
    → IsNextCurrent held → Gives held (Ok (Some chunk)) → taken ≢ 1000000
    → left ≡ drop (8 + length chunk.body.now) held.waiting
    → Answered a b (λ R. chunk_answer_or_starved (site_of settings a)
    (record { client = (link_of held taken channel sessions).client; content = R })
    (piece_of chunk)) used old new ending client
    → AdvancesInto settings a b (link_of held taken channel sessions) used old new ending
    (record { client = client; waiting = left })
chunk-turned settings a b held taken channel sessions chunk left used old new ending client sound
    gives few leaves h =
    let link = link_of held taken channel sessions in
    let config = site_of settings a in
    let start : Content → ClientState = λ R. record { client = link.client; content = R } in
    let f : Content → Answering = λ R. chunk_answer_or_starved config (start R) (piece_of chunk) in
    let g : Content → Answering = λ R. answer config (start R) (whole (piece_of chunk)) in
    let P : List ℕ → Type 0 = λ l.
    AdvancesInto settings a b link used old new ending
    (record { client = client; waiting = l }) in
    subst P (sym leaves)
    (turned-item settings a b link (whole (piece_of chunk))
    (8 + length chunk.body.now) used old new ending client
    (λ R more. given-stands held taken channel sessions chunk R more sound gives)
    (answered-by a b f g empty_environment used old new ending client refl
    (λ ms R r does.
    let D : Bool → Type 0 = λ t.
    YieldsWith (or_out_of_memory (if t then give
    (ends (start R) [] (Err TooLong)) else chunk_answer config (start R) chunk.kind
    (piece_of chunk)) (refuse (start R) BAD_OUT_OF_MEMORY)) (record used { marks = ms }) r in
    subst D (sym (few_test taken few)) does) h))

-- a chunk too many
pub many-turned : (settings : SettingsValues) (a : Store) (held : IntakeState) (taken : ℕ)
    (channel : Option ChannelState) (sessions : session.SessionsState) (chunk : Chunk)
    (left : ConnectionState) (old : List ℕ) → IsNextCurrent held → Gives held (Ok (Some chunk))
    → (taken == 1000000) ≡ true
    → AdvancesInto settings a a (link_of held taken channel sessions) (marked (Done ∷ [])) old old
    (Some (Err TooLong)) left
many-turned settings a held taken channel sessions chunk left old sound gives many =
    let link = link_of held taken channel sessions in
    let config = site_of settings a in
    let start : Content → ClientState = λ R. record { client = link.client; content = R } in
    let g : Content → Answering = λ R. answer config (start R) (whole (piece_of chunk)) in
    turned-end settings a link (λ more. (whole (piece_of chunk), 8 + length chunk.body.now))
    (Done ∷ []) old old (Err TooLong) left (λ R more.
    given-stands held taken channel sessions chunk R more sound gives)
    g (λ R more r does. does)
    (record {
      quiet = refl;
      made = [];
      appended = sym (append-nil old);
      replies = λ R. record {
        last = start R;
        content = refl;
        goes = λ e. absurd cc;
        does = record {
          does = λ later. ap (λ (t : Bool).
              (if t then give (ends (start R) [] (Err TooLong)) else chunk_answer config
              (start R) chunk.kind (piece_of chunk)) later) many;
        };
      };
    })

-- a refusal is an end
refusal_ends : (code : Status) (result : Result Step ServeFault) (old new : List ℕ)
    → RefusesTurn code result old new → (e : Ending) × (ending_of result ≡ Some e)
refusal_ends code (Ok turn) old new refuses =
    (Ok (Refused code), ap (λ (t : Step). ending_of (Ok t)) refuses.0)
refusal_ends code (Err fault) old new refuses = (Err fault, refl)

-- a fault that stands in a chunk's place
fault-refused : (settings : SettingsValues) (a : Store) (held : IntakeState) (taken : ℕ)
    (channel : Option ChannelState) (sessions : session.SessionsState) (fault : UacpFault)
    (left : ConnectionState) (old new : List ℕ) (result : Result Step ServeFault)
    → IsNextCurrent held
    → Gives held (Err fault) → RefusesTurn (uacp_fault_status fault) result old new
    → (used : List StepResult) × AdvancesInto settings a a (link_of held taken channel sessions)
    (marked used) old new (ending_of result) left
fault-refused settings a held taken channel sessions fault left old new result sound gives refuses =
    let link = link_of held taken channel sessions in
    let config = site_of settings a in
    let start : Content → ClientState = λ R. record { client = link.client; content = R } in
    let h = here-refused (uacp_fault_status fault) start left.client old new result
    (λ R. refl) refuses in
    let end = refusal_ends (uacp_fault_status fault) result old new refuses in
    let f : Content → Answering = λ R. answer config (start R) (malformed fault) in
    let answered = here-fine (λ R. refuse (start R) (uacp_fault_status fault))
    (λ R. refuse (start R) BAD_OUT_OF_MEMORY) h.0 old new (ending_of result) left.client h.1 in
    let P : Option Ending → Type 0 = λ e. AnsweredHere f (Done ∷ h.0) old new e left.client in
    let Q : Option Ending → Type 0 =
    λ e. AdvancesInto settings a a link (marked (Done ∷ h.0)) old new e left in (
      Done ∷ h.0,
      subst Q (sym end.1)
          (turned-end settings a link (λ more. (malformed fault, length (held.waiting ++ more)))
          (Done ∷ h.0) old new end.0 left (λ R more.
          fault-stands (start R) held.waiting more fault (sym sound ∙ gives)) f
          (λ R more r does. does)
          (subst P end.1 answered)),
    )

pub fault-turned : (settings : SettingsValues) (a : Store) (held : IntakeState) (taken : ℕ)
    (channel : Option ChannelState) (sessions : session.SessionsState) (fault : UacpFault)
    (code : Status) (left : ConnectionState) (old new : List ℕ) (result : Result Step ServeFault)
    → IsNextCurrent held → Gives held (Err fault) → code ≡ uacp_fault_status fault
    → RefusesTurn code result old new
    → (used : List StepResult) × AdvancesInto settings a a (link_of held taken channel sessions)
    (marked used) old new (ending_of result) left
fault-turned settings a held taken channel sessions fault code left old new result sound gives told
    refuses =
    let Q : Status → Type 0 = λ c. RefusesTurn c result old new in
    fault-refused settings a held taken channel sessions fault left old new result sound gives
    (subst Q told refuses)

-- bytes came for which memory is wanting
pub starved-turned : (settings : SettingsValues) (a : Store) (link left : ConnectionState)
    (old new : List ℕ) (result : Result Step ServeFault) → 0 < length link.waiting
    → RefusesTurn BAD_OUT_OF_MEMORY result old new
    → (used : List StepResult) × AdvancesInto settings a a link (marked used) old new
    (ending_of result) left
starved-turned settings a link left old new result some refuses =
    let config = site_of settings a in
    let start : Content → ClientState = λ R. record { client = link.client; content = R } in
    let item : List ℕ → Item × ℕ =
    λ more. found (link.waiting
    ++ more) (chunk_header link.client.greeted link.client.limit (link.waiting ++ more)) in
    let h = here-refused BAD_OUT_OF_MEMORY start left.client old new result (λ R. refl) refuses in
    let end = refusal_ends BAD_OUT_OF_MEMORY result old new refuses in
    let f : Content → Answering = λ R. refuse (start R) BAD_OUT_OF_MEMORY in
    let starved : Content → Answering =
    λ R. or_out_of_memory (item_answer config (start R) partial) (f R) in
    let answered = here-starved (λ R. item_answer config (start R) partial) f h.0 old new
    (ending_of result) left.client h.1 in
    let P : Option Ending → Type 0 =
    λ e. AnsweredHere starved (NoMemory ∷ h.0) old new e left.client in
    let Q : Option Ending → Type 0 =
    λ e. AdvancesInto settings a a link (marked (NoMemory ∷ h.0)) old new e left in (
      NoMemory ∷ h.0,
      subst Q (sym end.1)
          (turned-end settings a link item (NoMemory ∷ h.0) old new end.0 left
          (λ R more. next-some (start R) (link.waiting ++ more)
          (some_more link.waiting more some)) starved
          (λ R more r does. record { does = λ later. does.does later }) (subst P end.1 answered)),
    )

-- ---- what is left in the intake

max-below : (limit : ℕ) → limit ≤ 65536 → max limit 4128 ≤ 65536
max-below limit small = omega arith

-- what is left once a chunk was given out
pub left-waiting : (held new : IntakeState) (chunk : Chunk) → Gives held (Ok (Some chunk))
    → new ≡ after_next held (next_of held)
    → new.waiting ≡ drop (8 + length chunk.body.now) held.waiting
left-waiting held new chunk gives is =
    ap (λ (h : IntakeState). h.waiting) (is ∙ ap (after_next held) gives.0)

-- an intake that gives a chunk gave no fault
whole-gives : (held : IntakeState) (header : Header) → next_of held ≡ Ok (Some header)
    → held.failed ≡ None
whole-gives held header gives = go held.failed refl
  where
    go : (o : Option UacpFault) → held.failed ≡ o → held.failed ≡ None
    go None e = e
    go (Some fault) e = let wrong =
        sym (ap (λ o. next_or o (chunk_header held.greeted held.limit held.waiting)) e) ∙ gives in
        absurd cc

-- a chunk that was given out has 24 bytes at least, and 65,536 at most
pub gives-one : (held new : IntakeState) (chunk : Chunk) → Gives held (Ok (Some chunk))
    → new ≡ after_next held (next_of held) → held.limit ≤ 65536 → GivesOne held new
gives-one held new chunk gives is small =
    let header : Header = record {
      kind = chunk.kind;
      letter = chunk.letter;
      size =
          8 + length chunk.body.now;
    } in
    let now = is ∙ ap (after_next held) gives.0 in
    let left = ap (length {A = ℕ}) (left-waiting held new chunk gives is) in
    let within = gives.1 in
    let most = max-below held.limit small in
    record {
      greeted = ap (λ (h : IntakeState). h.greeted) now;
      limit = ap (λ (h : IntakeState). h.limit) now;
      failed = ap (λ (h : IntakeState). h.failed) now ∙ whole-gives held header gives.0;
      less = (
        omega (
          arith,
          length-drop (8 + length chunk.body.now) held.waiting,
          within.0,
          within.1,
        ),
        omega (
          arith,
          length-drop (8 + length chunk.body.now) held.waiting,
          within.0,
          within.1,
          within.2,
        ),
      );
    }

-- a sound intake stays sound behind a chunk
pub sound-one : (held new : IntakeState) → GivesOne held new → IsNextCurrent new
sound-one held new one = ap (λ o. next_or o (chunk_header new.greeted new.limit new.waiting))
    one.failed

-- and behind a fault
fault-sound : (held : IntakeState) (fault : UacpFault) → IsNextCurrent held
    → next_of held ≡ Err fault → IsNextCurrent (record held { failed = Some fault })
fault-sound held fault sound gives = sym gives ∙ sound

pub fault-leaves : (held new : IntakeState) (fault : UacpFault) → IsNextCurrent held
    → Gives held (Err fault) → new ≡ after_next held (next_of held)
    → (new.limit ≡ held.limit) × IsNextCurrent new
fault-leaves held new fault sound gives is =
    let now = is ∙ ap (after_next held) gives in
    let P : IntakeState → Type 0 = λ h. (h.limit ≡ held.limit) × IsNextCurrent h in
    subst P (sym now) (refl, fault-sound held fault sound gives)

-- whatever a chunk came to
pub chunk-leaves : (held new : IntakeState) (result : Result Step ServeFault) → IsOwn ⊥ 65536 result
    → GivesOne held new → LeavesIntake result held new
chunk-leaves held new (Ok NeedsInput) own one = absurd own
chunk-leaves held new (Ok (Acknowledged limit)) own one = one
chunk-leaves held new (Ok Continues) own one = one
chunk-leaves held new (Ok (Ended served)) own one = (one.limit, sound-one held new one)
chunk-leaves held new (Err fault) own one = (one.limit, sound-one held new one)

pub refusal-leaves : (code : Status) (result : Result Step ServeFault) (old now : List ℕ)
    (held new : IntakeState) → RefusesTurn code result old now
    → (new.limit ≡ held.limit) × IsNextCurrent new → LeavesIntake result held new
refusal-leaves code (Ok turn) old now held new refuses leaves = let P : Step → Type 0 =
    λ t. LeavesIntake (Ok t) held new in subst P (sym refuses.0) leaves
refusal-leaves code (Err fault) old now held new refuses leaves = leaves

pub counted-one : (taken : ℕ) (result : Result Step ServeFault) → taken < 1000000
    → IsCounted taken result
counted-one taken (Ok NeedsInput) few = tt
counted-one taken (Ok (Acknowledged limit)) few = few
counted-one taken (Ok Continues) few = few
counted-one taken (Ok (Ended served)) few = tt
counted-one taken (Err fault) few = tt

pub counted-refusal : (code : Status) (taken : ℕ) (result : Result Step ServeFault)
    (old now : List ℕ) → RefusesTurn code result old now → IsCounted taken result
counted-refusal code taken (Ok turn) old now refuses = let P : Step → Type 0 =
    λ t. IsCounted taken (Ok t) in subst P (sym refuses.0) tt
counted-refusal code taken (Err fault) old now refuses = tt

-- what a chunk's answer is, is a turn's too
pub own-turn : (waits : Type 0) (result : Result Step ServeFault) → IsOwn ⊥ 65536 result
    → IsOwn waits 65536 result
own-turn waits (Ok NeedsInput) own = absurd own
own-turn waits (Ok (Acknowledged limit)) own = own
own-turn waits (Ok Continues) own = own
own-turn waits (Ok (Ended EndOfInput)) own = own
own-turn waits (Ok (Ended Closed)) own = own
own-turn waits (Ok (Ended (Refused code))) own = own
own-turn waits (Err Read) own = own
own-turn waits (Err Write) own = own
own-turn waits (Err TooLong) own = own
own-turn waits (Err OutOfMemory) own = own

-- no whole chunk is there
pub waits-turned : (settings : SettingsValues) (a : Store) (held new : IntakeState) (taken : ℕ)
    (channel : Option ChannelState) (sessions : session.SessionsState) (old : List ℕ)
    → Gives held (Ok None) → new ≡ after_next held (next_of held)
    → AdvancesInto settings a a (link_of held taken channel sessions) empty_environment old old None
    (record { client = (link_of held taken channel sessions).client; waiting = new.waiting })
waits-turned settings a held new taken channel sessions old gives is =
    let link = link_of held taken channel sessions in
    let same : new.waiting ≡ held.waiting =
    ap (λ (h : IntakeState). h.waiting) (is ∙ ap (after_next held) gives) in
    let P : List ℕ → Type 0 = λ w.
    AdvancesInto settings a a link empty_environment old old None
    (record { client = link.client; waiting = w }) in
    subst P (sym same) ([], sym (append-nil old), turned-none settings a link)
