-- How stretches of the answer make the answer to a connection.
use Rattle.std.proofs.Common.{◌≡◌, ◌<◌, length, arith, ℕ, List, [], ◌∷◌, ◌++◌, Some, None, Ok, Err, refl, sym, ◌∙◌, ap, subst, append_assoc}
use Rattle.std.specs.Prelude.{Option}
use Rattle.std.specs.Io.KnownBytes.{Appends, Consumes, IsAtEnd}
use Rattle.std.proofs.KnownBytes.{Appends-trans, Appends-nil, Consumes-trans, Consumes-nil}
use Rattle.std.proofs.lemmas.List.{append-nil, length-append}
use Rattle.std.proofs.lemmas.Grind.{flat_map-append}
use Rattle.counted_io.proofs.Tried.{kept_consumes, kept_appends}
use Rattle.uacp.specs.Chunks.{chunk_header}
use Rattle.uacp.specs.Greeting.{error}
use Rattle.ua_settings.specs.Settings.{SettingsValues}
use Rattle.ua_binary.specs.declared.codes.TheConstants.Status.{BAD_OUT_OF_MEMORY}
use Rattle.records.specs.Contents.{Content}
use Rattle.archive.specs.Store.{Store, StepResult, Done, faults_of}
use Rattle.archive.specs.Steps.{Transitions}
use Rattle.archive.proofs.Acting.{moves-as, moves-before-quiet}
use Rattle.historian.specs.Services.{ServerConfig, site_of}
use Rattle.ua_connection.specs.declared.outcome.Served.{Served}
use Rattle.ua_connection.specs.declared.outcome.Served.TheVariants.{EndOfInput, Closed, Refused}
use Rattle.counted_io.specs.declared.fault.ServeFault.{ServeFault}
use Rattle.counted_io.specs.declared.fault.ServeFault.TheVariants.{Read, Write, TooLong, OutOfMemory}
use Rattle.ua_connection.specs.declared.turn.Step.TheVariants.{Ended}
use Rattle.ua_connection.specs.Environments.{Environment, before}
use Rattle.ua_connection.specs.Passing.{LineEvent, Came, Went, AreWrites, Ways, Passes, came_in, came_of, went_of}
use Rattle.ua_connection.specs.Run.{Reply, AnswersStream, stream_answered}
use Rattle.ua_connection.specs.Client.{Client, ClientState, Ending, Item, partial, chunks, new_client, found, next}
use Rattle.ua_connection.specs.Turns.{ConnectionState, NeedsBytes, AnswersBytes, Advances, SentAll, IsOwnEnd, ServesSoFar, SendsRefusal}
use Rattle.ua_connection.specs.Serving.{IsEntire, IsServed, IsPrompt, ArePrompt, ServesPromptly, ServesBehind}
use Rattle.ua_connection.proofs.Outsides.{empty_environment, marked, before-before, before-nothing}
use Rattle.ua_connection.proofs.RunParts.{stepped}
use Rattle.ua_connection.proofs.Runs.{answered-step, answered-item, answers-more, joined-same}
use Rattle.ua_connection.proofs.Cutting.{falls, next-some}
use Rattle.ua_connection.proofs.Turning.{turned-none, starved-turned}
use Rattle.ua_connection.proofs.Flow.{kept-then}

-- before the first of these bytes is answered
abbrev pub start_of : List ℕ → ConnectionState
start_of came = record { client = new_client; waiting = came }

pub serves-start : (settings : SettingsValues) (a : Store) (link : ConnectionState)
    → link.client ≡ new_client → ServesSoFar settings a a link.waiting [] empty_environment link
serves-start settings a link is =
    let P : Client → Type 0 = λ c.
    Advances settings a a (record { client = c; waiting = link.waiting }) empty_environment []
    None link in
    let Q : List ℕ → Type 0 = λ w.
    Advances settings a a (start_of w) empty_environment [] None link in
    moves-as a a [] (λ marks R S. AnswersBytes (site_of settings a)
    (start_of (link.waiting ++ [])) R
    (record empty_environment { marks = marks }) [] None link S)
    (λ marks R S. AnswersBytes (site_of settings a) (start_of (link.waiting ++ [])) R
    (record empty_environment { marks = marks }) [] None link S × Unit {0})
    (λ ms R S r. (r, tt))
    (subst Q (sym (append-nil link.waiting)) (subst P is (turned-none settings a link)))

-- ---- where nothing more comes

-- what is left, if anything, is answered by nothing
abbrev end_marks : List ℕ → List StepResult
end_marks [] = []
end_marks (byte ∷ bytes) = Done ∷ []

end-quiet : (bytes : List ℕ) → faults_of (end_marks bytes) ≡ []
end-quiet [] = refl
end-quiet (byte ∷ bytes) = refl

abbrev over_answer : ClientState → Environment → Reply ClientState Ending × Environment
over_answer standing later = (
  record { out = []; ending = Some (Ok EndOfInput); state = standing },
  later,
)

ends-waiting : (config : ServerConfig) (standing : ClientState) (waiting : List ℕ)
    (later : Environment) → chunk_header standing.client.greeted standing.client.limit waiting
    ≡ Ok None
    → stream_answered (chunks config) standing waiting (before (marked (end_marks waiting)) later)
    ≡ over_answer standing later
ends-waiting config standing [] later short =
    answered-step (chunks config) (falls config) standing [] later
ends-waiting config standing (b ∷ waiting) later short =
    let bytes = b ∷ waiting in
    let stands : next standing bytes ≡ Some (partial, length bytes) =
    next-some standing bytes (omega arith) ∙ ap (λ o. Some (found bytes o)) short in
    answered-item (chunks config) (falls config) standing bytes (partial, length bytes)
    (marked (Done ∷ [])) (record { out = []; ending = Some (Ok EndOfInput); state = standing })
    later stands (record { does = λ more. refl })

whole-of : (config : ServerConfig) (start last : ClientState) (came waiting out : List ℕ)
    (used : Environment) → AnswersStream (chunks config) start came used
    (record { out = out; ending = None; state = last }) waiting
    → chunk_header last.client.greeted last.client.limit waiting ≡ Ok None
    → IsEntire (chunks config) start came (before used (marked (end_marks waiting))) out
    (Ok EndOfInput) last
whole-of config start last came waiting out used answers short = λ later.
    let p = chunks config in
    let ms = marked (end_marks waiting) in
    let reply : Reply ClientState Ending = record { out = out; ending = None; state = last } in
    ap (λ (b : List ℕ). stream_answered p start b (before (before used ms) later))
    (sym (append-nil came))
    ∙ ap (λ (o : Environment). stream_answered p start (came ++ []) o) (before-before used ms later)
    ∙ answers.goes [] (before ms later)
    ∙ joined-same reply (stream_answered p last (waiting ++ [])) (λ o. over_answer last later)
    (before ms later) (ap (λ (b : List ℕ). stream_answered p last b (before ms later))
    (append-nil waiting) ∙ ends-waiting config last waiting later short)
    ∙ ap (λ (o : List ℕ). let a : Reply ClientState Ending =
    record { out = o; ending = Some (Ok EndOfInput); state = last } in (a, later)) (append-nil out)

-- ---- all that came was answered

-- where no mark is left, nothing comes in the way of the end
quiet-end : (config : ServerConfig) (standing : ClientState) (waiting : List ℕ)
    → chunk_header standing.client.greeted standing.client.limit waiting ≡ Ok None
    → stream_answered (chunks config) standing waiting empty_environment
    ≡ over_answer standing empty_environment
quiet-end config standing [] short =
    answered-step (chunks config) (falls config) standing [] empty_environment
quiet-end config standing (b ∷ waiting) short =
    let bytes = b ∷ waiting in
    let stands : next standing bytes ≡ Some (partial, length bytes) =
    next-some standing bytes (omega arith) ∙ ap (λ o. Some (found bytes o)) short in
    answered-step (chunks config) (falls config) standing bytes empty_environment
    ∙ ap (λ (o : Option (Item × ℕ)).
    stepped (stream_answered (chunks config)) (chunks config) standing bytes o empty_environment)
    stands

-- less than a chunk waits
prompt-now : (config : ServerConfig) (came out : List ℕ) (used : Environment)
    (link : ConnectionState)
    (R S : Content) → AnswersBytes config (start_of came) R used out None link S → NeedsBytes link
    → IsPrompt config R used came out
prompt-now config came out used link R S r short =
    let p = chunks config in
    let start : ClientState = record { client = new_client; content = R } in
    let reply : Reply ClientState Ending = record { out = out; ending = None; state = r.last } in
    let C : Client → Type 0 = λ c. chunk_header c.greeted c.limit link.waiting ≡ Ok None in
    record {
      now = used;
      later = empty_environment;
      first = before-nothing used;
      last = r.last;
      whole =
          ap (λ (b : List ℕ). stream_answered p start b used) (sym (append-nil came))
          ∙ ap (λ (o : Environment). stream_answered p start (came ++ []) o)
          (sym (before-nothing used))
          ∙ r.answers.goes [] empty_environment
          ∙ joined-same reply (stream_answered p r.last (link.waiting ++ []))
          (λ o. over_answer r.last empty_environment) empty_environment
          (ap (λ (b : List ℕ). stream_answered p r.last b empty_environment)
          (append-nil link.waiting)
          ∙ quiet-end config r.last link.waiting (subst C (sym (r.goes refl)) short))
          ∙ ap (λ (o : List ℕ). let a : Reply ClientState Ending =
          record { out = o; ending = Some (Ok EndOfInput); state = r.last } in
          (a, empty_environment)) (append-nil out);
    }

-- it was, whatever was used since
prompts-later : (config : ServerConfig) (R : Content) (used more : Environment) (came out : List ℕ)
    (events : List LineEvent) → ArePrompt config R used came out events
    → ArePrompt config R (before used more) came out events
prompts-later config R used more came out [] p = tt
prompts-later config R used more came out (Came piece ∷ events) p =
    let now = p.0 in (
      record {
        now = now.now;
        later = before now.later more;
        first = sym (before-before now.now now.later more)
            ∙ ap (λ (o : Environment). before o more) now.first;
        last = now.last;
        whole = now.whole;
      },
      prompts-later config R used more (came ++ came_in (Came piece)) out events p.1,
    )
prompts-later config R used more came out (Went bytes ∷ events) p =
    prompts-later config R used more came (out ++ bytes) events p

prompts-append : (config : ServerConfig) (R : Content) (used : Environment) (came out : List ℕ)
    (xs ys : List LineEvent) → ArePrompt config R used came out xs
    → ArePrompt config R used (came ++ came_of xs) (out ++ went_of xs) ys
    → ArePrompt config R used came out (xs ++ ys)
prompts-append config R used came out [] ys p q =
    let P : List ℕ → Type 0 = λ c. ArePrompt config R used c (out ++ []) ys in
    let Q : List ℕ → Type 0 = λ o. ArePrompt config R used came o ys in
    subst Q (append-nil out) (subst P (append-nil came) q)
prompts-append config R used came out (Came piece ∷ xs) ys p q =
    let P : List ℕ → Type 0 = λ c. ArePrompt config R used c (out ++ went_of xs) ys in (
      p.0,
      prompts-append config R used (came ++ came_in (Came piece)) out xs ys p.1
          (subst P (sym (append_assoc came (came_in (Came piece)) (came_of xs))) q),
    )
prompts-append config R used came out (Went bytes ∷ xs) ys p q =
    let P : List ℕ → Type 0 = λ o. ArePrompt config R used (came ++ came_of xs) o ys in
    prompts-append config R used came (out ++ bytes) xs ys p
    (subst P (sym (append_assoc out bytes (went_of xs))) q)

prompts-writes : (config : ServerConfig) (R : Content) (used : Environment) (came out : List ℕ)
    (events : List LineEvent) → AreWrites events → ArePrompt config R used came out events
prompts-writes config R used came out [] p = tt
prompts-writes config R used came out (Came piece ∷ events) p = absurd p
prompts-writes config R used came out (Went bytes ∷ events) p =
    prompts-writes config R used came (out ++ bytes) events p

-- then more was written, while other things were used
prompts-written : (config : ServerConfig) (R : Content) (used more : Environment) (first : List ℕ)
    (events writes : List LineEvent) → AreWrites writes → ArePrompt config R used first [] events
    → ArePrompt config R (before used more) first [] (events ++ writes)
prompts-written config R used more first events writes only p =
    prompts-append config R (before used more) first [] events writes
    (prompts-later config R used more first [] events p)
    (prompts-writes config R (before used more) (first ++ came_of events)
    (went_of events) writes only)

-- then more was read
prompts-read : (config : ServerConfig) (R S : Content) (used : Environment) (first : List ℕ)
    (events : List LineEvent) (piece : Option (List ℕ)) (link : ConnectionState)
    → AnswersBytes config (start_of (first ++ came_of events)) R used (went_of events) None link S
    → NeedsBytes link
    → ArePrompt config R used first [] events
    → ArePrompt config R used first [] (events ++ Came piece ∷ [])
prompts-read config R S used first events piece link r short p =
    prompts-append config R used first [] events (Came piece ∷ []) p
    (prompt-now config (first ++ came_of events) (went_of events) used link R S r short, tt)

-- ---- what came and what went

came-writes : (events : List LineEvent) → AreWrites events → came_of events ≡ []
came-writes [] p = refl
came-writes (Came piece ∷ events) p = absurd p
came-writes (Went bytes ∷ events) p = came-writes events p

came-written : (events writes : List LineEvent) → AreWrites writes
    → came_of (events ++ writes) ≡ came_of events
came-written events writes only = flat_map-append came_in events writes
    ∙ ap (λ c. came_of events ++ c) (came-writes writes only) ∙ append-nil (came_of events)

came-read : (events : List LineEvent) (piece : Option (List ℕ))
    → came_of (events ++ Came piece ∷ []) ≡ came_of events ++ came_in (Came piece)
came-read events piece = flat_map-append came_in events (Came piece ∷ [])
    ∙ ap (λ c. came_of events ++ c) (append-nil (came_in (Came piece)))

went-written : (events writes : List LineEvent)
    → went_of (events ++ writes) ≡ went_of events ++ went_of writes
went-written events writes = flat_map-append (λ (event : LineEvent).
    elim event [ Went bytes ↦ bytes | _ ↦ [] ]) events writes

went-read : (events : List LineEvent) (piece : Option (List ℕ))
    → went_of (events ++ Came piece ∷ []) ≡ went_of events
went-read events piece = went-written events (Came piece ∷ []) ∙ append-nil (went_of events)

-- ---- stretches

-- what was answered, and when, in other words for what came and went
abbrev SoFar : SettingsValues → Store → Store → List ℕ → List LineEvent → (came out : List ℕ)
    → Environment → Option Ending → ConnectionState → Type 0
SoFar settings a b first events came out used ending link = Transitions a b used.marks (λ marks R S.
    AnswersBytes (site_of settings a) (start_of came) R
    (record used { marks = marks }) out ending link S
    × ArePrompt (site_of settings a) R (record used { marks = marks }) first [] events)

so-as : (settings : SettingsValues) (a b : Store) (first : List ℕ) (events : List LineEvent)
    (came more out also : List ℕ) (used : Environment) (ending : Option Ending)
    (link : ConnectionState) → came ≡ more → out ≡ also
    → SoFar settings a b first events came out used ending link
    → SoFar settings a b first events more also used ending link
so-as settings a b first events came more out also used ending link e f so =
    let P : List ℕ → Type 0 = λ c. SoFar settings a b first events c also used ending link in
    let Q : List ℕ → Type 0 = λ o. SoFar settings a b first events came o used ending link in
    subst P e (subst Q f so)

-- more bytes came
reaches-more : (config : ServerConfig) (came piece out : List ℕ) (link : ConnectionState)
    (used : Environment) (R S : Content)
    → AnswersBytes config (start_of came) R used out None link S
    → AnswersBytes config (start_of (came ++ piece)) R used out None
    (record link { waiting = link.waiting ++ piece }) S
reaches-more config came piece out link used R S r = record {
  last = r.last;
  content = r.content;
  goes = r.goes;
  answers = answers-more (chunks config)
      (record { client = new_client; content = R }) came piece used
      (record { out = out; ending = None; state = r.last }) link.waiting r.answers;
}

pub serves-fed : (settings : SettingsValues) (a b : Store) (first : List ℕ)
    (events : List LineEvent) (used : Environment) (link fed : ConnectionState) (piece : List ℕ)
    → ServesSoFar settings a b first events used link → NeedsBytes link
    → fed ≡ record link { waiting = link.waiting ++ piece }
    → ServesSoFar settings a b first (events ++ Came (Some piece) ∷ []) used fed
serves-fed settings a b first events used link fed piece so short is =
    let config = site_of settings a in
    let came = first ++ came_of events in
    let more : ConnectionState = record link { waiting = link.waiting ++ piece } in
    let after = events ++ Came (Some piece) ∷ [] in
    let P : ConnectionState → Type 0 = λ l. ServesSoFar settings a b first after used l in
    subst P (sym is)
    (so-as settings a b first after (came ++ piece) (first ++ came_of after) (went_of events)
    (went_of after) used None more
    (append_assoc first (came_of events) piece
    ∙ ap (λ (c : List ℕ). first ++ c) (sym (came-read events (Some piece))))
    (sym (went-read events (Some piece)))
    (moves-as a b used.marks (λ marks R S.
    AnswersBytes config (start_of came) R (record used { marks = marks })
    (went_of events) None link S
    × ArePrompt config R (record used { marks = marks }) first [] events)
    (λ marks R S. AnswersBytes config (start_of (came ++ piece)) R (record used { marks = marks })
    (went_of events) None more S
    × ArePrompt config R (record used { marks = marks }) first [] after)
    (λ ms R S r. (
      reaches-more config came piece (went_of events) link
          (record used { marks = ms }) R S r.0,
      prompts-read config R S (record used { marks = ms }) first events
          (Some piece) link r.0 short r.1,
    )) so))

-- what waits was answered, and this was written
serves-then : (settings : SettingsValues) (a b c : Store) (first : List ℕ)
    (events writes : List LineEvent) (used more : Environment) (link next : ConnectionState)
    (out : List ℕ) (ending : Option Ending) → ServesSoFar settings a b first events used link
    → AreWrites writes
    → Advances settings b c link more out ending next
    → SoFar settings a c first (events ++ writes) (first ++ came_of (events ++ writes))
    (went_of events ++ out) (before used more) ending next
serves-then settings a b c first events writes used more link next out ending so only turned =
    let config = site_of settings a in
    let came = first ++ came_of events in
    so-as settings a c first (events ++ writes) came (first ++ came_of (events ++ writes))
    (went_of events ++ out) (went_of events ++ out) (before used more) ending next
    (ap (λ (c : List ℕ). first ++ c) (sym (came-written events writes only))) refl
    (kept-then settings a b c (start_of came) link next used more (went_of events) out ending
    (λ o R. ArePrompt config R o first [] events)
    (λ o R. ArePrompt config R o first [] (events ++ writes))
    (λ o m R p. prompts-written config R o m first events writes only p) so turned)

pub serves-drained : (settings : SettingsValues) (a b c : Store) (first : List ℕ)
    (events writes : List LineEvent) (used more : Environment) (link next : ConnectionState)
    → ServesSoFar settings a b first events used link
    → SentAll settings b c link more writes (Ok None) next
    → ServesSoFar settings a c first (events ++ writes) (before used more) next
serves-drained settings a b c first events writes used more link next so drained =
    let came = first ++ came_of (events ++ writes) in
    so-as settings a c first (events ++ writes) came came (went_of events ++ went_of writes)
    (went_of (events ++ writes)) (before used more) None next refl
    (sym (went-written events writes))
    (serves-then settings a b c first events writes used more link next
    (went_of writes) None so drained.0 drained.1)

-- ---- ends

-- ends of the answer's own
abbrev pub IsFinal : Ending → Type 0
IsFinal (Ok EndOfInput) = ⊥
IsFinal (Ok Closed) = Unit {0}
IsFinal (Ok (Refused code)) = Unit {0}
IsFinal (Err Read) = ⊥
IsFinal (Err Write) = ⊥
IsFinal (Err TooLong) = Unit {0}
IsFinal (Err OutOfMemory) = Unit {0}

final-served : (config : ServerConfig) (came out : List ℕ) (used : Environment) (ending : Ending)
    (next : ConnectionState) (R S : Content) → IsFinal ending
    → AnswersBytes config (start_of came) R used out (Some ending) next S
    → (last : ClientState) × (last.content ≡ S)
    × IsServed (chunks config) (record { client = new_client; content = R }) came used out ending
    last
final-served config came out used (Ok EndOfInput) next R S final r = absurd final
final-served config came out used (Ok Closed) next R S final r =
    (r.last, r.content, (next.waiting, r.answers))
final-served config came out used (Ok (Refused code)) next R S final r =
    (r.last, r.content, (next.waiting, r.answers))
final-served config came out used (Err Read) next R S final r = absurd final
final-served config came out used (Err Write) next R S final r = absurd final
final-served config came out used (Err TooLong) next R S final r =
    (r.last, r.content, (next.waiting, r.answers))
final-served config came out used (Err OutOfMemory) next R S final r =
    (r.last, r.content, (next.waiting, r.answers))

final-over : (ending : Ending) → IsFinal ending → ending ≡ Ok EndOfInput → ⊥
final-over ending final is = let P : Ending → Type 0 = IsFinal in subst P is final

serves-final : (settings : SettingsValues) (a b c : Store) (first : List ℕ)
    (events writes : List LineEvent) (used more : Environment) (link next : ConnectionState)
    (ending : Ending) → ServesSoFar settings a b first events used link → AreWrites writes
    → Advances settings b c link more (went_of writes) (Some ending) next → IsFinal ending
    → ServesPromptly settings a c first (events ++ writes) (before used more) ending
serves-final settings a b c first events writes used more link next ending so only turned final =
    let config = site_of settings a in
    let all = events ++ writes in
    let came = first ++ came_of all in
    record {
      over = λ e. absurd (final-over ending final e);
      served = moves-as a c (before used more).marks
          (λ marks R S. AnswersBytes config (start_of came) R
          (record (before used more) { marks = marks }) (went_of all) (Some ending) next S
          × ArePrompt config R (record (before used more) { marks = marks }) first [] all)
          (λ marks R S. (last : ClientState) × (last.content ≡ S)
          × IsServed (chunks config) (record { client = new_client; content = R }) came
          (record (before used more) { marks = marks }) (went_of all) ending last
          × ArePrompt config R (record (before used more) { marks = marks }) first [] all)
          (λ ms R S r.
          let (last, content, served) =
          final-served config came (went_of all)
          (record (before used more) { marks = ms }) ending next R S final r.0 in
          (last, content, served, r.1))
          (so-as settings a c first all came came (went_of events ++ went_of writes) (went_of all)
          (before used more) (Some ending) next refl (sym (went-written events writes))
          (serves-then settings a b c first events writes used more link next (went_of writes)
          (Some ending) so only turned));
    }

-- a fault of the writer
serves-part : (settings : SettingsValues) (a b c : Store) (first : List ℕ)
    (events writes : List LineEvent) (used more : Environment) (link next : ConnectionState)
    (unsent : List ℕ) (ending : Option Ending) → ServesSoFar settings a b first events used link
    → AreWrites writes
    → Advances settings b c link more (went_of writes ++ unsent) ending next
    → ServesPromptly settings a c first (events ++ writes) (before used more) (Err Write)
serves-part settings a b c first events writes used more link next unsent ending so only turned =
    let config = site_of settings a in
    let all = events ++ writes in
    let came = first ++ came_of all in
    record {
      over = λ e. absurd cc;
      served = moves-as a c (before used more).marks
          (λ marks R S. AnswersBytes config (start_of came) R
          (record (before used more) { marks = marks }) (went_of all ++ unsent) ending next S
          × ArePrompt config R (record (before used more) { marks = marks }) first [] all)
          (λ marks R S. (last : ClientState) × (last.content ≡ S)
          × IsServed (chunks config) (record { client = new_client; content = R }) came
          (record (before used more) { marks = marks }) (went_of all) (Err Write) last
          × ArePrompt config R (record (before used more) { marks = marks }) first [] all)
          (λ ms R S r. (r.0.last, r.0.content, (unsent, next.waiting, ending, r.0.answers), r.1))
          (so-as settings a c first all came came (went_of events ++ (went_of writes ++ unsent))
          (went_of all ++ unsent) (before used more) ending next refl
          (sym (append_assoc (went_of events) (went_of writes) unsent)
          ∙ ap (λ (o : List ℕ). o ++ unsent) (sym (went-written events writes)))
          (serves-then settings a b c first events writes used more link next
          (went_of writes ++ unsent) ending so only turned));
    }

pub serves-ended : (settings : SettingsValues) (a b c : Store) (first : List ℕ)
    (events writes : List LineEvent) (used more : Environment) (link next : ConnectionState)
    (waits : Type 0) (served : Served) → ServesSoFar settings a b first events used link
    → SentAll settings b c link more writes (Ok (Some served)) next
    → IsOwnEnd waits (Ok (Some served))
    → ServesPromptly settings a c first (events ++ writes) (before used more) (Ok served)
serves-ended settings a b c first events writes used more link next waits EndOfInput so drained own
    = absurd own
serves-ended settings a b c first events writes used more link next waits Closed so drained own =
    serves-final settings a b c first events writes used more link next
    (Ok Closed) so drained.0 drained.1 tt
serves-ended settings a b c first events writes used more link next waits
    (Refused code) so drained own =
    serves-final settings a b c first events writes used more link next
    (Ok (Refused code)) so drained.0 drained.1 tt

pub serves-failed : (settings : SettingsValues) (a b c : Store) (first : List ℕ)
    (events writes : List LineEvent) (used more : Environment) (link next : ConnectionState)
    (waits : Type 0) (fault : ServeFault) → ServesSoFar settings a b first events used link
    → SentAll settings b c link more writes (Err fault) next → IsOwnEnd waits (Err fault)
    → ServesPromptly settings a c first (events ++ writes) (before used more) (Err fault)
serves-failed settings a b c first events writes used more link next waits Read so drained own =
    absurd own
serves-failed settings a b c first events writes used more link next waits Write so drained own =
    serves-part settings a b c first events writes used more link next drained.1.0 drained.1.1 so
    drained.0 drained.1.2
serves-failed settings a b c first events writes used more link next waits TooLong so drained own =
    serves-final settings a b c first events writes used more link next
    (Err TooLong) so drained.0 drained.1 tt
serves-failed settings a b c first events writes used more link next waits OutOfMemory so drained
    own = serves-final settings a b c first events writes used more link next
    (Err OutOfMemory) so drained.0 drained.1 tt

-- ---- the end of the input

-- less than a chunk waits, and nothing more was read
serves-over : (settings : SettingsValues) (a b : Store) (first : List ℕ) (events : List LineEvent)
    (piece : Option (List ℕ)) (used : Environment) (link : ConnectionState) (ending : Ending)
    → ServesSoFar settings a b first events used link → came_in (Came piece) ≡ []
    → (ending ≡ Ok EndOfInput → piece ≡ Some []) → NeedsBytes link
    → ((R : Content) (came out : List ℕ) (all : Environment) (last : ClientState)
    → IsEntire (chunks (site_of settings a))
    (record { client = new_client; content = R }) came all out (Ok EndOfInput) last
    → IsServed (chunks (site_of settings a))
    (record { client = new_client; content = R }) came all out ending last)
    → (more : Environment) × (more.readings ≡ [])
    × ServesPromptly settings a b first (events ++ Came piece ∷ []) (before used more) ending
serves-over settings a b first events piece used link ending so none over short is =
    let config = site_of settings a in
    let ms = end_marks link.waiting in
    let all = events ++ Came piece ∷ [] in
    let came = first ++ came_of events in
    let same : came ≡ first ++ came_of all =
    ap (λ (c : List ℕ). first ++ c) (sym
    (came-read events piece ∙ ap (λ (c : List ℕ). came_of events ++ c) none
    ∙ append-nil (came_of events))) in
    let Goal : (cs out : List ℕ) → Type 0 =
    λ cs out. Transitions a b (used.marks ++ ms)
    (λ marks R S. (last : ClientState) × (last.content ≡ S)
    × IsServed (chunks config) (record { client = new_client; content = R }) cs
    (record (before used (marked ms)) { marks = marks }) out ending last
    × ArePrompt config R (record (before used (marked ms)) { marks = marks }) first [] all) in
    let P : List ℕ → Type 0 = λ c. Goal c (went_of all) in
    let Q : List ℕ → Type 0 = λ o. Goal came o in (
      marked ms,
      refl,
      record {
        over = λ e. (events, ap (λ (p : Option (List ℕ)). events ++ Came p ∷ []) (over e));
        served = subst P same (subst Q (sym (went-read events piece))
            (moves-before-quiet a b used.marks ms (λ marks R S.
            AnswersBytes config (start_of came) R (record used { marks = marks })
            (went_of events) None link S
            × ArePrompt config R (record used { marks = marks }) first [] events)
            (λ marks R S. (last : ClientState) × (last.content ≡ S)
            × IsServed (chunks config) (record { client = new_client; content = R }) came
            (record (before used (marked ms)) { marks = marks }) (went_of events) ending last
            × ArePrompt config R (record (before used (marked ms)) { marks = marks }) first [] all)
            (end-quiet link.waiting)
            (λ ks R S r.
            let outside : Environment = record used { marks = ks } in
            let C : Client → Type 0 = λ c. chunk_header c.greeted c.limit link.waiting ≡ Ok None in
            let whole = whole-of config
            (record { client = new_client; content = R }) r.0.last came link.waiting
            (went_of events) outside r.0.answers (subst C (sym (r.0.goes refl)) short) in (
              r.0.last,
              r.0.content,
              is R came (went_of events) (before outside (marked ms)) r.0.last whole,
              prompts-later config R outside (marked ms) first [] all
                  (prompts-read config R S outside first events piece link r.0 short r.1),
            )) so));
      },
    )

-- the input is at its end
pub serves-end : (settings : SettingsValues) (a b : Store) (first : List ℕ)
    (events : List LineEvent) (used : Environment) (link : ConnectionState) (bytes : List ℕ)
    → ServesSoFar settings a b first events used link → bytes ≡ [] → NeedsBytes link
    → (more : Environment) × (more.readings ≡ [])
    × ServesPromptly settings a b first (events ++ Came (Some bytes) ∷ []) (before used more)
    (Ok EndOfInput)
serves-end settings a b first events used link bytes so empty short =
    serves-over settings a b first events (Some bytes) used link (Ok EndOfInput) so empty
    (λ e. ap (λ (b : List ℕ). Some b) empty) short (λ R came out all last w. w)

-- a fault of the reader
pub serves-read : (settings : SettingsValues) (a b : Store) (first : List ℕ)
    (events : List LineEvent) (used : Environment) (link : ConnectionState)
    → ServesSoFar settings a b first events used link → NeedsBytes link
    → (more : Environment) × (more.readings ≡ [])
    × ServesPromptly settings a b first (events ++ Came None ∷ []) (before used more) (Err Read)
serves-read settings a b first events used link so short =
    serves-over settings a b first events None used link (Err Read) so refl (λ e. absurd cc) short
    (λ R came out all last w. w)

-- ---- memory for bytes that came is wanting

-- an ERR says so, for bytes that wait
serves-want : (settings : SettingsValues) (a b : Store) (first : List ℕ)
    (events writes : List LineEvent) (used : Environment) (fed : ConnectionState) (result : Ending)
    → ServesSoFar settings a b first events used fed
    → 0 < length fed.waiting → SendsRefusal BAD_OUT_OF_MEMORY writes result
    → (more : Environment) × (more.readings ≡ [])
    × ServesPromptly settings a b first (events ++ writes) (before used more) result
serves-want settings a b first events writes used fed result now some sends = go result sends
  where
    -- what was written is a part of the message
    wrote : (out : List ℕ) (x : Ending)
        → (more : Environment) × (more.readings ≡ [])
        × ServesPromptly settings a b first (events ++ Went out ∷ []) (before used more) x
        → writes ≡ Went out ∷ []
        → (more : Environment) × (more.readings ≡ [])
        × ServesPromptly settings a b first (events ++ writes) (before used more) x
    wrote out x p is = let P : List LineEvent → Type 0 =
        λ w. (more : Environment) × (more.readings ≡ [])
        × ServesPromptly settings a b first (events ++ w) (before used more) x in subst P (sym is) p

    go : (r : Ending) → SendsRefusal BAD_OUT_OF_MEMORY writes r
        → (more : Environment) × (more.readings ≡ [])
        × ServesPromptly settings a b first (events ++ writes) (before used more) r
    go (Ok served) s =
        let code = error.canon BAD_OUT_OF_MEMORY in
        let t = starved-turned settings b fed fed [] code
        (Ok (Ended (Refused BAD_OUT_OF_MEMORY))) some (refl, refl) in
        let P : Served → Type 0 = λ x.
        ServesPromptly settings a b first (events ++ Went code ∷ []) (before used (marked t.0))
        (Ok x) in
        let T : List ℕ → Type 0 = λ o.
        Advances settings b b fed (marked t.0) o (Some (Ok (Refused BAD_OUT_OF_MEMORY))) fed in
        wrote code (Ok served) (
          marked t.0,
          refl,
          subst P (sym s.0) (serves-final settings a b b first events
              (Went code ∷ []) used (marked t.0) fed fed (Ok (Refused BAD_OUT_OF_MEMORY)) now tt
              (subst T (sym t.1.1 ∙ sym (append-nil code)) t.1.2) tt),
        ) s.1
    go (Err Read) s = absurd s
    go (Err Write) s =
        let code = error.canon BAD_OUT_OF_MEMORY in
        let t = starved-turned settings b fed fed [] code
        (Ok (Ended (Refused BAD_OUT_OF_MEMORY))) some (refl, refl) in
        let T : List ℕ → Type 0 = λ o.
        Advances settings b b fed (marked t.0) o (Some (Ok (Refused BAD_OUT_OF_MEMORY))) fed in
        wrote s.0 (Err Write) (
          marked t.0,
          refl,
          serves-part settings a b b first events (Went s.0 ∷ []) used (marked t.0) fed fed s.1
              (Some (Ok (Refused BAD_OUT_OF_MEMORY))) now tt
              (subst T (sym t.1.1 ∙ s.2 ∙ ap (λ (o : List ℕ). o ++ s.1) (sym (append-nil s.0)))
              t.1.2),
        ) s.3
    go (Err TooLong) s = absurd s
    go (Err OutOfMemory) s =
        let t = starved-turned settings b fed fed [] [] (Err OutOfMemory) some (refl, refl) in
        let T : List ℕ → Type 0 = λ o.
        Advances settings b b fed (marked t.0) o (Some (Err OutOfMemory)) fed in
        let P : List LineEvent → Type 0 =
        λ w. ServesPromptly settings a b first (events ++ w) (before used (marked t.0))
        (Err OutOfMemory) in (
          marked t.0,
          refl,
          subst P (sym s) (serves-final settings a b b first events [] used
              (marked t.0) fed fed (Err OutOfMemory) now tt (subst T (sym t.1.1) t.1.2) tt),
        )

pub serves-starved : (settings : SettingsValues) (a b : Store) (first : List ℕ)
    (events writes : List LineEvent) (used : Environment) (link : ConnectionState) (bytes : List ℕ)
    (result : Ending) → ServesSoFar settings a b first events used link → NeedsBytes link
    → 0 < length bytes → SendsRefusal BAD_OUT_OF_MEMORY writes result
    → (more : Environment) × (more.readings ≡ [])
    × ServesPromptly settings a b first ((events ++ Came (Some bytes) ∷ []) ++ writes)
    (before used more) result
serves-starved settings a b first events writes used link bytes result so short some sends =
    let fed : ConnectionState = record link { waiting = link.waiting ++ bytes } in
    serves-want settings a b first (events ++ Came (Some bytes) ∷ []) writes used fed result
    (serves-fed settings a b first events used link fed bytes so short refl)
    (omega (arith, some, length-append link.waiting bytes)) sends

-- memory for bytes that were read before was wanting
pub serves-unfed : (settings : SettingsValues) (a : Store) (first : List ℕ)
    (writes : List LineEvent) (result : Ending) → 0 < length first
    → SendsRefusal BAD_OUT_OF_MEMORY writes result
    → (more : Environment) × (more.readings ≡ [])
    × ServesPromptly settings a a first writes (before empty_environment more) result
serves-unfed settings a first writes result some sends =
    serves-want settings a a first [] writes empty_environment (start_of first) result
    (serves-start settings a (start_of first) refl) some sends

-- ---- over a reader and a writer

passed-known : (a b : Ways) (events : List LineEvent) → Passes a events b
    → Consumes a.unread b.unread (came_of events) × Appends a.written b.written (went_of events)
passed-known a b [] p =
    let P : Ways → Type 0 = λ w. Consumes a.unread w.unread [] × Appends a.written w.written [] in
    subst P p (Consumes-nil a.unread, Appends-nil a.written)
passed-known a b (Came None ∷ events) p =
    let later = passed-known p.0 b events p.2 in (
      kept_consumes a.unread p.0.unread b.unread (came_of events) p.1.0 later.0,
      kept_appends a.written p.0.written b.written (went_of events) p.1.1 later.1,
    )
passed-known a b (Came (Some bytes) ∷ events) p =
    let later = passed-known p.0 b events p.2 in (
      Consumes-trans a.unread p.0.unread b.unread bytes (came_of events) p.1.0 later.0,
      kept_appends a.written p.0.written b.written (went_of events) p.1.2 later.1,
    )
passed-known a b (Went bytes ∷ events) p =
    let later = passed-known p.0 b events p.2 in (
      kept_consumes a.unread p.0.unread b.unread (came_of events) p.1.0 later.0,
      Appends-trans a.written p.0.written b.written bytes (went_of events) p.1.1 later.1,
    )

-- the last read gave nothing
passed-over : (a b : Ways) (front : List LineEvent) → Passes a (front ++ Came (Some []) ∷ []) b
    → IsAtEnd b.unread
passed-over a b [] p = let P : Ways → Type 0 = λ w. IsAtEnd w.unread in subst P p.2 (p.1.1 refl)
passed-over a b (event ∷ front) p = passed-over p.0 b front p.2

pub behind_known : (settings : SettingsValues) (a b : Store) (first : List ℕ)
    (events : List LineEvent) (old new : Ways) (used : Environment) (ending : Ending)
    → ServesPromptly settings a b first events used ending → Passes old events new
    → ServesBehind settings a b first old.unread new.unread old.written new.written used ending
behind_known settings a b first events old new used ending serves passes =
    let known = passed-known old new events passes in
    let P : List LineEvent → Type 0 = λ e. Passes old e new in
    let config = site_of settings a in
    record {
      came = came_of events;
      out = went_of events;
      read = known.0;
      over = λ e. let end = serves.over e in passed-over old new end.0 (subst P end.1 passes);
      written = known.1;
      served = moves-as a b used.marks (λ marks R S. (last : ClientState) × (last.content ≡ S)
          × IsServed (chunks config) (record { client = new_client; content = R })
          (first ++ came_of events) (record used { marks = marks }) (went_of events) ending last
          × ArePrompt config R (record used { marks = marks }) first [] events)
          (λ marks R S. (last : ClientState) × (last.content ≡ S)
          × IsServed (chunks config) (record { client = new_client; content = R })
          (first ++ came_of events) (record used { marks = marks })
          (went_of events) ending last)
          (λ ms R S r. (r.0, r.1, r.2)) serves.served;
    }
