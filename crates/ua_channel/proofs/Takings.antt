-- Taking chunks, one after the other.
use Rattle.std.proofs.Common.{◌≡◌, ◌≢◌, ℕ, Bool, true, false, cond, List, [], ◌∷◌, length, Ok, Err, refl, sym, ap, subst, ◌∙◌, add-one, not, ◌&&◌, ◌==◌}
use Rattle.std.specs.Prelude.{Result}
use Rattle.ua_binary.specs.declared.fault.BinaryFault.{BinaryFault}
use Rattle.ua_binary.specs.Format.{◌>>=◌, Reading}
use Rattle.uacp.specs.declared.types.Kind.{Kind}
use Rattle.uacp.specs.declared.types.Kind.TheVariants.{Hello, Open, Close, Message}
use Rattle.uacp.specs.declared.types.Letter.{Letter}
use Rattle.uacp.specs.declared.types.Letter.TheVariants.{Final, More, Abort}
use Rattle.uacp.specs.declared.greeting.Hello.{Hello as Greeting}
use Rattle.uacp.specs.declared.greeting.Ack.{Ack}
use Rattle.uacp.specs.Stream.{ChunkContent}
use Rattle.ua_channel.specs.declared.fault.ChannelFault.{ChannelFault}
use Rattle.ua_channel.specs.declared.fault.ChannelFault.TheVariants.{ChannelId, Decoding, OutOfMemory}
use Rattle.ua_channel.specs.declared.taken.Taken.{Taken}
use Rattle.ua_channel.specs.Headers.{security_header, sequence_header, message_header, open_request}
use Rattle.ua_binary.specs.Rules.{checked}
use Rattle.ua_channel.specs.Placed.{Placed, Opens, Says, Closes, Heard, heard_of, placed_chunk, with_decoding_fault, asked_at, asked_rules, number_rules, size_rules, open_run}
use Rattle.ua_channel.proofs.PlacedParts.{sequence_rules, security_rules, judged_by}
use Rattle.ua_channel.specs.Taking.{ChannelState, new_channel, Takes, Refuses, Accepts, taken_answer, heard_after}
use Rattle.ua_channel.specs.Run.{ChannelCall, Took, Starved, Wrote, RunsChannel, chunks_of_run, answers_of_run, all_refused, answers_to, taken_by, taken_of, AreTaken}

-- a chunk that was judged well placed and then taken
pub takes-accepted : (heard heard' : Heard) (next limit max_message max_chunks : ℕ)
    (chunk : ChunkContent) (placed : Placed) (result : Result Taken ChannelFault)
    → placed_chunk heard chunk ≡ Ok placed → Accepts heard placed result heard'
    → Takes (record {
      heard = heard;
      next = next;
      limit = limit;
      max_message =
          max_message;
      max_chunks = max_chunks;
    }) chunk result
    (record {
      heard = heard';
      next = next;
      limit = limit;
      max_message = max_message;
      max_chunks =
          max_chunks;
    })
takes-accepted heard heard' next limit max_message max_chunks chunk placed (Ok t) is accepts = (
  placed,
  is,
  accepts.0,
  ap (λ (h : Heard).
      record {
        heard = h;
        next = next;
        limit = limit;
        max_message = max_message;
        max_chunks =
            max_chunks;
      }) accepts.1,
)
takes-accepted heard heard' next limit max_message max_chunks chunk placed (Err fault) is accepts =
    let old : ChannelState = record {
      heard = heard;
      next = next;
      limit = limit;
      max_message =
          max_message;
      max_chunks = max_chunks;
    } in
    let new : ChannelState = record {
      heard = heard';
      next = next;
      limit = limit;
      max_message =
          max_message;
      max_chunks = max_chunks;
    } in
    let same : new ≡ old = ap (λ (h : Heard).
    record {
      heard = h;
      next = next;
      limit = limit;
      max_message = max_message;
      max_chunks =
          max_chunks;
    }) accepts.2 in
    let P : ChannelFault → Type 0 = λ f. Refuses old chunk f new in
    subst P (sym accepts.0) ((placed, is, accepts.1), same)

-- ---- no rule is broken by want of memory

abbrev starves : ChannelFault → Bool
starves OutOfMemory = true
starves fault = false

abbrev starved : {A : Type 0} → Result A ChannelFault → Bool
starved (Ok a) = false
starved (Err fault) = starves fault

abbrev none_starves : List (Bool × ChannelFault) → Bool
none_starves [] = true
none_starves (rule ∷ rules) = not (starves rule.1) && none_starves rules

bind_fine : {A B : Type 0} (r : Result A ChannelFault) (f : A → Result B ChannelFault)
    → starved r ≡ false → ((a : A) → starved (f a) ≡ false) → starved (r >>= f) ≡ false
bind_fine (Ok a) f fine later = later a
bind_fine (Err fault) f fine later = fine

both : (a b : Bool) → (not a && b) ≡ true → (a ≡ false) × (b ≡ true)
both true b e = absurd cc
both false b e = (refl, e)

checked_by : (t : Bool) (rest : Result (Unit {0}) ChannelFault) (fault : ChannelFault)
    → starved rest ≡ false → starves fault ≡ false → starved (cond t rest (Err fault)) ≡ false
checked_by true rest fault fine told = fine
checked_by false rest fault fine told = told

checked_fine : (rules : List (Bool × ChannelFault)) → none_starves rules ≡ true
    → starved (checked rules) ≡ false
checked_fine [] e = refl
checked_fine (rule ∷ rules) e = let h = both (starves rule.1) (none_starves rules) e in
    checked_by rule.0 (checked rules) rule.1 (checked_fine rules h.1) h.0

decoded_fine : {A : Type 0} (r : Reading BinaryFault A) → starved (with_decoding_fault r) ≡ false
decoded_fine (Ok a) = refl
decoded_fine (Err fault) = refl

all_fine : {A : Type 0} (t : Bool) (v : A) → (let r : Result A ChannelFault =
    cond t (Ok v) (Err Decoding) in starved r) ≡ false
all_fine true v = refl
all_fine false v = refl

size_fine : (heard : Heard) (letter : Letter) (body : List ℕ)
    → none_starves (size_rules heard letter body) ≡ true
size_fine heard Final body = refl
size_fine heard More body = refl
size_fine heard Abort body = refl

judged_by_fine : (heard : Heard) (kind : Kind) (letter : Letter) (body : List ℕ)
    → starved (judged_by heard kind letter body) ≡ false
judged_by_fine heard Hello letter body = refl
judged_by_fine heard Open letter body =
    bind_fine (with_decoding_fault (security_header.read body)) _
    (decoded_fine (security_header.read body)) (λ security.
    bind_fine (checked (security_rules heard security.0)) _
    (checked_fine (security_rules heard security.0) refl) (λ _.
    bind_fine (with_decoding_fault (sequence_header.read security.1)) _
    (decoded_fine (sequence_header.read security.1)) (λ sequence.
    bind_fine (checked (sequence_rules heard sequence.0)) _
    (checked_fine (sequence_rules heard sequence.0) refl) (λ _.
    bind_fine (asked_at sequence.1) _ (bind_fine
    (with_decoding_fault (open_request.read sequence.1)) _
    (decoded_fine (open_request.read sequence.1)) (λ a. all_fine (length a.1 == 0) a.0))
    (λ asked.
    bind_fine (checked (asked_rules heard asked)) _ (checked_fine (asked_rules heard asked) refl)
    (λ _. refl))))))
judged_by_fine heard Close letter body =
    bind_fine (with_decoding_fault (message_header.read body)) _
    (decoded_fine (message_header.read body)) (λ header.
    bind_fine (checked (number_rules heard header.0)) _
    (checked_fine (number_rules heard header.0) refl) (λ _. refl))
judged_by_fine heard Message letter body =
    bind_fine (with_decoding_fault (message_header.read body)) _
    (decoded_fine (message_header.read body)) (λ header.
    bind_fine (checked (number_rules heard header.0)) _
    (checked_fine (number_rules heard header.0) refl) (λ _.
    bind_fine (checked (size_rules heard letter header.1)) _
    (checked_fine (size_rules heard letter header.1) (size_fine heard letter header.1))
    (λ _. refl)))

ended_fine : (e : Bool) (r : Result Placed ChannelFault) → starved r ≡ false
    → starved (cond e (Err ChannelId) r) ≡ false
ended_fine true r fine = refl
ended_fine false r fine = fine

judged_fine : (heard : Heard) (chunk : ChunkContent) → starved (placed_chunk heard chunk) ≡ false
judged_fine heard chunk = ended_fine heard.ended
    (judged_by heard chunk.kind chunk.letter chunk.body)
    (judged_by_fine heard chunk.kind chunk.letter chunk.body)

never-starved : (heard : Heard) (chunk : ChunkContent) → placed_chunk heard chunk ≢ Err OutOfMemory
never-starved heard chunk e = let f : starved (placed_chunk heard chunk) ≡ true = ap starved e in
    let g = judged_fine heard chunk in cc

refuses-by : (old new : ChannelState) (chunk : ChunkContent) (fault : ChannelFault)
    → fault ≢ OutOfMemory → placed_chunk old.heard chunk ≡ Err fault
    → new ≡ record old { heard = record old.heard { ended = true } } → Refuses old chunk fault new
refuses-by old new chunk OutOfMemory told is ended = absurd (told refl)
refuses-by old new chunk _ told is ended = (is, ended)

pub refuses-told : (old new : ChannelState) (chunk : ChunkContent) (fault : ChannelFault)
    → fault ≢ OutOfMemory → Refuses old chunk fault new
    → (placed_chunk old.heard chunk ≡ Err fault)
    × (new ≡ record old { heard = record old.heard { ended = true } })
refuses-told old new chunk OutOfMemory told refuses = absurd (told refl)
refuses-told old new chunk _ told refuses = refuses

-- a chunk that was judged ill placed
pub takes-refused : (old new : ChannelState) (chunk : ChunkContent) (fault : ChannelFault)
    → placed_chunk old.heard chunk ≡ Err fault
    → new ≡ record old { heard = record old.heard { ended = true } } → Refuses old chunk fault new
takes-refused old new chunk fault is ended =
    refuses-by old new chunk fault (λ e. never-starved old.heard chunk (is ∙ ap Err e)) is ended

-- what is known after a chunk is what is known of all chunks
pub after-heard : (past : List Placed) (placed : Placed)
    → heard_after (heard_of past) placed ≡ heard_of (placed ∷ past)
after-heard past (Opens sequence asked) = refl
after-heard past (Says Final numbers body) = refl
after-heard past (Says More numbers body) =
    ap (λ n. record (heard_of (Says More numbers body ∷ past)) { chunks = n })
    (add-one (length (open_run past)))
after-heard past (Says Abort numbers body) = refl
after-heard past (Closes numbers) = refl

judged-ended : (heard : Heard) (chunk : ChunkContent) (e : Bool) → heard.ended ≡ e → e ≡ true
    → placed_chunk heard chunk ≡ Err ChannelId
judged-ended heard chunk e is ended = rw (is ∙ ended) refl

-- an ended channel takes nothing more
refused : (events : List ChannelCall) (old new : ChannelState) → old.heard.ended ≡ true
    → RunsChannel old events new → answers_of_run events ≡ all_refused (chunks_of_run events)
refused [] old new ended run = refl
refused (Took chunk (Ok t) ∷ events) old new ended run =
    let wrong = judged-ended old.heard chunk true ended refl in
    let right = run.1.0.1 in absurd cc
refused (Took chunk (Err fault) ∷ events) old new ended run =
    let is = judged-ended old.heard chunk true ended refl in
    let refuses = refuses-told old run.0 chunk fault (λ e. run.1.1 (ap Err e)) run.1.0 in
    let told = refuses.0 in
    let same : fault ≡ ChannelId = cc in
    let still : run.0.heard.ended ≡ true = ap (λ (s : ChannelState). s.heard.ended) refuses.1 in
    rw same (ap (λ rest. Err ChannelId ∷ rest) (refused events run.0 new still run.2))
refused (Starved chunk ∷ events) old new ended run =
    refused events run.0 new (ap (λ (s : ChannelState). s.heard.ended) run.1.1 ∙ ended) run.2
refused (Wrote count ∷ events) old new ended run =
    refused events run.0 new (ap (λ (s : ChannelState). s.heard.ended) run.1 ∙ ended) run.2

told : (past : List Placed) (events : List ChannelCall) (old new : ChannelState)
    → old.heard ≡ heard_of past → RunsChannel old events new
    → answers_of_run events ≡ answers_to past (chunks_of_run events)
told past [] old new knows run = refl
told past (Took chunk (Ok t) ∷ events) old new knows run =
    let placed = run.1.0.0 in
    let is : placed_chunk (heard_of past) chunk ≡ Ok placed =
    subst (λ h. placed_chunk h chunk ≡ Ok placed) knows run.1.0.1 in
    let answer : t ≡ taken_answer (heard_of past) placed =
    subst (λ h. t ≡ taken_answer h placed) knows run.1.0.2 in
    let later : run.0.heard ≡ heard_of (placed ∷ past) =
    ap (λ (s : ChannelState). s.heard) run.1.0.3 ∙ ap (λ h. heard_after h placed) knows
    ∙ after-heard past placed in
    rw (is, answer) (ap (λ rest. Ok (taken_answer (heard_of past) placed) ∷ rest)
    (told (placed ∷ past) events run.0 new later run.2))
told past (Took chunk (Err fault) ∷ events) old new knows run =
    let refuses = refuses-told old run.0 chunk fault (λ e. run.1.1 (ap Err e)) run.1.0 in
    let is : placed_chunk (heard_of past) chunk ≡ Err fault =
    subst (λ h. placed_chunk h chunk ≡ Err fault) knows refuses.0 in
    let ended : run.0.heard.ended ≡ true = ap (λ (s : ChannelState). s.heard.ended) refuses.1 in
    rw is (ap (λ rest. Err fault ∷ rest) (refused events run.0 new ended run.2))
told past (Starved chunk ∷ events) old new knows run =
    told past events run.0 new (ap (λ (s : ChannelState). s.heard) run.1.1 ∙ knows) run.2
told past (Wrote count ∷ events) old new knows run =
    told past events run.0 new (ap (λ (s : ChannelState). s.heard) run.1 ∙ knows) run.2

pub takes-answer : (start : ChannelState) (events : List ChannelCall) (state : ChannelState)
    → start.heard ≡ heard_of [] → RunsChannel start events state
    → answers_of_run events ≡ answers_to [] (chunks_of_run events)
takes-answer start events state knows run = told [] events start state knows run

pub takes-answer-fresh : (hello : Greeting) (ack : Ack) (events : List ChannelCall)
    (state : ChannelState) → RunsChannel (new_channel hello ack) events state
    → answers_of_run events ≡ answers_to [] (chunks_of_run events)
takes-answer-fresh hello ack events state run =
    takes-answer (new_channel hello ack) events state refl run

-- ---- what a channel knows

-- an ended channel keeps what it knows
stays : (events : List ChannelCall) (old new : ChannelState) → old.heard.ended ≡ true
    → RunsChannel old events new → new.heard ≡ old.heard
stays [] old new ended run = ap (λ (s : ChannelState). s.heard) run
stays (Took chunk (Ok t) ∷ events) old new ended run =
    let wrong = judged-ended old.heard chunk true ended refl in
    let right = run.1.0.1 in absurd cc
stays (Took chunk (Err fault) ∷ events) old new ended run =
    let refuses = refuses-told old run.0 chunk fault (λ e. run.1.1 (ap Err e)) run.1.0 in
    let still : run.0.heard.ended ≡ true = ap (λ (s : ChannelState). s.heard.ended) refuses.1 in
    stays events run.0 new still run.2 ∙ ap (λ (s : ChannelState). s.heard) refuses.1
    ∙ ap (λ e. record old.heard { ended = e }) (sym ended)
stays (Starved chunk ∷ events) old new ended run =
    stays events run.0 new (ap (λ (s : ChannelState). s.heard.ended) run.1.1 ∙ ended) run.2
    ∙ ap (λ (s : ChannelState). s.heard) run.1.1
stays (Wrote count ∷ events) old new ended run =
    stays events run.0 new (ap (λ (s : ChannelState). s.heard.ended) run.1 ∙ ended) run.2
    ∙ ap (λ (s : ChannelState). s.heard) run.1

but_ended : (known heard : Heard) → heard ≡ known → heard ≡ record known { ended = heard.ended }
but_ended known heard is = is ∙ ap (λ e. record known { ended = e })
    (sym (ap (λ (h : Heard). h.ended) is))

knows_after : (past : List Placed) (events : List ChannelCall) (old new : ChannelState)
    → old.heard ≡ heard_of past → RunsChannel old events new
    → new.heard ≡ record (heard_of (taken_of past (chunks_of_run events)))
    { ended = new.heard.ended }
knows_after past [] old new knows run =
    but_ended (heard_of past) new.heard (ap (λ (s : ChannelState). s.heard) run ∙ knows)
knows_after past (Took chunk (Ok t) ∷ events) old new knows run =
    let placed = run.1.0.0 in
    let is : placed_chunk (heard_of past) chunk ≡ Ok placed =
    subst (λ h. placed_chunk h chunk ≡ Ok placed) knows run.1.0.1 in
    let later : run.0.heard ≡ heard_of (placed ∷ past) =
    ap (λ (s : ChannelState). s.heard) run.1.0.3 ∙ ap (λ h. heard_after h placed) knows
    ∙ after-heard past placed in
    rw is (knows_after (placed ∷ past) events run.0 new later run.2)
knows_after past (Took chunk (Err fault) ∷ events) old new knows run =
    let refuses = refuses-told old run.0 chunk fault (λ e. run.1.1 (ap Err e)) run.1.0 in
    let is : placed_chunk (heard_of past) chunk ≡ Err fault =
    subst (λ h. placed_chunk h chunk ≡ Err fault) knows refuses.0 in
    let ended : run.0.heard.ended ≡ true = ap (λ (s : ChannelState). s.heard.ended) refuses.1 in
    let same : new.heard ≡ record (heard_of past) { ended = true } =
    stays events run.0 new ended run.2 ∙ ap (λ (s : ChannelState). s.heard) refuses.1
    ∙ ap (λ (h : Heard). let k : Heard = record h { ended = true } in k) knows in
    rw is (same ∙ ap (λ e. record (heard_of past) { ended = e })
    (sym (ap (λ (h : Heard). h.ended) same)))
knows_after past (Starved chunk ∷ events) old new knows run =
    knows_after past events run.0 new (ap (λ (s : ChannelState). s.heard) run.1.1 ∙ knows) run.2
knows_after past (Wrote count ∷ events) old new knows run =
    knows_after past events run.0 new (ap (λ (s : ChannelState). s.heard) run.1 ∙ knows) run.2

pub knows-taken : (hello : Greeting) (ack : Ack) (events : List ChannelCall) (state : ChannelState)
    → RunsChannel (new_channel hello ack) events state
    → state.heard ≡ record (heard_of (taken_of [] (chunks_of_run events)))
    { ended = state.heard.ended }
knows-taken hello ack events state run =
    knows_after [] events (new_channel hello ack) state refl run

taken_one : (past : List Placed) (chunk : ChunkContent) (r : Result Placed ChannelFault)
    (later : Placed → List Placed) → placed_chunk (heard_of past) chunk ≡ r → AreTaken past
    → ((placed : Placed) → AreTaken (placed ∷ past) → AreTaken (later placed))
    → AreTaken (taken_by later past r)
taken_one past chunk (Ok placed) later is taken goes = goes placed ((chunk, is), taken)
taken_one past chunk (Err fault) later is taken goes = taken

taken_after : (chunks : List ChunkContent) (past : List Placed) → AreTaken past
    → AreTaken (taken_of past chunks)
taken_after [] past taken = taken
taken_after (chunk ∷ chunks) past taken =
    taken_one past chunk (placed_chunk (heard_of past) chunk)
    (λ placed. taken_of (placed ∷ past) chunks) refl taken
    (λ placed more. taken_after chunks (placed ∷ past) more)

pub taken-placed : (chunks : List ChunkContent) → AreTaken (taken_of [] chunks)
taken-placed chunks = taken_after chunks [] tt

pub ruleset knowing = (knows-taken, taken-placed)

pub ruleset refusing = (takes-refused)

pub ruleset answering = (takes-answer-fresh)
